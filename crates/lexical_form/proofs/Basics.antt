-- Small lemmas on lists, tests and readings.
use Rattle.std.proofs.Common.{◌≡◌, ℕ, Bool, true, false, cond, not, ◌&&◌, List, ◌∷◌, Option, Some, None, refl, ap, arith, ◌⊎◌, inl, inr}
use Rattle.std.specs.Prelude.{◌==◌}
use Rattle.std.proofs.lemmas.Bool.Decides.{nat_tests}

pub head_is : {A : Type 0} (c d : A) (cs ds : List A) → (c ∷ cs) ≡ d ∷ ds → c ≡ d
head_is c d cs ds e = cc

pub tail_is : {A : Type 0} (c d : A) (cs ds : List A) → (c ∷ cs) ≡ d ∷ ds → cs ≡ ds
tail_is c d cs ds e = cc

pub and_left : (a b : Bool) → (a && b) ≡ true → a ≡ true
and_left true b h = refl
and_left false b h = let no : false ≡ true = h in absurd cc

pub and_right : (a b : Bool) → (a && b) ≡ true → b ≡ true
and_right true b h = h
and_right false b h = let no : false ≡ true = h in absurd cc

pub both : (a b : Bool) → a ≡ true → b ≡ true → (a && b) ≡ true
both true b h k = k
both false b h k = let no : false ≡ true = h in absurd cc

pub not_true : (a : Bool) → not a ≡ true → a ≡ false
not_true true h = let no : false ≡ true = h in absurd cc
not_true false h = refl

pub not_false : (a : Bool) → a ≡ false → not a ≡ true
not_false a h = rw h refl

pub is_code : (c m : ℕ) → (c == m) ≡ true → c ≡ m
is_code c m e = grind (arith, nat_tests)

pub other_code : (c m : ℕ) → (c ≡ m → ⊥) → (c == m) ≡ false
other_code c m e = grind (arith, nat_tests)

-- a choice came out so: which way it went
pub chosen : {A : Type 0} (b : Bool) (x y : A) (z : A) → cond b x y ≡ z → ((b ≡ true) × (x ≡ z)) ⊎ ((b ≡ false) × (y ≡ z))
chosen true x y z e = inl (refl, e)
chosen false x y z e = inr (refl, e)

pub if_some : {A : Type 0} (b : Bool) (x : Option A) (z : A) → cond b x None ≡ Some z → (b ≡ true) × (x ≡ Some z)
if_some true x z e = (refl, e)
if_some false x z e = let no : None ≡ Some z = e in absurd cc

pub unless_some : {A : Type 0} (b : Bool) (x : Option A) (z : A) → cond b None x ≡ Some z → (b ≡ false) × (x ≡ Some z)
unless_some false x z e = (refl, e)
unless_some true x z e = let no : None ≡ Some z = e in absurd cc

pub some_is : {A : Type 0} (x y : A) → Some x ≡ Some y → x ≡ y
some_is x y e = cc

-- what was read is this piece, and the rest that one
pub read_is : {A : Type 0} (x y : A) (xs ys : List ℕ) → ◌≡◌ {A = Option (A × List ℕ)} (Some (x, xs)) (Some (y, ys)) → (x ≡ y) × (xs ≡ ys)
read_is {A} x y xs ys e = let p = some_is {A = A × List ℕ} (x, xs) (y, ys) e in (ap (λ (z : A × List ℕ). z.0) p, ap (λ (z : A × List ℕ). z.1) p)

pub not_some : {A : Type 0} {B : Type 0} (x : A) → ◌≡◌ {A = Option A} None (Some x) → B
not_some x e = absurd cc
