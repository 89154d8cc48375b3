-- What a map has at a name after a change, and where a name stands among those of a cell.
use Rattle.std.proofs.Common.{◌≡◌, Bool, true, false, cond, not, ⊎_elim, List, [], ◌∷◌, ◌++◌, Option, Some, None, refl, sym, ap, ◌∙◌, subst}
use Rattle.std.specs.Str.{bytes_eq}
use Rattle.std.proofs.lemmas.Bool.{and_from, cases_Bool, both_ways, or_cases, or_left, or_right, not_from_false}
use Rattle.std.proofs.lemmas.List.Folds.{list_any-append}
use Rattle.py_tree.specs.Names.{Name, is_among, is_local}
use Rattle.py_tree.specs.Scope.{bound, read_names, is_free, defs, refs}
use Rattle.py_tree.specs.Trees.{Cell}
use Rattle.py_value.specs.Maps.{Map, look_up, put, where_name}
use Rattle.py_value.proofs.SortedMaps.{look_up-put, look_up-put_other, look_up-where_name, name_of, same_name}
use Rattle.py_tree.proofs.NamesOf.{among_defs, among_refs}

-- ---- names

pub name_itself : (x : Name) → bytes_eq x x ≡ true
name_itself x = same_name x x refl

pub among_one : (x y : Name) → is_among x (y ∷ []) ≡ true → y ≡ x
among_one x y h = ⊎_elim (name_of y x) (λ no. absurd (both_ways false refl no)) (or_cases _ _ h)

pub among_first : (x : Name) (xs : List Name) → is_among x (x ∷ xs) ≡ true
among_first x xs = or_left _ _ (name_itself x)

pub among_left : (x : Name) (xs ys : List Name) → is_among x xs ≡ true → is_among x (xs ++ ys) ≡ true
among_left x xs ys h = list_any-append _ xs ys ∙ or_left _ _ h

pub among_right : (x : Name) (xs ys : List Name) → is_among x ys ≡ true → is_among x (xs ++ ys) ≡ true
among_right x xs ys h = list_any-append _ xs ys ∙ or_right _ _ h

-- ---- what a map has at a name

-- the maps have the same at each of these names
abbrev pub Agree : {V : Type 0} → List Name → Map V → Map V → Type 0
Agree names m n = (x : Name) → is_among x names ≡ true → look_up x m ≡ look_up x n

pub agree_left : {V : Type 0} (xs ys : List Name) (m n : Map V) → Agree (xs ++ ys) m n → Agree xs m n
agree_left xs ys m n h x here = h x (among_left x xs ys here)

pub agree_right : {V : Type 0} (xs ys : List Name) (m n : Map V) → Agree (xs ++ ys) m n → Agree ys m n
agree_right xs ys m n h x here = h x (among_right x xs ys here)

-- what two maps have at a name is related, also after a name is put in both
pub put_related : {V : Type 0} (R : Option V → Option V → Type 0) (x y : Name) (v w : V) (m n : Map V) → (x ≡ y → R (Some v) (Some w))
    → R (look_up y m) (look_up y n) → R (look_up y (put x v m)) (look_up y (put x w n))
put_related R x y v w m n here else = ⊎_elim
    (λ same.
    let left : look_up y (put x v m) ≡ Some v = ap (λ z. look_up z (put x v m)) (sym (name_of x y same)) ∙ look_up-put x v m in
    let right : look_up y (put x w n) ≡ Some w = ap (λ z. look_up z (put x w n)) (sym (name_of x y same)) ∙ look_up-put x w n in
    subst (λ o. R o (look_up y (put x w n))) (sym left) (subst (R (Some v)) (sym right) (here (name_of x y same))))
    (λ apart.
    subst (λ o. R o (look_up y (put x w n))) (sym (look_up-put_other x y v m apart)) (subst (R (look_up y m)) (sym (look_up-put_other x y w n apart)) else))
    (cases_Bool (bytes_eq x y))

pub put_both : {V : Type 0} (x y : Name) (v : V) (m n : Map V) → look_up y m ≡ look_up y n → look_up y (put x v m) ≡ look_up y (put x v n)
put_both x y v m n h = put_related (λ o p. o ≡ p) x y v v m n (λ _. refl) h

pub where_related : {V : Type 0} (R : Option V → Option V → Type 0) (p : Name → Bool) (x : Name) (m n : Map V) → R None None
    → R (look_up x m) (look_up x n) → R (look_up x (where_name p m)) (look_up x (where_name p n))
where_related R p x m n none h =
    subst (λ o. R o (look_up x (where_name p n))) (sym (look_up-where_name p x m))
    (subst (R (cond (p x) (look_up x m) None)) (sym (look_up-where_name p x n)) (either (p x) refl)) where
      either : (b : Bool) → b ≡ p x → R (cond b (look_up x m) None) (cond b (look_up x n) None)
      either true is = h
      either false is = none

-- ---- the names that a cell reads and binds

-- a name that is bound in a cell and doesn't begin with an underscore is one of its definitions
pub bound_defs : (c : Cell) (x : Name) → is_among x (bound c.body) ≡ true → is_local x ≡ false → is_among x (defs c) ≡ true
bound_defs c x here plain = among_defs x c ∙ and_from (is_among x (bound c.body)) (not (is_local x)) here (not_from_false _ plain)

-- a name that is read in a cell and free there is one that it references
pub read_refs : (c : Cell) (x : Name) → is_among x (read_names c.body) ≡ true → is_free (bound c.body) x ≡ true → is_among x (refs c) ≡ true
read_refs c x here free = among_refs x c ∙ and_from (is_among x (read_names c.body)) (is_free (bound c.body) x) here free
