-- Bindings without some names.
use Rattle.std.proofs.Common.{◌≡◌, ◌∙◌, refl, sym, ap, ℕ, suc, ◌+◌, ◌≤◌, ◌<◌, Bool, true, false, cond, not, ◌&&◌, ◌||◌, List, [], ◌∷◌, length, drop, get_or, drop-cons, add-one, arith}
use Rattle.std.proofs.Math.Bool.{and_comm, and_self}
use Rattle.std.specs.Bool.{one_answer}
use Rattle.std.proofs.lemmas.List.{drop_all}
use Rattle.std.specs.Str.{bytes_eq}
use Rattle.std.proofs.lemmas.Slice.Eq.{bytes_eq-Decides}
use Rattle.py_tree.specs.Names.{is_among}
use Rattle.py_value.specs.Maps.{Map, where_name}

-- one choice after another
pub where_name_twice : {V : Type 0} (p q : List ℕ → Bool) (m : Map V) → where_name p (where_name q m) ≡ where_name (λ x. q x && p x) m
where_name_twice p q [] = refl
where_name_twice p q (e ∷ es) =
    elim (q e.0) as (λ b. where_name p (cond b (e ∷ where_name q es) (where_name q es)) ≡ cond (b && p e.0) (e ∷ where_name (λ x. q x && p x) es) (where_name (λ x. q x && p x) es))
    [ true ↦ ap (λ r. cond (p e.0) (e ∷ r) r) (where_name_twice p q es) | false ↦ where_name_twice p q es ]

-- tests that are the same choose the same
pub where_name_same : {V : Type 0} (p q : List ℕ → Bool) → ((x : List ℕ) → p x ≡ q x) → (m : Map V) → where_name p m ≡ where_name q m
where_name_same p q h [] = refl
where_name_same p q h (e ∷ es) = λ i. cond (h e.0 i) (e ∷ where_name_same p q h es i) (where_name_same p q h es i)

-- the order of two choices doesn't count
pub where_name_swap : {V : Type 0} (p q : List ℕ → Bool) (m : Map V) → where_name p (where_name q m) ≡ where_name q (where_name p m)
where_name_swap p q m = where_name_twice p q m ∙ where_name_same _ _ (λ x. and_comm (q x) (p x)) m ∙ sym (where_name_twice q p m)

-- a choice made again changes nothing
pub where_name_again : {V : Type 0} (p : List ℕ → Bool) (m : Map V) → where_name p (where_name p m) ≡ where_name p m
where_name_again p m = where_name_twice p p m ∙ where_name_same _ _ (λ x. and_self (p x)) m

pub where_name_short : {V : Type 0} (p : List ℕ → Bool) (m : Map V) → length (where_name p m) ≤ length m
where_name_short p [] = omega arith
where_name_short p (e ∷ es) =
    elim (p e.0) as (λ b. length (cond b (e ∷ where_name p es) (where_name p es)) ≤ length (e ∷ es))
    [ true ↦ omega (arith, where_name_short p es) | false ↦ omega (arith, where_name_short p es) ]

tail_of : {V : Type 0} (e : List ℕ × V) (xs ys : Map V) → e ∷ xs ≡ e ∷ ys → xs ≡ ys
tail_of e xs ys h = cc

-- the first entry passes, and the others do
first_and_rest : {V : Type 0} (q : List ℕ → Bool) (e : List ℕ × V) (es : Map V) → q e.0 ≡ true → where_name q es ≡ es → where_name q (e ∷ es) ≡ e ∷ es
first_and_rest q e es on rest = ap (λ b. cond b (e ∷ where_name q es) (where_name q es)) on ∙ ap (λ r. e ∷ r) rest

-- where a choice keeps a list, it keeps its first entry and the others
kept_first : {V : Type 0} (q : List ℕ → Bool) (e : List ℕ × V) (es : Map V) (b : Bool) → cond b (e ∷ where_name q es) (where_name q es) ≡ e ∷ es → (b ≡ true) × (where_name q es ≡ es)
kept_first q e es true k = (refl, tail_of e _ _ k)
kept_first q e es false k = absurd (omega (arith, where_name_short q es, ap length k))

by_first : {V : Type 0} (q : List ℕ → Bool) (e : List ℕ × V) (es chosen : Map V) → (where_name q chosen ≡ chosen → where_name q es ≡ es) → (b : Bool) → (b ≡ false → q e.0 ≡ true) → where_name q (cond b (e ∷ chosen) chosen) ≡ cond b (e ∷ chosen) chosen → where_name q (e ∷ es) ≡ e ∷ es
by_first q e es chosen rest true h k = let both = kept_first q e chosen (q e.0) k in first_and_rest q e es both.0 (rest both.1)
by_first q e es chosen rest false h k = first_and_rest q e es (h refl) (rest k)

-- where the names that pass p pass q, and so do those that don't, all pass q
pub where_name_all : {V : Type 0} (p q : List ℕ → Bool) (m : Map V) → ((x : List ℕ) → p x ≡ false → q x ≡ true) → where_name q (where_name p m) ≡ where_name p m → where_name q m ≡ m
where_name_all p q [] h k = refl
where_name_all p q (e ∷ es) h k = by_first q e es (where_name p es) (where_name_all p q es h) (p e.0) (h e.0) k

where_name_true : {V : Type 0} (m : Map V) → where_name (λ x. true) m ≡ m
where_name_true [] = refl
where_name_true (e ∷ es) = ap (λ r. e ∷ r) (where_name_true es)

bytes_swap : (x y : List ℕ) → bytes_eq x y ≡ bytes_eq y x
bytes_swap x y = let d = bytes_eq-Decides y x in one_answer (bytes_eq x y) (bytes_eq y x) (bytes_eq-Decides x y) ((λ h. sym (d.0 h)), (λ e. d.1 (sym e)))

neither : (a b : Bool) → (not a && not b) ≡ not (a || b)
neither true b = refl
neither false b = refl

-- a name is taken out, and then the names after it
pub without_more : {V : Type 0} (names : List (List ℕ)) (i : ℕ) (name : List ℕ) (env : Map V) → i < length names → name ≡ get_or names i name → where_name (λ x. not (is_among x (drop (i + 1) names))) (where_name (λ x. not (bytes_eq x name)) env) ≡ where_name (λ x. not (is_among x (drop i names))) env
without_more names i name env h is =
    let cut : drop i names ≡ name ∷ drop (i + 1) names = drop-cons names i name h ∙ ap (λ n. n ∷ drop (suc i) names) (sym is) ∙ ap (λ k. name ∷ drop k names) (sym (add-one i)) in
    where_name_twice _ _ env
    ∙ where_name_same _ _ (λ x. ap (λ b. not b && not (is_among x (drop (i + 1) names))) (bytes_swap x name) ∙ neither (bytes_eq name x) (is_among x (drop (i + 1) names)) ∙ sym (ap (λ ns. not (is_among x ns)) cut)) env

-- no names are left
pub without_none : {V : Type 0} (names : List (List ℕ)) (i : ℕ) (env : Map V) → length names ≤ i → where_name (λ x. not (is_among x (drop i names))) env ≡ env
without_none names i env h = ap (λ ns. where_name (λ x. not (is_among x ns)) env) (drop_all i names h) ∙ where_name_true env
