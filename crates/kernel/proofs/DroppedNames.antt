-- Names that are dropped one after the other.
use Rattle.std.proofs.Common.{◌≡◌, ◌∙◌, refl, sym, ap, ℕ, suc, ◌+◌, ◌≤◌, ◌<◌, not, List, [], ◌∷◌, ◌++◌, length, drop, get_or, drop-cons, add-one, arith}
use Rattle.std.specs.Prelude.{flat_map}
use Rattle.std.specs.Str.{bytes_eq}
use Rattle.std.proofs.lemmas.List.{drop_all}
use Rattle.py_tree.specs.Names.{is_among}
use Rattle.py_value.specs.Maps.{Map, where_name}
use Rattle.kernel.proofs.WithoutNames.{without_more, without_none}

-- the entries whose names are none of these
abbrev pub apart_from : {V : Type 0} → List (List ℕ) → Map V → Map V
apart_from names m = where_name (λ x. not (is_among x names)) m

-- a name is dropped, and then others
first_dropped : {V : Type 0} (name : List ℕ) (rest : List (List ℕ)) (m : Map V)
    → apart_from rest (where_name (λ x. not (bytes_eq x name)) m) ≡ apart_from (name ∷ rest) m
first_dropped name rest m = without_more (name ∷ rest) 0 name m (omega arith) refl

-- the name at a place is dropped, then those after it, and then the rest
pub next_dropped : {V : Type 0} (names rest : List (List ℕ)) (i : ℕ) (name : List ℕ) (m : Map V) → i < length names → name ≡ get_or names i name
    → apart_from (drop (i + 1) names ++ rest) (where_name (λ x. not (bytes_eq x name)) m) ≡ apart_from (drop i names ++ rest) m
next_dropped names rest i name m h is =
    let cut : drop i names ≡ name ∷ drop (i + 1) names =
    drop-cons names i name h ∙ ap (λ n. n ∷ drop (suc i) names) (sym is) ∙ ap (λ k. name ∷ drop k names) (sym (add-one i)) in
    first_dropped name (drop (i + 1) names ++ rest) m ∙ ap (λ ns. apart_from (ns ++ rest) m) (sym cut)

-- no cells are left
pub no_names : {V : Type 0} (f : ℕ → List (List ℕ)) (cells : List ℕ) (i : ℕ) (m : Map V) → length cells ≤ i
    → apart_from (flat_map f (drop i cells)) m ≡ m
no_names f cells i m h = ap (λ cs. apart_from (flat_map f cs) m) (drop_all i cells h) ∙ without_none [] 0 m (omega arith)
