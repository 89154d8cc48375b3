-- What holds of each spelling of a table holds of a spelling that is among them.
use Rattle.std.proofs.Common.{◌≡◌, ℕ, Bool, true, false, List, [], ◌∷◌, refl, sym, ap, ◌∙◌}
use Rattle.std.specs.Prelude.{◌||◌}
use Rattle.std.specs.List.{list_all}
use Rattle.std.specs.Str.{bytes_eq}
use Rattle.std.proofs.lemmas.Slice.Eq.{bytes_eq-Decides}
use Rattle.py_tree.specs.Names.{is_among}
use Rattle.lexical_form.proofs.Basics.{and_left, and_right}

one_of : (P : List ℕ → Bool) (x y : List ℕ) (ys : List (List ℕ)) (b : Bool) → bytes_eq y x ≡ b → (b || is_among x ys) ≡ true → P y ≡ true
    → (is_among x ys ≡ true → P x ≡ true) → P x ≡ true
one_of P x y ys true e h is further = ap P (sym ((bytes_eq-Decides y x).0 e)) ∙ is
one_of P x y ys false e h is further = further h

pub among_all : (P : List ℕ → Bool) (x : List ℕ) (ys : List (List ℕ)) → list_all P ys ≡ true → is_among x ys ≡ true → P x ≡ true
among_all P x [] each h = let none : false ≡ true = h in absurd cc
among_all P x (y ∷ ys) each h =
    one_of P x y ys (bytes_eq y x) refl h (and_left (P y) (list_all P ys) each) (among_all P x ys (and_right (P y) (list_all P ys) each))
