-- The names that a cell defines, where it binds none with a leading underscore.
use Rattle.std.proofs.Common.{◌≡◌, ◌∙◌, refl, subst, Bool, true, false, not, ◌&&◌, ◌||◌, List, [], ◌∷◌}
use Rattle.std.specs.List.{list_all}
use Rattle.std.specs.Str.{bytes_eq}
use Rattle.std.proofs.lemmas.Bool.{and_parts, not-false}
use Rattle.std.proofs.lemmas.Slice.Eq.{bytes_eq-Decides}
use Rattle.py_tree.specs.Names.{Name, is_among, is_local}
use Rattle.py_tree.specs.Scope.{defs, bound}
use Rattle.py_tree.specs.Trees.{Cell}
use Rattle.py_tree.proofs.NamesOf as names

plain_more : (x y : Name) (ys : List Name) (b : Bool) → bytes_eq y x ≡ b → not (is_local y) ≡ true → (b || is_among x ys) ≡ true → (is_among x ys ≡ true → not (is_local x) ≡ true) → not (is_local x) ≡ true
plain_more x y ys true same h k rest = subst (λ n. not (is_local n) ≡ true) ((bytes_eq-Decides y x).0 same) h
plain_more x y ys false off h k rest = rest k

plain_one : (x : Name) (names : List Name) → list_all (λ y. not (is_local y)) names ≡ true → is_among x names ≡ true → not (is_local x) ≡ true
plain_one x [] h k = let no : false ≡ true = k in absurd cc
plain_one x (y ∷ ys) h k =
    let p = and_parts (not (is_local y)) (list_all (λ z. not (is_local z)) ys) h in
    plain_more x y ys (bytes_eq y x) refl p.0 k (plain_one x ys p.1)

-- a name among plain ones is plain
pub among_plain : (x : Name) (names : List Name) → list_all (λ y. not (is_local y)) names ≡ true → not (is_among x names) ≡ false → not (is_local x) ≡ true
among_plain x names h k = plain_one x names h (not-false (is_among x names) k)

and_implied : (a b : Bool) → (a ≡ true → b ≡ true) → (a && b) ≡ a
and_implied true b h = h refl
and_implied false b h = refl

-- where no name with an underscore is bound, the names defined are those bound
pub among_defs : (x : Name) (c : Cell) → list_all (λ y. not (is_local y)) (bound c.body) ≡ true → is_among x (defs c) ≡ is_among x (bound c.body)
among_defs x c h = names.among_defs x c ∙ and_implied (is_among x (bound c.body)) (not (is_local x)) (plain_one x (bound c.body) h)
