-- Which cells run again when names change.
use Rattle.std.specs.Prelude.{ℕ, zero, suc, Bool, ◌||◌, IsTrue, List, [], ◌∷◌, ◌++◌, filter, length}
use Rattle.std.specs.List.{list_any}
use Rattle.py_tree.specs.Names.{Name, is_among}
use Rattle.py_tree.specs.Trees.{Cell}
use Rattle.graph_meaning.specs.Graph.{refs_of, parents, order, IsPath}

-- the cell references one of the names
abbrev pub reads_one : List Cell → List Name → ℕ → Bool
reads_one nb names c = list_any (λ x. is_among x names) (refs_of nb c)

-- at most k edges, one after the other, lead to the cell from one that references one of the names
abbrev pub is_within : List Cell → List Name → ℕ → ℕ → Bool
is_within nb names zero c = reads_one nb names c
is_within nb names (suc k) c = reads_one nb names c || list_any (is_within nb names k) (parents nb c)

-- The cells that run again, in the order: those that reference one of the names, and all to which edges lead from these.
abbrev pub rerun : List Cell → List Name → List ℕ
rerun nb names = filter (is_within nb names (length nb)) (order nb)

-- a path leads to the cell from one that references one of the names
pub data IsReached (nb : List Cell) (names : List Name) (c : ℕ) : Type 0 where
  itself : IsTrue (reads_one nb names c) → IsReached nb names c
  behind : (first : ℕ) (between : List ℕ) → IsTrue (reads_one nb names first) → IsPath nb (first ∷ between ++ c ∷ []) → IsReached nb names c
