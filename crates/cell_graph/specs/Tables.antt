-- What the code keeps of a notebook's cells.
use Rattle.std.specs.Prelude.{◌≡◌, ℕ, List, length, slice_get, Some}
use Rattle.py_tree.specs.Names.{Name}
use Rattle.py_tree.specs.Trees.{Cell}
use Rattle.graph_meaning.specs.Graph as graph

-- the names that each cell has by f
pub record AreNames (f : List Cell → ℕ → List Name) (nb : List Cell) (kept : List (List Name)) : Type 0 where
  pub count : length kept ≡ length nb
  pub each : (c : ℕ) (names : List Name) → slice_get kept c ≡ Some names → names ≡ f nb c

-- those that each cell defines, those that it references, and those of the elements that it creates
abbrev pub AreDefs : List Cell → List (List Name) → Type 0
AreDefs = AreNames graph.defs_of

abbrev pub AreRefs : List Cell → List (List Name) → Type 0
AreRefs = AreNames graph.refs_of

abbrev pub AreElements : List Cell → List (List Name) → Type 0
AreElements = AreNames graph.elements_of

-- the parents of each cell, in file order
pub record AreParents (nb : List Cell) (kept : List (List ℕ)) : Type 0 where
  pub count : length kept ≡ length nb
  pub each : (c : ℕ) (cells : List ℕ) → slice_get kept c ≡ Some cells → cells ≡ graph.parents nb c
