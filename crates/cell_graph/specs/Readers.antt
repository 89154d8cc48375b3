-- The cells that reference a name.
use Rattle.std.specs.Prelude.{◌≡◌, ℕ, List, [], unwrap_or}
use Rattle.py_tree.specs.Names.{Name, is_among}
use Rattle.py_value.specs.Maps.{Map, look_up}
use Rattle.graph_meaning.specs.Graph.{is_in}
use Rattle.cell_graph.specs.Definers.{names_in}

-- the cells that the table has at a name
abbrev pub cells_at : Map (List ℕ) → Name → List ℕ
cells_at table x = unwrap_or (look_up x table) []

-- the table has at each name the numbers of the lists in which it stands
pub record HasReaders (lists : List (List Name)) (table : Map (List ℕ)) : Type 0 where
  pub each : (x : Name) (c : ℕ) → is_in c (cells_at table x) ≡ is_among x (names_in lists c)
