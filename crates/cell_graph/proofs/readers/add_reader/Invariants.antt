-- the cell is added at the names so far
use Rattle.std.proofs.Common.{◌≡◌, ℕ, ◌&&◌, ◌||◌, ◌==◌, take}
use Rattle.py_tree.specs.Names.{Name, is_among}
use Rattle.graph_meaning.specs.Graph.{is_in}
use Rattle.cell_graph.specs.Readers.{cells_at}
use Rattle.cell_graph.proofs.readers.add_reader.Given as goal

abbrev pub invariant-loop-name : goal.invariant-loop-name
invariant-loop-name l =
    (x : Name) (c : ℕ)
    → is_in c (cells_at l.table x) ≡ (is_in c (cells_at l.fn.table x) || ((l.cell == c) && is_among x (take l.name-index l.names)))
