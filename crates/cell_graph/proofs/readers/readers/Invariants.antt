-- the table has the cells so far
use Rattle.std.proofs.Common.{◌≡◌, ℕ, ◌&&◌}
use Rattle.std.specs.Prelude.{nat_lt}
use Rattle.py_tree.specs.Names.{Name, is_among}
use Rattle.graph_meaning.specs.Graph.{is_in}
use Rattle.cell_graph.specs.Definers.{names_in}
use Rattle.cell_graph.specs.Readers.{cells_at}
use Rattle.cell_graph.proofs.readers.readers.Given as goal

abbrev pub invariant-loop-cell : goal.invariant-loop-cell
invariant-loop-cell l =
    (x : Name) (c : ℕ) → is_in c (cells_at l.table x) ≡ (nat_lt c l.cell && is_among x (names_in l.refs c))
