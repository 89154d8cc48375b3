-- the cells so far that lie on a cycle
use Rattle.std.proofs.Common.{List}
use Rattle.py_tree.specs.Trees.{Cell}
use Rattle.cell_graph.specs.Tables.{AreParents}
use Rattle.cell_graph.proofs.Ancestors.{AreFound}
use Rattle.cell_graph.proofs.cycles.cyclic_cells.Given as goal

abbrev pub invariant-loop-cell : goal.invariant-loop-cell
invariant-loop-cell l = (nb : List Cell) → AreParents nb l.parents → AreFound nb l.parents l.cell l.cells.items
