-- the definitions of the cells so far
use Rattle.std.proofs.Common.{◌≡◌, map, take}
use Rattle.py_tree.specs.Scope as scope
use Rattle.py_tree.specs.View.{view_cells}
use Rattle.cell_graph.proofs.build.all_defs.Given as goal

abbrev pub invariant-loop-cell : goal.invariant-loop-cell
invariant-loop-cell l = l.lists.items ≡ map scope.defs (view_cells (take l.cell-index l.cells))
