-- the elements of the cells so far
use Rattle.std.proofs.Common.{◌≡◌, map, take}
use Rattle.py_tree.specs.Elements as created
use Rattle.py_tree.specs.View.{view_cells}
use Rattle.cell_graph.proofs.build.all_elements.Given as goal

abbrev pub invariant-loop-cell : goal.invariant-loop-cell
invariant-loop-cell l = l.lists.items ≡ map created.elements (view_cells (take l.cell-index l.cells))
