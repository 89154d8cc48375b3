-- the names of the elements of the lines so far are listed, and those of the others remain
use Rattle.std.proofs.Common.{◌≡◌, ◌++◌, drop}
use Rattle.py_tree.specs.Elements as created
use Rattle.py_tree.specs.View.{view_block, view_stmts}
use Rattle.cell_graph.proofs.cell_elements.elements.Given as goal

abbrev pub invariant-loop-stmt : goal.invariant-loop-stmt
invariant-loop-stmt l = l.names.items ++ created.created (view_stmts (drop l.stmt-index l.stmt-items)) ≡ created.created (view_block l.cell.body)
