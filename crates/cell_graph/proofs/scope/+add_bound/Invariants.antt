-- the names of the lines so far are added, and those of the others remain
use Rattle.std.proofs.Common.{◌≡◌, ◌++◌, drop}
use Rattle.cell_graph.specs.Texts.{texts}
use Rattle.py_tree.specs.Scope as scope
use Rattle.py_tree.specs.View.{view_block, view_stmts}
use Rattle.cell_graph.proofs.scope.+add_bound.Given as goal

abbrev pub invariant-loop-stmt : goal.invariant-loop-stmt
invariant-loop-stmt l =
    texts l.names.items ++ scope.bound (view_stmts (drop l.stmt-index l.stmt-items))
    ≡ texts l.fn.names.items ++ scope.bound (view_block l.block)
