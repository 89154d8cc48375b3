-- the names of the callee and of the arguments so far are added, and those of the other arguments remain
use Rattle.std.proofs.Common.{◌≡◌, ◌++◌, drop}
use Rattle.cell_graph.specs.Texts.{texts}
use Rattle.py_tree.specs.Scope as scope
use Rattle.py_tree.specs.View.{view, view_arguments}
use Rattle.cell_graph.proofs.scope.+add_reads.Given as goal

abbrev pub invariant-loop-argument : goal.invariant-loop-argument
invariant-loop-argument l =
    texts l.names.items ++ scope.all_reads (view_arguments (drop l.argument-index l.argument-items))
    ≡ texts l.fn.names.items ++ scope.reads (view l.expr)
