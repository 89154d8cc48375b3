-- the targets so far are added
use Rattle.std.proofs.Common.{◌≡◌, ◌++◌, take}
use Rattle.cell_graph.specs.Texts.{texts}
use Rattle.cell_graph.proofs.scope.add_line_binds.Given as goal

abbrev pub invariant-loop-target : goal.invariant-loop-target
invariant-loop-target l = texts l.names.items ≡ texts l.fn.names.items ++ take l.target-index l.target-items
