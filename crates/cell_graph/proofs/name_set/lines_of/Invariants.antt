-- the names so far are copied
use Rattle.std.proofs.Common.{◌≡◌, take}
use Rattle.cell_graph.specs.Texts.{texts}
use Rattle.cell_graph.proofs.name_set.lines_of.Given as goal

abbrev pub invariant-loop-name : goal.invariant-loop-name
invariant-loop-name l = l.lines.items ≡ texts (take l.name-index l.set.keys)
