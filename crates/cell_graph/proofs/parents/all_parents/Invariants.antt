-- the parents of the cells so far
use Rattle.std.proofs.Common.{◌≡◌, map, take}
use Rattle.cell_graph.specs.Definers.{lists_with}
use Rattle.cell_graph.proofs.parents.all_parents.Given as goal

abbrev pub invariant-loop-names : goal.invariant-loop-names
invariant-loop-names l = l.parents.items ≡ map (lists_with l.defs) (take l.names-index l.refs)
