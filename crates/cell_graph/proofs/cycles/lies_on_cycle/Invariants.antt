-- the cells above this one are looked for
use Rattle.std.proofs.Common.{◌+◌, not, length}
use Rattle.std.specs.List.{count_by}
use Rattle.cell_graph.proofs.Ancestors.{IsSearched}
use Rattle.cell_graph.proofs.cycles.lies_on_cycle.Given as goal

abbrev pub invariant-loop-ancestor : goal.invariant-loop-ancestor
invariant-loop-ancestor l = IsSearched l.parents l.cell l.marked.items l.pending.items

abbrev pub decreases-loop-ancestor : goal.decreases-loop-ancestor
decreases-loop-ancestor l = count_by not l.marked.items + length l.pending.items
