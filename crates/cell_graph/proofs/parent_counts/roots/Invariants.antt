-- the cells so far that wait for none
use Rattle.std.proofs.Common.{◌≡◌, ◌&&◌, ◌==◌, filter}
use Rattle.std.specs.Prelude.{nat_lt, slice_index}
use Rattle.graph_meaning.specs.Graph.{numbers_from}
use Rattle.cell_graph.proofs.parent_counts.roots.Given as goal

abbrev pub invariant-loop-cell : goal.invariant-loop-cell
invariant-loop-cell l = l.ready.keys ≡ filter (λ c. nat_lt c l.cell && (slice_index l.counts c == 0)) (numbers_from 0 l.counts)
