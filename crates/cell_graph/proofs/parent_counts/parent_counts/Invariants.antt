-- the counts of the cells so far
use Rattle.std.proofs.Common.{◌≡◌, ℕ, length, map, take}
use Rattle.cell_graph.proofs.parent_counts.parent_counts.Given as goal

abbrev pub invariant-loop-cells : goal.invariant-loop-cells
invariant-loop-cells l = l.counts.items ≡ map (length {A = ℕ}) (take l.cells-index l.parents)
