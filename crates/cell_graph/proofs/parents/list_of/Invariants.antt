-- the cells that the loop has seen
use Rattle.std.proofs.Common.{◌≡◌, ℕ, map, Bor}
use Rattle.cell_graph.proofs.parents.list_of.Given as goal

abbrev pub invariant-loop-cell : goal.invariant-loop-cell
invariant-loop-cell l = l.list.items ≡ map (λ (r : Bor ℕ). r.now) l.yielded
