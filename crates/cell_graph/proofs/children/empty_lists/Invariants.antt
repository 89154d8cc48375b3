-- so many lists so far
use Rattle.std.proofs.Common.{◌≡◌, ℕ, List, [], replicate}
use Rattle.cell_graph.proofs.children.empty_lists.Given as goal

abbrev pub invariant-loop : goal.invariant-loop
invariant-loop l = l.lists.items ≡ replicate {A = List ℕ} l.counter []
