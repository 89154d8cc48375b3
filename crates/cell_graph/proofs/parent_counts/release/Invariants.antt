-- the children so far are released
use Rattle.std.proofs.Common.{◌≡◌, ℕ, ◌+◌, ◌&&◌, ◌||◌, ◌==◌, Bool, filter, take}
use Rattle.std.specs.Prelude.{slice_index}
use Rattle.graph_meaning.specs.Graph.{numbers_from, is_in}
use Rattle.cell_graph.specs.Counts.{count_of}
use Rattle.cell_graph.proofs.parent_counts.release.Given as goal

abbrev pub invariant-loop-child : goal.invariant-loop-child
invariant-loop-child l = record {
  counts : (c : ℕ) → slice_index l.counts c + count_of c (take l.child-index l.children) ≡ slice_index l.fn.counts c;
  ready : (p : ℕ → Bool) → l.fn.ready.keys ≡ filter p (numbers_from 0 l.fn.counts)
      → l.ready.keys ≡ filter (λ c. p c || (is_in c (take l.child-index l.children) && (slice_index l.counts c == 0))) (numbers_from 0 l.fn.counts);
}
