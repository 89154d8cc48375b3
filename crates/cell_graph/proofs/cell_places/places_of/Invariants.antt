-- the cells so far have their places
use Rattle.std.proofs.Common.{◌≡◌, ℕ, ◌<◌, length, get_or}
use Rattle.cell_graph.proofs.cell_places.places_of.Given as goal

abbrev pub invariant-loop-place : goal.invariant-loop-place
invariant-loop-place l = record {
  count : length l.places.items ≡ length l.order;
  each : (q : ℕ) → q < l.place → get_or l.places.items (get_or l.order q 0) 0 ≡ q;
}
