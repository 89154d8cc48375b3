-- the places of the cells so far are added
use Rattle.std.proofs.Common.{◌≡◌, ℕ, ◌||◌, Bool, filter, take}
use Rattle.graph_meaning.specs.Graph.{numbers_from}
use Rattle.cell_graph.specs.Places.{is_placed}
use Rattle.cell_graph.proofs.place_set.add_places.Given as goal

abbrev pub invariant-loop-cell : goal.invariant-loop-cell
invariant-loop-cell l =
    (p : ℕ → Bool) → l.fn.pending.keys ≡ filter p (numbers_from 0 l.places)
    → l.pending.keys ≡ filter (λ q. p q || is_placed l.places (take l.cell-index l.cells) q) (numbers_from 0 l.places)
