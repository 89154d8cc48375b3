-- what was taken and what is left make the text
use Rattle.std.proofs.Common.{◌≡◌, ℕ, ◌≤◌, ◌++◌, List, length}
use Rattle.link_io.specs.Outside.{Took}
use Rattle.link_io.proofs.whole_text.write_all.Given as goal

abbrev pub invariant-loop-rest : goal.invariant-loop-rest
invariant-loop-rest g l =
    (g.O.Sink.faults l.fn.out ≤ g.O.Sink.faults l.out)
    × ((done : List ℕ) × (done ++ l.rest ≡ l.text) × Took (g.O.Sink.taken l.fn.out) (g.O.Sink.taken l.out) done)

abbrev pub decreases-loop-rest : goal.decreases-loop-rest
decreases-loop-rest g l = length l.rest
