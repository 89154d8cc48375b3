-- the frames so far were sent
use Rattle.std.proofs.Common.{◌≤◌, [], length}
use Rattle.session.specs.Progress.{Went}
use Rattle.session.proofs.sending.drain.Given as goal

abbrev pub invariant-loop-frame : goal.invariant-loop-frame
invariant-loop-frame g l =
    (g.K.Link.faults l.fn.link ≤ g.K.Link.faults l.link)
    × Went l.fn.kernel l.fn.steps (g.K.Link.told l.fn.link) [] [] l.kernel l.steps (g.K.Link.told l.link)

abbrev pub decreases-loop-frame : goal.decreases-loop-frame
decreases-loop-frame g l = length l.kernel.pending
