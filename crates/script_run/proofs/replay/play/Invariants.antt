-- the frames of the texts so far were written
use Rattle.std.proofs.Common.{List, ◌≤◌, map, take}
use Rattle.link_io.specs.Outside.{Took}
use Rattle.visit_meaning.specs.Answer.{Part}
use Rattle.script_run.proofs.GivenFrames.{lines_of}
use Rattle.script_run.proofs.PlayedMessages.{IsPlayed}
use Rattle.script_run.proofs.replay.play.Given as goal

abbrev pub invariant-loop-text : goal.invariant-loop-text
invariant-loop-text g l =
    (g.O.Sink.faults l.fn.out ≤ g.O.Sink.faults l.out)
    × ((parts : List Part) × IsPlayed l.notebook l.budget (map (λ m. m.now) (take l.text-index l.sent)) l.fn.steps parts l.kernel l.steps
    × Took (g.O.Sink.taken l.fn.out) (g.O.Sink.taken l.out) (lines_of l.label parts))
