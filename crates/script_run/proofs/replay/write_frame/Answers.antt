-- Where the sink fails it took less than the line.
use Rattle.std.proofs.Common.{◌≡◌, ◌∙◌, subst, ◌++◌, ◌∷◌, []}
use Rattle.link_io.specs.Outside.{TookLess}
use Rattle.frame_meaning.specs.FrameText.{frame_text}
use Rattle.kernel.proofs.Results.{if_err_always}
use Rattle.script_run.proofs.replay.write_frame.Goals as goal
use Rattle.script_run.specs.declared.replay.PlayFault.{PlayFault}
use Rattle.script_run.specs.declared.replay.PlayFault.TheVariants as play_fault

pub returns-in_err-write_all-clause-cut : goal.returns-in_err-write_all-clause-cut
returns-in_err-write_all-clause-cut g c =
    let less : (fault : PlayFault) → fault ≡ play_fault.WriteFault
    → TookLess (g.O.Sink.taken c.args.out.now) (g.O.Sink.taken c.write_all.new.out) (c.args.label.now ++ frame_text c.args.frame ++ 10 ∷ []) =
    λ fault unwritten. subst (TookLess (g.O.Sink.taken c.args.out.now) (g.O.Sink.taken c.write_all.new.out)) (c.as_slice.ensures.value ∙ c.in_ok-set_line.ensures)
    c.in_err-write_all.ensures.cut in
    if_err_always _ _ less
