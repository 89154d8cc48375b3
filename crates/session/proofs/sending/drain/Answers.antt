-- What was sent are the texts of the frames so far.
use Rattle.std.proofs.Common.{[], arith}
use Rattle.kernel.proofs.Results.{if_err_of}
use Rattle.session.proofs.Calling.{breaks_frame, breaks_step, went_frame}
use Rattle.session.specs.Progress.{Breaks}
use Rattle.session.specs.declared.unsent.Unsent.{Unsent}
use Rattle.session.specs.declared.unsent.Unsent.TheVariants as unsent
use Rattle.session.proofs.sending.drain.Goals as goal

pub loop-frame-preserved : goal.loop-frame-preserved
loop-frame-preserved g c =
    let gives = rw c.in-Frame.is at c.in_ok-frame.ensures.steps in (
      omega (arith, c.loop-frame.invariant.0, c.in_ok-send_frame.ensures.later),
      went_frame c.in-Frame.frame c.step.new.self c.step.new.steps _ c.loop-frame.invariant.1 gives c.in_ok-send_frame.ensures.sent,
    )

pub returns-in_err-frame-clause-broke : goal.returns-in_err-frame-clause-broke
returns-in_err-frame-clause-broke g c =
    let told = g.K.Link.told c.args.link.now in
    let Broke : Unsent → Type 0 = λ why.
    Breaks why c.args.kernel.now c.args.steps.now told [] [] c.step.new.self c.step.new.steps (g.K.Link.told c.loop-frame.link) in
    if_err_of c.from_residual.result unsent.Memory Broke c.from_residual.ensures.1
    (breaks_step c.step.new.self c.step.new.steps c.loop-frame.invariant.1 c.step.ensures.most)

pub returns-in_err-send_frame-clause-broke : goal.returns-in_err-send_frame-clause-broke
returns-in_err-send_frame-clause-broke g c =
    let gives = rw c.in-Frame.is at c.in_ok-frame.ensures.steps in
    let why = c.in_err-send_frame.field-0.0 in
    let Broke : Unsent → Type 0 = λ why.
    Breaks why c.args.kernel.now c.args.steps.now (g.K.Link.told c.args.link.now) [] [] c.step.new.self c.step.new.steps (g.K.Link.told c.send_frame.new.link) in
    if_err_of c.from_residual-in_err-send_frame.result why Broke c.from_residual-in_err-send_frame.ensures.1
    (breaks_frame why c.in-Frame.frame c.step.new.self c.step.new.steps (g.K.Link.told c.send_frame.new.link) c.loop-frame.invariant.1 gives c.in_err-send_frame.ensures.unsent)
