-- What was written are the lines of the frames so far, and a beginning of one more.
use Rattle.std.proofs.Common.{◌≡◌, arith, subst, sym}
use Rattle.script_run.proofs.GivenFrames.{given_cut, given_prefix, given_next, given_none, gives_first}
use Rattle.kernel.proofs.Results.{if_err_always, if_err_of}
use Rattle.script_run.proofs.replay.drain.Goals as goal
use Rattle.script_run.specs.Cut.{IsCut}
use Rattle.script_run.specs.Prefix.{WrotePrefix}
use Rattle.script_run.specs.declared.replay.PlayFault.{PlayFault}
use Rattle.script_run.specs.declared.replay.PlayFault.TheVariants as play_fault

pub loop-frame-init : goal.loop-frame-init
loop-frame-init g c = (omega arith, given_none c.args.label.now (g.O.Sink.taken c.args.out.now) c.args.kernel.now c.args.steps.now)

pub returns-in_err-frame-clause-prefix : goal.returns-in_err-frame-clause-prefix
returns-in_err-frame-clause-prefix g c =
    let given = given_prefix c.step.new.steps c.loop-frame.invariant.1 c.step.ensures.most in
    let prefix_whatever : (fault : PlayFault) → fault ≡ play_fault.Memory
    → WrotePrefix c.args.label.now c.args.kernel.now.pending (g.O.Sink.taken c.args.out.now) (g.O.Sink.taken c.loop-frame.out) c.args.steps.now c.step.new.steps =
    λ fault memory. given in
    if_err_always _ _ prefix_whatever

pub returns-in_err-write_frame-clause-cut : goal.returns-in_err-write_frame-clause-cut
returns-in_err-write_frame-clause-cut g c =
    let gives = rw c.in-Frame.is at c.in_ok-frame.ensures.steps in
    let why = c.in_err-write_frame.field-0.0 in
    let Cut : PlayFault → Type 0 = λ fault. fault ≡ play_fault.WriteFault
    → IsCut c.args.label.now c.args.kernel.now.pending (g.O.Sink.taken c.args.out.now) (g.O.Sink.taken c.write_frame.new.out) c.args.steps.now c.step.new.steps in
    if_err_of c.from_residual-in_err-write_frame.result why Cut c.from_residual-in_err-write_frame.ensures.1
    (λ unwritten. given_cut c.in-Frame.frame c.step.new.self c.step.new.steps _ c.loop-frame.invariant.1 gives (c.in_err-write_frame.ensures.cut unwritten))

pub returns-in_err-write_frame-clause-prefix : goal.returns-in_err-write_frame-clause-prefix
returns-in_err-write_frame-clause-prefix g c =
    let gives = rw c.in-Frame.is at c.in_ok-frame.ensures.steps in
    let why = c.in_err-write_frame.field-0.0 in
    let Prefix : PlayFault → Type 0 = λ fault. fault ≡ play_fault.Memory
    → WrotePrefix c.args.label.now c.args.kernel.now.pending (g.O.Sink.taken c.args.out.now) (g.O.Sink.taken c.write_frame.new.out) c.args.steps.now c.step.new.steps in
    if_err_of c.from_residual-in_err-write_frame.result why Prefix c.from_residual-in_err-write_frame.ensures.1
    (λ memory.
    subst (λ out. WrotePrefix c.args.label.now c.args.kernel.now.pending (g.O.Sink.taken c.args.out.now) (g.O.Sink.taken out) c.args.steps.now c.step.new.steps)
    (sym (c.in_err-write_frame.ensures.kept memory)) (given_prefix c.step.new.steps c.loop-frame.invariant.1 (gives_first gives)))

pub loop-frame-preserved : goal.loop-frame-preserved
loop-frame-preserved g c =
    let gives = rw c.in-Frame.is at c.in_ok-frame.ensures.steps in (
      omega (arith, c.loop-frame.invariant.0, c.in_ok-write_frame.ensures.later),
      given_next c.in-Frame.frame c.step.new.self c.step.new.steps _ c.loop-frame.invariant.1 gives c.in_ok-write_frame.ensures.written,
    )
