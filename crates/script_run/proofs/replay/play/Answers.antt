-- The frames of each text are written, and a beginning of those of one more.
use Rattle.std.proofs.Common.{◌≡◌, ◌∙◌, ◌+◌, ap, List, ◌++◌, map, subst, [], arith}
use Rattle.link_io.proofs.Taken.{took_none}
use Rattle.link_io.specs.Outside.{Took}
use Rattle.program_meaning.specs.Scripts.{Script, script_parts}
use Rattle.frame_meaning.specs.FrameText.{labelled}
use Rattle.py_tree.specs.Trees.{Cell}
use Rattle.py_tree.specs.View.{view_cells}
use Rattle.script_run.proofs.GivenFrames.{cut_behind, prefix_behind, prefix_none, lines_of, took_lines}
use Rattle.kernel.proofs.Results.{if_err_always, if_err_of}
use Rattle.script_run.proofs.MessagesInTurn.{script_frames}
use Rattle.script_run.proofs.PlayedMessages.{played_all, played_answer, played_begins, played_close, played_new, played_prefix, played_text}
use Rattle.script_run.proofs.replay.play.Goals.{in-Closed+in_ok-kernel-in-Closed, in_default+in_ok-drain-in_default}
use Rattle.script_run.proofs.replay.play.Goals as goal
use Rattle.script_run.specs.Cut.{IsCut}
use Rattle.script_run.specs.Prefix.{WrotePrefix}
use Rattle.script_run.specs.Script.{AreSent}
use Rattle.script_run.specs.declared.replay.PlayFault.{PlayFault}
use Rattle.script_run.specs.declared.replay.PlayFault.TheVariants as play_fault

pub loop-text-init : goal.loop-text-init
loop-text-init g c =
    (omega arith, ([], played_new c.args.notebook.now c.args.budget c.args.steps.now c.in_ok-kernel.kernel c.in_ok-kernel.ensures, took_none _))

pub loop-text-preserved : goal.loop-text-preserved
loop-text-preserved g c =
    let so_far = c.loop-text.invariant.1 in
    let sent = c.args.sent.now in
    let i = c.loop-text.text-index in
    let w = c.deliver.new.self in
    let does = c.in_ok-deliver.ensures.delivers in
    elim c.match-branch-3.branch [
      | in-Closed+in_ok-kernel-in-Closed b ↦ rw (b.out-is, b.steps-is, b.kernel-is) (
        c.loop-text.invariant.0,
        (
          so_far.0,
          played_close sent i c.in_ok-deliver.field-0 w b.in_ok-kernel-in-Closed.kernel c.loop-text-test.true so_far.1 b.in-Closed.is does
              b.in_ok-kernel-in-Closed.ensures,
          so_far.2,
        ),
      )
      | in_default+in_ok-drain-in_default b ↦ rw (b.out-is, b.steps-is, b.kernel-is) (
        omega (arith, c.loop-text.invariant.0, b.in_ok-drain-in_default.ensures.later),
        (
          so_far.0 ++ w.pending,
          played_text sent i c.in_ok-deliver.field-0 w b.drain.new.kernel b.drain.new.steps c.loop-text-test.true so_far.1 b.in_default.not-Closed does
              (record {
                steps = b.in_ok-drain-in_default.ensures.steps;
                over = b.in_ok-drain-in_default.ensures.over;
                state = b.in_ok-drain-in_default.ensures.state;
                nb = b.in_ok-drain-in_default.ensures.nb;
                budget = b.in_ok-drain-in_default.ensures.budget;
              }),
          took_lines c.args.label.now so_far.0 w.pending _ _ _ so_far.2 b.in_ok-drain-in_default.ensures.written,
        ),
      )
    ]

pub returns-clause-written : goal.returns-clause-written
returns-clause-written g c = λ script are.
    let so_far = c.loop-text.invariant.1 in
    let all = played_all c.args.sent.now c.loop-text.text-index c.loop-text-test.false so_far.1 script are in
    subst (Took (g.O.Sink.taken c.args.out.now) (g.O.Sink.taken c.loop-text.out))
    (ap (lines_of c.args.label.now) all.0 ∙ ap (labelled c.args.label.now) (script_frames (view_cells c.args.notebook.now) c.args.budget script)) so_far.2

pub returns-clause-steps : goal.returns-clause-steps
returns-clause-steps g c = λ script are.
    (played_all c.args.sent.now c.loop-text.text-index c.loop-text-test.false c.loop-text.invariant.1.1 script are).1

pub returns-in_err-kernel-clause-prefix : goal.returns-in_err-kernel-clause-prefix
returns-in_err-kernel-clause-prefix g c =
    let Prefix : Type 0 = (script : Script) → AreSent (map (λ m. m.now) c.args.sent.now) script
    → WrotePrefix c.args.label.now (script_parts (view_cells c.args.notebook.now) c.args.budget script) (g.O.Sink.taken c.args.out.now) (g.O.Sink.taken c.args.out.now) c.args.steps.now c.args.steps.now in
    let prefix_whatever : (fault : PlayFault) → fault ≡ play_fault.Memory → Prefix = λ fault memory script are. prefix_none _ _ _ _ in
    if_err_always _ _ prefix_whatever

pub returns-in_err-deliver-clause-prefix : goal.returns-in_err-deliver-clause-prefix
returns-in_err-deliver-clause-prefix g c =
    let so_far = c.loop-text.invariant.1 in
    let Prefix : Type 0 = (script : Script) → AreSent (map (λ m. m.now) c.args.sent.now) script
    → WrotePrefix c.args.label.now (script_parts (view_cells c.args.notebook.now) c.args.budget script) (g.O.Sink.taken c.args.out.now) (g.O.Sink.taken c.loop-text.out) c.args.steps.now c.loop-text.steps in
    let prefix_whatever : (fault : PlayFault) → fault ≡ play_fault.Memory → Prefix =
    λ fault memory script are. played_prefix _ _ _ c.args.sent.now c.loop-text.text-index so_far.1 so_far.2 script are in
    if_err_always _ _ prefix_whatever

pub returns-in_err-kernel-in-Closed-clause-prefix : goal.returns-in_err-kernel-in-Closed-clause-prefix
returns-in_err-kernel-in-Closed-clause-prefix g c =
    let so_far = c.loop-text.invariant.1 in
    let Prefix : Type 0 = (script : Script) → AreSent (map (λ m. m.now) c.args.sent.now) script
    → WrotePrefix c.args.label.now (script_parts (view_cells c.args.notebook.now) c.args.budget script) (g.O.Sink.taken c.args.out.now) (g.O.Sink.taken c.loop-text.out) c.args.steps.now c.loop-text.steps in
    let prefix_whatever : (fault : PlayFault) → fault ≡ play_fault.Memory → Prefix =
    λ fault memory script are. played_prefix _ _ _ c.args.sent.now c.loop-text.text-index so_far.1 so_far.2 script are in
    if_err_always _ _ prefix_whatever

pub returns-in_err-drain-in_default-clause-cut : goal.returns-in_err-drain-in_default-clause-cut
returns-in_err-drain-in_default-clause-cut g c =
    let so_far = c.loop-text.invariant.1 in
    let i = c.loop-text.text-index in
    let w = c.deliver.new.self in
    let label = c.args.label.now in
    let nb : List Cell = view_cells c.args.notebook.now in
    let next = played_answer c.args.sent.now i c.in_ok-deliver.field-0 w c.loop-text-test.true so_far.1 c.in_default.not-Closed c.in_ok-deliver.ensures.delivers in
    let why = c.in_err-drain-in_default.field-0.0 in
    let Cut : PlayFault → Type 0 = λ fault. fault ≡ play_fault.WriteFault → (script : Script) → AreSent (map (λ m. m.now) c.args.sent.now) script
    → IsCut label (script_parts nb c.args.budget script) (g.O.Sink.taken c.args.out.now) (g.O.Sink.taken c.drain.new.out) c.args.steps.now c.drain.new.steps in
    if_err_of c.from_residual-in_err-drain-in_default.result why Cut c.from_residual-in_err-drain-in_default.ensures.1
    (λ unwritten script are.
    let begins = played_begins c.args.sent.now (i + 1) next script are in
    cut_behind so_far.0 w.pending begins.0 _ _ _ _ _ begins.1 so_far.2 so_far.1.steps (c.in_err-drain-in_default.ensures.cut unwritten))

pub returns-in_err-drain-in_default-clause-prefix : goal.returns-in_err-drain-in_default-clause-prefix
returns-in_err-drain-in_default-clause-prefix g c =
    let so_far = c.loop-text.invariant.1 in
    let i = c.loop-text.text-index in
    let w = c.deliver.new.self in
    let label = c.args.label.now in
    let nb : List Cell = view_cells c.args.notebook.now in
    let next = played_answer c.args.sent.now i c.in_ok-deliver.field-0 w c.loop-text-test.true so_far.1 c.in_default.not-Closed c.in_ok-deliver.ensures.delivers in
    let why = c.in_err-drain-in_default.field-0.0 in
    let Prefix : PlayFault → Type 0 = λ fault. fault ≡ play_fault.Memory → (script : Script) → AreSent (map (λ m. m.now) c.args.sent.now) script
    → WrotePrefix label (script_parts nb c.args.budget script) (g.O.Sink.taken c.args.out.now) (g.O.Sink.taken c.drain.new.out) c.args.steps.now c.drain.new.steps in
    if_err_of c.from_residual-in_err-drain-in_default.result why Prefix c.from_residual-in_err-drain-in_default.ensures.1
    (λ memory script are.
    let begins = played_begins c.args.sent.now (i + 1) next script are in
    prefix_behind so_far.0 w.pending begins.0 _ _ _ _ _ begins.1 so_far.2 so_far.1.steps (c.in_err-drain-in_default.ensures.prefix memory))
