-- All that is claimed of the status follows from what the run comes to.
use Rattle.std.proofs.Common.{◌≡◌, [], arith, map, subst, sym}
use Rattle.std.specs.Prelude.{string_bytes}
use Rattle.link_io.specs.Outside.{Rose, Took}
use Rattle.link_io.proofs.Taken.{took_none}
use Rattle.nbserve.specs.Output as output
use Rattle.nbserve.specs.Output.{RunsTo}
use Rattle.nbserve.specs.declared.command_fault.CommandFault.TheVariants as stop
use Rattle.nbserve.proofs.Output.{runs_show, stopped_runs}
use Rattle.nbserve.proofs.commands.run_words.Goals as goal

pub returns-in-Ok : goal.returns-in-Ok
returns-in-Ok g c =
    let runs : RunsTo (g.F.Files.holds c.args.files.now) (Rose (g.F.Files.faults c.args.files.now) (g.F.Files.faults c.carry_out.new.files))
    (Rose (g.O.Sink.faults c.args.out.now) (g.O.Sink.faults c.carry_out.new.out)) (map string_bytes c.args.words.now) c.in-Ok.status
    (g.O.Sink.taken c.args.out.now) (g.O.Sink.taken c.carry_out.new.out) c.args.steps.now c.carry_out.new.steps = output.carried c.in-Ok.ensures.carried in
    record {
      runs = runs;
      same = c.carry_out.ensures.same;
      later = c.carry_out.ensures.later;
      writes_later = c.carry_out.ensures.writes_later;
      untouched = c.carry_out.ensures.untouched;
      shows = runs_show _ _ _ _ _ _ _ _ _ runs;
    }

pub returns-in-Err : goal.returns-in-Err
returns-in-Err g c =
    let kept = c.in-Err.ensures.kept in
    let between = g.O.Sink.taken c.carry_out.new.out in
    let now = g.O.Sink.taken c.end_stopped.new.out in
    let nothing : c.in-Err.stop ≡ stop.Memory → (c.end_stopped.result ≡ 5) × Took between now [] = λ memory.
    let wanting = c.end_stopped.ensures.wanting memory in
    (wanting.0, subst (λ out. Took between (g.O.Sink.taken out) []) (sym wanting.1) (took_none between)) in
    let runs : RunsTo (g.F.Files.holds c.args.files.now) (Rose (g.F.Files.faults c.args.files.now) (g.F.Files.faults c.carry_out.new.files))
    (Rose (g.O.Sink.faults c.args.out.now) (g.O.Sink.faults c.end_stopped.new.out)) (map string_bytes c.args.words.now) c.end_stopped.result
    (g.O.Sink.taken c.args.out.now) now c.args.steps.now c.carry_out.new.steps =
    subst (λ out. RunsTo (g.F.Files.holds c.args.files.now) (Rose (g.F.Files.faults c.args.files.now) (g.F.Files.faults c.carry_out.new.files))
    (Rose (g.O.Sink.faults out) (g.O.Sink.faults c.end_stopped.new.out)) (map string_bytes c.args.words.now) c.end_stopped.result (g.O.Sink.taken out) now c.args.steps.now c.carry_out.new.steps)
    kept (stopped_runs _ _ _ _ c.in-Err.stop c.end_stopped.result _ _ _ _ c.in-Err.ensures.stopped c.end_stopped.ensures.ended nothing c.in-Err.ensures.still) in
    record {
      runs = runs;
      same = c.carry_out.ensures.same;
      later = c.carry_out.ensures.later;
      writes_later = omega (arith, c.carry_out.ensures.writes_later, c.end_stopped.ensures.writes_later);
      untouched = c.carry_out.ensures.untouched;
      shows = runs_show _ _ _ _ _ _ _ _ _ runs;
    }
