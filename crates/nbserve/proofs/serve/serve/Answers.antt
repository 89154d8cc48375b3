-- The notebook isn't loaded, or its visitors are served, or there are no doors.
use Rattle.std.proofs.Common.{◌≡◌, refl, sym, subst, inr, [], ap, Err}
use Rattle.link_io.specs.Outside.{Took}
use Rattle.link_io.proofs.Taken.{took_none}
use Rattle.py_tree.specs.View.{view_cells}
use Rattle.cli_words.specs.Service.{asked}
use Rattle.thin_runs.proofs.ThinRuns.{thin_runnable}
use Rattle.nbserve.proofs.Service.{asked_for_doors, report_statuses, stays_same, stopped_serves}
use Rattle.nbserve.specs.Service as serves
use Rattle.nbserve.specs.declared.command_fault.CommandFault.TheVariants as stop
use Rattle.nbserve.proofs.serve.serve.Goals as goal

pub returns-in-Err-clause-serves : goal.returns-in-Err-clause-serves
returns-in-Err-clause-serves g c =
    let before = g.O.Sink.taken c.args.out.now in
    let now = g.O.Sink.taken c.end_stopped.new.out in
    let nothing : c.in-Err.stop ≡ stop.Memory → (c.end_stopped.result ≡ 5) × Took before now [] = λ memory.
    let wanting = c.end_stopped.ensures.wanting memory in
    (wanting.0, subst (λ out. Took before (g.O.Sink.taken out) []) (sym wanting.1) (took_none before)) in
    stopped_serves _ _ _ _ (asked c.args.service) c.in-Err.stop c.end_stopped.result _ _ _ _ c.in-Err.ensures.unloaded c.end_stopped.ensures.ended
    nothing refl (stays_same (g.P.Porch.told c.args.porch.now))

pub serve_porch-requires-after_bounds : goal.serve_porch-requires-after_bounds
serve_porch-requires-after_bounds g c = λ bounds held. thin_runnable (view_cells c.in-Ok.notebook) c.in-Ok.ensures.loaded.2.form.thin

pub returns-in-Ok-serve_porch-clause-serves : goal.returns-in-Ok-serve_porch-clause-serves
returns-in-Ok-serve_porch-clause-serves g c =
    serves.served (view_cells c.in-Ok.notebook) c.in-Ok-serve_porch.report c.in-Ok.ensures.loaded c.in-Ok-serve_porch.ensures.served c.end_served.ensures.ended

pub returns-in-Err-Failed-clause-serves : goal.returns-in-Err-Failed-clause-serves
returns-in-Err-Failed-clause-serves g c =
    serves.no_doors (view_cells c.in-Ok.notebook) c.in-Ok.ensures.loaded
    (c.in-Err-Failed.ensures.failed (ap Err c.in-Err-Failed.field-0-is)) c.in-Err-Failed.ensures.unmet c.end_with.ensures.ended

pub returns-in-Ok-serve_porch-clause-unasked : goal.returns-in-Ok-serve_porch-clause-unasked
returns-in-Ok-serve_porch-clause-unasked g c = asked_for_doors c.end_served.ensures.ended (report_statuses c.in-Ok-serve_porch.report)

pub returns-in-Err-Failed-clause-unasked : goal.returns-in-Err-Failed-clause-unasked
returns-in-Err-Failed-clause-unasked g c = asked_for_doors c.end_with.ensures.ended (inr refl)
