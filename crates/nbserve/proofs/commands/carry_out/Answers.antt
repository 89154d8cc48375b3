-- The command of the words is carried out, or what stops it stops the run.
use Rattle.std.proofs.Common.{◌∙◌, inl, refl, sym, ap, subst, ℕ, List, map}
use Rattle.std.specs.Prelude.{Some, string_bytes}
use Rattle.std.proofs.lemmas.Result.{IfErr-weaker, IfOk-weaker}
use Rattle.link_io.specs.Outside.{Rose}
use Rattle.command_meaning.specs.Commands.{notebook_of}
use Rattle.program_meaning.specs.Program.{IsLoaded}
use Rattle.program_meaning.proofs.SentTexts as texts
use Rattle.thin_runs.proofs.ThinRuns.{thin_runnable}
use Rattle.py_tree.specs.Trees.{Cell}
use Rattle.py_tree.specs.View.{view_cells}
use Rattle.nbserve.proofs.Execution.{same_played, unloaded_stops, unplayed_stops}
use Rattle.kernel.proofs.Results.{if_err_of}
use Rattle.cli_words.specs.Command.{asked}
use Rattle.nbserve.specs.Execution as carried
use Rattle.nbserve.specs.Execution.{Carried, IsPlayed, opening}
use Rattle.nbserve.specs.CommandFault.{IsStopped, IsUnloaded, IsUnplayed}
use Rattle.nbserve.specs.declared.command_fault.CommandFault.{CommandFault}
use Rattle.nbserve.proofs.commands.carry_out.Goals as goal

pub returns-in_err-notebook-clause-stopped : goal.returns-in_err-notebook-clause-stopped
returns-in_err-notebook-clause-stopped g c =
    let holds = g.F.Files.holds c.args.files.now in
    let failed : Type 0 = Rose (g.F.Files.faults c.args.files.now) (g.F.Files.faults c.notebook_in.new.files) in
    let words : List (List ℕ) = map string_bytes c.args.words.now in
    let why = c.in_err-notebook.field-0.0 in
    if_err_of c.from_residual.result why (IsStopped holds failed words) c.from_residual.ensures.1
    (unloaded_stops holds failed words (asked c.in-Some.command) why (sym c.in-Some.ensures)
    (subst (λ file. IsUnloaded holds failed file why) c.notebook.ensures c.in_err-notebook.ensures.unloaded))

pub perform-requires : goal.perform-requires
perform-requires g c = thin_runnable (view_cells c.in_ok-notebook.notebook) c.in_ok-notebook.ensures.loaded.2.form.thin

pub perform_script-requires : goal.perform_script-requires
perform_script-requires g c = thin_runnable (view_cells c.in_ok-notebook.notebook) c.in_ok-notebook.ensures.loaded.2.form.thin

pub returns-in-Once-clause-carried : goal.returns-in-Once-clause-carried
returns-in-Once-clause-carried g c =
    let nb : List Cell = view_cells c.in_ok-notebook.notebook in
    let file = c.in-Once.file.now in
    carried.opened file nb (sym c.in-Some.ensures ∙ ap (λ command. Some (asked command)) c.in-Once.is)
    (subst (λ name. IsLoaded (g.F.Files.holds c.args.files.now) name nb) (c.notebook.ensures ∙ ap (λ command. notebook_of (asked command)) c.in-Once.is)
    c.in_ok-notebook.ensures.loaded)
    (c.perform.ensures.done opening (record { received = (texts.opening, tt); turns = inl refl }))

pub returns-clause-carried : goal.returns-clause-carried
returns-clause-carried g c =
    let holds = g.F.Files.holds c.args.files.now in
    let words : List (List ℕ) = map string_bytes c.args.words.now in
    let nb : List Cell = view_cells c.in_ok-notebook.notebook in
    let file = c.in-Play.file.now in
    let script = c.in-Play.script.now in
    let before = g.O.Sink.taken c.args.out.now in
    let now = g.O.Sink.taken c.perform_script.new.out in
    let unwritten : Type 0 = Rose (g.O.Sink.faults c.args.out.now) (g.O.Sink.faults c.perform_script.new.out) in
    let played : (status : ℕ) → IsPlayed (g.F.Files.holds c.notebook_in.new.files) script nb status before now unwritten c.args.steps.now c.perform_script.new.steps
    → Carried holds words status before now unwritten c.args.steps.now c.perform_script.new.steps = λ status p.
    carried.played file script nb (sym c.in-Some.ensures ∙ ap (λ command. Some (asked command)) c.in-Play.is)
    (subst (λ name. IsLoaded holds name nb) (c.notebook.ensures ∙ ap (λ command. notebook_of (asked command)) c.in-Play.is) c.in_ok-notebook.ensures.loaded)
    (same_played holds (c.in_ok-notebook.ensures.same script) p) in
    IfOk-weaker c.perform_script.result _ _ played c.perform_script.ensures.played

pub returns-clause-stopped : goal.returns-clause-stopped
returns-clause-stopped g c =
    let holds = g.F.Files.holds c.args.files.now in
    let later = g.F.Files.holds c.notebook_in.new.files in
    let words : List (List ℕ) = map string_bytes c.args.words.now in
    let nb : List Cell = view_cells c.in_ok-notebook.notebook in
    let file = c.in-Play.file.now in
    let script = c.in-Play.script.now in
    let first = g.F.Files.faults c.args.files.now in
    let between = g.F.Files.faults c.notebook_in.new.files in
    let last = g.F.Files.faults c.perform_script.new.files in
    let stops : (why : CommandFault) → IsUnplayed later (Rose between last) script why → IsStopped holds (Rose first last) words why = λ why is.
    unplayed_stops holds later first between last words file script nb why
    (sym c.in-Some.ensures ∙ ap (λ command. Some (asked command)) c.in-Play.is)
    (subst (λ name. IsLoaded holds name nb) (c.notebook.ensures ∙ ap (λ command. notebook_of (asked command)) c.in-Play.is) c.in_ok-notebook.ensures.loaded)
    (c.in_ok-notebook.ensures.same script) c.in_ok-notebook.ensures.later is in
    IfErr-weaker c.perform_script.result _ _ stops c.perform_script.ensures.unplayed
