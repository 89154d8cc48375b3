-- Commands that are carried out, step by step.
use Rattle.std.proofs.Common.{◌≡◌, ◌∙◌, ap, refl, sym, subst, inl, inr, ℕ, ◌+◌, ◌≤◌, List, [], ◌++◌, append-nil, arith}
use Rattle.std.specs.Prelude.{Option, Some, IfSome, codes, flat_map}
use Rattle.link_io.specs.Outside.{Rose, Took}
use Rattle.link_io.proofs.Taken.{rose_since, took_both}
use Rattle.visit_meaning.specs.Answer.{Part, solo}
use Rattle.frame_meaning.specs.FrameText.{labelled}
use Rattle.program_meaning.specs.Program as program
use Rattle.command_meaning.specs.Commands.{Command, Play, command_of, notebook_of}
use Rattle.program_meaning.specs.Program.{Comes, AreRead, FailsFirst, IsLoaded, Refusal, read_of, refusal_text, usual_budget}
use Rattle.program_meaning.specs.Scripts.{Script, FaultAt, fault_text, script_parts, script_work}
use Rattle.py_tree.specs.Trees.{Cell}
use Rattle.nbserve.specs.Execution as done
use Rattle.nbserve.specs.Execution.{IsDone, IsPlayed}
use Rattle.script_run.proofs.MessagesInTurn.{script_costs, script_frames}
use Rattle.script_run.specs.Cut as cut
use Rattle.nbserve.specs.Refusal.{refusal_of}
use Rattle.nbserve.specs.CommandFault.{IsStopped, IsUnloaded, IsUnplayed, Why}
use Rattle.nbserve.specs.Output as wrote
use Rattle.nbserve.specs.Output.{Ended}
use Rattle.nbserve.specs.declared.command_fault.CommandFault.{CommandFault}
use Rattle.nbserve.specs.declared.command_fault.CommandFault.TheVariants as stop

-- a last text after the lines of all frames
pub done_after : (nb : List Cell) (stays : Script) (label last : List ℕ) (result : ℕ) (before between now : Option (List ℕ)) (a b d count count_after : ℕ)
    → Took before between (labelled label (flat_map (solo nb usual_budget) stays)) → count_after ≡ count + script_work nb usual_budget stays → a ≤ b
    → Ended 0 last result between now (Rose b d) → IsDone nb stays label last result before now (Rose a d) count count_after
done_after nb stays label last result before between now a b d count count_after first steps le (wrote.whole e took) =
    done.whole e (took_both before between now (labelled label (flat_map (solo nb usual_budget) stays)) last first took) steps
done_after nb stays label last result before between now a b d count count_after first steps le (wrote.cut e why part) =
    let written = labelled label (flat_map (solo nb usual_budget) stays) in
    done.cut e (rose_since a b d le why)
    (cut.in_last part.0 part.1 part.2 part.3 (steps ∙ ap (λ n. count + n) (sym (script_costs nb usual_budget stays)))
    (subst (λ frames. Took before now (labelled label frames ++ part.0)) (sym (script_frames nb usual_budget stays))
    (took_both before between now written part.0 first part.4)))
done_after nb stays label last result before between now a b d count count_after first steps le (wrote.wanting e none) =
    let parts : List Part = script_parts nb usual_budget stays in
    let written = labelled label (flat_map (solo nb usual_budget) stays) in
    let costs = script_costs nb usual_budget stays in
    done.prefix e (record {
      written = parts;
      rest = [];
      are = sym (append-nil parts);
      least = omega (arith, steps, costs);
      most = omega (arith, steps, costs);
      took = subst (λ frames. Took before now (labelled label frames)) (sym (script_frames nb usual_budget stays))
          (subst (Took before now) (append-nil written) (took_both before between now written [] first none));
    })

-- what tells why stops the run
stops : (holds : List ℕ → Option (Option (List ℕ))) (failed : Type 0) (words : List (List ℕ)) (unread : Type 0) (refuses : Refusal → Type 0) (lines : ℕ → Type 0)
    → (unread → Comes holds failed words 3 (codes "read fault\n"))
    → ((why : Refusal) → refuses why → Comes holds failed words 1 (refusal_text why))
    → ((line : ℕ) → lines line → Comes holds failed words 6 (fault_text line))
    → (why : CommandFault) → Why unread refuses lines why → IsStopped holds failed words why
stops holds failed words unread refuses lines read refused script stop.Usage is = absurd is
stops holds failed words unread refuses lines read refused script stop.Unread is = inr (read is)
stops holds failed words unread refuses lines read refused script (stop.Refused why) is = inr (refused (refusal_of why) is)
stops holds failed words unread refuses lines read refused script (stop.NoScript line) is = inr (script line is)
stops holds failed words unread refuses lines read refused script stop.Memory is = inl refl

-- a notebook that isn't loaded stops the run
pub unloaded_stops : (holds : List ℕ → Option (Option (List ℕ))) (failed : Type 0) (words : List (List ℕ)) (command : Command) (why : CommandFault)
    → command_of words ≡ Some command → IsUnloaded holds failed (notebook_of command) why → IsStopped holds failed words why
unloaded_stops holds failed words command why asked is =
    stops holds failed words failed (λ refusal. (bytes : List ℕ) × AreRead holds (notebook_of command) bytes × FailsFirst bytes refusal) (λ line. ⊥)
    (λ read. program.unread command asked read refl refl)
    (λ refusal first. program.refused command first.0 refusal asked first.1 first.2 refl refl)
    (λ line never. absurd never) why is

-- what a name stands for, after an earlier file was read
same_read : (holds later : List ℕ → Option (Option (List ℕ))) (file bytes : List ℕ) → later file ≡ holds file → AreRead later file bytes → AreRead holds file bytes
same_read holds later file bytes same r = subst (λ o. IfSome o (λ told. (all : List ℕ) × (told ≡ Some all) × (bytes ≡ read_of all))) same r

-- so does a script that isn't played,
pub unplayed_stops : (holds later : List ℕ → Option (Option (List ℕ))) (a b d : ℕ) (words : List (List ℕ)) (file script : List ℕ) (nb : List Cell) (why : CommandFault)
    → command_of words ≡ Some (Play file script) → IsLoaded holds file nb → later script ≡ holds script → a ≤ b → IsUnplayed later (Rose b d) script why
    → IsStopped holds (Rose a d) words why
unplayed_stops holds later a b d words file script nb why asked loaded same le is =
    stops holds (Rose a d) words (Rose b d) (λ refusal. ⊥) (λ line. (bytes : List ℕ) × AreRead later script bytes × FaultAt bytes line)
    (λ read. program.unread (Play file script) asked (rose_since a b d le read) refl refl)
    (λ refusal never. absurd never)
    (λ line at. program.no_script file script at.0 nb line asked loaded (same_read holds later script at.0 same at.1) at.2 refl refl) why is

-- and one that is was read of the files as they were at first
pub same_played : {later : List ℕ → Option (Option (List ℕ))} {script : List ℕ} {nb : List Cell} {status : ℕ} {before now : Option (List ℕ)} {unwritten : Type 0} {count count_after : ℕ}
    → (holds : List ℕ → Option (Option (List ℕ))) → later script ≡ holds script → IsPlayed later script nb status before now unwritten count count_after
    → IsPlayed holds script nb status before now unwritten count count_after
same_played {later = later} {script = script} holds same p =
    record { bytes = p.bytes; said = p.said; read = same_read holds later script p.bytes same p.read; is = p.is; done = p.done }
