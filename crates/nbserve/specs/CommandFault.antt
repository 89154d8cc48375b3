-- Commands that aren't carried out, notebooks that aren't loaded, and bytes that are no scripts.
use Rattle.std.specs.Prelude.{◌≡◌, ◌⊎◌, ℕ, List, [], codes, Option}
use Rattle.program_meaning.specs.Program as program
use Rattle.program_meaning.specs.Program.{AreRead, Comes, FailsFirst, refusal_text}
use Rattle.program_meaning.specs.Scripts.{FaultAt, fault_text}
use Rattle.script_run.specs.declared.script.ScriptFault.{ScriptFault}
use Rattle.script_run.specs.declared.script.ScriptFault.TheVariants as script
use Rattle.nbserve.specs.declared.command_fault.CommandFault.{CommandFault}
use Rattle.nbserve.specs.declared.command_fault.CommandFault.TheVariants as stop
use Rattle.nbserve.specs.Refusal.{refusal_of}

-- why, where bytes are no script
abbrev pub of_script : ScriptFault → CommandFault
of_script (script.Line line) = stop.NoScript line
of_script script.Memory = stop.Memory

-- the status that is answered, and the line that is written
abbrev pub status_of : CommandFault → ℕ
status_of stop.Usage = 2
status_of stop.Unread = 3
status_of (stop.Refused why) = 1
status_of (stop.NoScript line) = 6
status_of stop.Memory = 5

abbrev pub stop_line : CommandFault → List ℕ
stop_line stop.Usage = codes "usage\n"
stop_line stop.Unread = codes "read fault\n"
stop_line (stop.Refused why) = refusal_text (refusal_of why)
stop_line (stop.NoScript line) = fault_text line
stop_line stop.Memory = []

-- What tells why a command isn't carried out: that a read failed, why the notebook is refused, or at which line the bytes are no script.
-- Want of memory has no cause here, and the words are a command's.
abbrev pub Why : (unread : Type 0) → (refuses : program.Refusal → Type 0) → (stops : ℕ → Type 0) → CommandFault → Type 0
Why unread refuses stops stop.Usage = ⊥
Why unread refuses stops stop.Unread = unread
Why unread refuses stops (stop.Refused why) = refuses (refusal_of why)
Why unread refuses stops (stop.NoScript line) = stops line
Why unread refuses stops stop.Memory = Unit {0}

-- why bytes are no notebook, why a file isn't read, why its notebook isn't loaded, and why its script isn't
abbrev pub IsWhy : CommandFault → List ℕ → Type 0
IsWhy why bytes = Why ⊥ (FailsFirst bytes) (λ line. ⊥) why

abbrev pub IsUnread : CommandFault → Type 0 → Type 0
IsUnread why failed = Why failed (λ refusal. ⊥) (λ line. ⊥) why

abbrev pub IsUnloaded : (List ℕ → Option (Option (List ℕ))) → Type 0 → List ℕ → CommandFault → Type 0
IsUnloaded holds failed file why = Why failed (λ refusal. (bytes : List ℕ) × AreRead holds file bytes × FailsFirst bytes refusal) (λ line. ⊥) why

abbrev pub IsUnplayed : (List ℕ → Option (Option (List ℕ))) → Type 0 → List ℕ → CommandFault → Type 0
IsUnplayed holds failed file why = Why failed (λ refusal. ⊥) (λ line. (bytes : List ℕ) × AreRead holds file bytes × FaultAt bytes line) why

-- The run comes to the status and the line. Want of memory has no cause here.
abbrev pub IsStopped : (List ℕ → Option (Option (List ℕ))) → Type 0 → List (List ℕ) → CommandFault → Type 0
IsStopped holds failed words why = (why ≡ stop.Memory) ⊎ Comes holds failed words (status_of why) (stop_line why)
