-- Scripts as the code reads them.
use Rattle.std.specs.Prelude.{ℕ, List, map}
use Rattle.std.specs.Borrow.{Bor}
use Rattle.message_meaning.specs.Sent.{AreReceived}
use Rattle.program_meaning.specs.Scripts.{Script, InTurn, IsScript, FaultAt, messages_of}
use Rattle.script_run.specs.declared.script.ScriptFault.{ScriptFault}
use Rattle.script_run.specs.declared.script.ScriptFault.TheVariants as fault

-- these texts are sent, by one visitor after the other
pub record AreSent (texts : List (List ℕ)) (script : Script) : Type 0 where
  pub received : AreReceived texts (messages_of script)
  pub turns : InTurn script

-- the bytes are a script, and these are the texts that it sends
abbrev pub IsRead : List ℕ → List (Bor (List ℕ)) → Type 0
IsRead bytes sent = (script : Script) × IsScript bytes script × AreSent (map (λ text. text.now) sent) script

-- The first line that can't stand where it stands. Want of memory has no cause here.
abbrev pub IsFault : List ℕ → ScriptFault → Type 0
IsFault bytes (fault.Line line) = FaultAt bytes line
IsFault bytes fault.Memory = Unit {0}
