-- Scripts: visitors who join one after the other, each of whom sends messages, one line each.
use Rattle.std.specs.Prelude.{◌≡◌, ◌⊎◌, ℕ, zero, suc, ◌<◌, ◌≤◌, Bool, true, false, not, IsTrue, List, [], ◌∷◌, ◌++◌, length, map, flat_map, sum_by, codes, decimal, Option, Some}
use Rattle.std.specs.List.{list_all, AllZip}
use Rattle.messages.specs.declared.message.Message.{Message}
use Rattle.messages.specs.declared.message.Message.TheVariants.{Close}
use Rattle.message_meaning.specs.Messages.{IsReceived}
use Rattle.py_tree.specs.Trees.{Cell}
use Rattle.visit_meaning.specs.Answer.{Before, Part, parts_from, solo, work}
use Rattle.frame_meaning.specs.FrameText.{labelled}
use Rattle.py_tree.specs.TextLines.{is_unbroken, text_of, byte_limit}

-- ---- what a script says

-- what a visitor sends from joining on: messages, and bytes that are none
abbrev pub Stay : Type 0
Stay = List (Option Message)

-- whether this is a close message
abbrev pub is_close : Option Message → Bool
is_close (Some Close) = true
is_close m = false

-- no close message is sent: the visitor is there still
abbrev pub NoneCloses : Stay → Type 0
NoneCloses ms = IsTrue (list_all (λ m. not (is_close m)) ms)

-- The last message is the only close message: the visitor isn't there any more.
abbrev pub LastCloses : Stay → Type 0
LastCloses ms = (before : Stay) × NoneCloses before × (ms ≡ before ++ Some Close ∷ [])

-- what a script says: what each of its visitors sends
abbrev pub Script : Type 0
Script = List Stay

-- A visitor joins once the one before has sent a close message, which ends the stay; the last visitor may be there at the end.
abbrev pub InTurn : Script → Type 0
InTurn [] = Unit {0}
InTurn (ms ∷ []) = NoneCloses ms ⊎ LastCloses ms
InTurn (ms ∷ next ∷ more) = LastCloses ms × InTurn (next ∷ more)

-- all that is sent, by one visitor after the other
abbrev pub messages_of : Script → List (Option Message)
messages_of = flat_map (λ ms. ms)

-- ---- how it is written

-- what a line says: a visitor joins, or the visitor who is there sends this
pub data Said : Type 0 where
  Joins : Said
  Sends : (m : Option Message) → Said

-- The line sends these bytes, whichever they are: the rest of the line.
pub record IsSend (line : List ℕ) (m : Option Message) : Type 0 where
  pub text : List ℕ
  pub unbroken : IsTrue (is_unbroken text)
  pub spelled : line ≡ codes "send 1 " ++ text
  pub received : IsReceived text m

abbrev pub IsLine : List ℕ → Said → Type 0
IsLine line Joins = line ≡ codes "join 1"
IsLine line (Sends m) = IsSend line m

-- the lines of a visitor, and of all visitors
abbrev pub said_in : Stay → List Said
said_in ms = Joins ∷ map Sends ms

abbrev pub said_by : Script → List Said
said_by = flat_map said_in

-- The lines say this, each without its line end: nobody sends anything before joining or after a close message, and nobody joins while a
-- visitor is there.
pub record AreLinesOf (lines : List (List ℕ)) (script : Script) : Type 0 where
  pub say : AllZip IsLine lines (said_by script)
  pub turns : InTurn script

-- The bytes are a script that says this. Its last line may lack its line end.
pub record IsScript (bytes : List ℕ) (script : Script) : Type 0 where
  pub lines : List (List ℕ)
  pub say : AreLinesOf lines script
  pub text : (bytes ≡ text_of lines) ⊎ (bytes ++ 10 ∷ [] ≡ text_of lines)
  pub short : length bytes ≤ byte_limit

-- the bytes are no script
abbrev pub IsNoScript : List ℕ → Type 0
IsNoScript bytes = (script : Script) → IsScript bytes script → ⊥

-- The first line of bytes, and what comes after it. The last line may lack its line end, and no bytes have no line.
pub record FirstLine (bytes line after : List ℕ) : Type 0 where
  pub unbroken : IsTrue (is_unbroken line)
  pub text : (bytes ≡ line ++ 10 ∷ after) ⊎ ((bytes ≡ line) × (after ≡ []) × (0 < length line))

-- The bytes begin with k lines that a script may begin with, and the next line can't follow these.
pub record FaultBehind (bytes : List ℕ) (k : ℕ) : Type 0 where
  pub before : List (List ℕ)
  pub script : Script
  pub say : AreLinesOf before script
  pub count : length before ≡ k
  pub line : List ℕ
  pub rest : List ℕ
  pub after : List ℕ
  pub text : bytes ≡ text_of before ++ rest
  pub next : FirstLine rest line after
  pub stops : (more : Script) → AreLinesOf (before ++ line ∷ []) more → ⊥

-- The line at which bytes are no script: 0 where there are too many bytes, and else the first line that can't stand where it stands.
abbrev pub FaultAt : List ℕ → ℕ → Type 0
FaultAt bytes zero = byte_limit < length bytes
FaultAt bytes (suc k) = (length bytes ≤ byte_limit) × FaultBehind bytes k

-- ---- what is written for it

-- the line that is written for bytes that are no script
abbrev pub fault_text : ℕ → List ℕ
fault_text line = codes "script " ++ decimal line ++ codes "\n"

-- What is written for a script: each frame of each visitor, as if alone, on a line behind the visitor's number, and how many cached blocks
-- were run and taken from the cache. This form of code has none.
abbrev pub script_text : List Cell → ℕ → Script → List ℕ
script_text nb budget script = labelled (codes "1 ") (flat_map (solo nb budget) script) ++ codes "end runs 0 hits 0\n"

-- the parts of the answers to one visitor after the other, and the steps of all cells that run for them
abbrev pub script_parts : List Cell → ℕ → Script → List Part
script_parts nb budget = flat_map (parts_from nb budget Before)

abbrev pub script_work : List Cell → ℕ → Script → ℕ
script_work nb budget = sum_by (work nb budget)
