-- What the program writes, and its status.
use Rattle.std.specs.Prelude.{◌≡◌, ℕ, ◌+◌, List, [], ◌∷◌, ◌++◌, flat_map, take, codes, decimal, Option, Some, None, IfSome}
use Rattle.command_meaning.specs.Commands.{Command, Once, Play, command_of, notebook_of}
use Rattle.py_tree.specs.Names.{Name}
use Rattle.py_tree.specs.Trees.{Cell}
use Rattle.graph_meaning.specs.Graph.{IsDoubled, NoneDoubled, NoneCyclic, IsCyclic}
use Rattle.form_meaning.specs.Fails.{FailsAt}
use Rattle.form_meaning.specs.Thin.{IsForm}
use Rattle.py_tree.specs.TextLines.{byte_limit}
use Rattle.messages.specs.declared.message.Message.TheVariants.{Open}
use Rattle.visit_meaning.specs.Answer.{solo}
use Rattle.frame_meaning.specs.FrameText.{frame_lines}
use Rattle.program_meaning.specs.Scripts.{Script, IsScript, FaultAt, script_text, fault_text}

-- the bytes are the file of these cells, no name is defined in two cells, and no cell lies on a cycle
pub record IsAccepted (bytes : List ℕ) (nb : List Cell) : Type 0 where
  pub form : IsForm bytes nb
  pub once : NoneDoubled nb
  pub free : NoneCyclic nb

-- the bytes are the file of no such cells
abbrev pub IsRefused : List ℕ → Type 0
IsRefused bytes = (nb : List Cell) → IsAccepted bytes nb → ⊥

-- why bytes are refused
pub data Refusal : Type 0 where
  Thin : (line : ℕ) → Refusal
  Doubly : (x : Name) → (first second : ℕ) → Refusal
  Cycle : (cells : List ℕ) → Refusal

-- The first test that bytes fail: they have the form, no name is defined again, no cell lies on a cycle.
abbrev pub FailsFirst : List ℕ → Refusal → Type 0
FailsFirst bytes (Thin line) = FailsAt bytes line
FailsFirst bytes (Doubly x first second) = (nb : List Cell) × IsForm bytes nb × IsDoubled nb x first second
FailsFirst bytes (Cycle cells) = (nb : List Cell) × IsForm bytes nb × IsCyclic nb cells

-- the line that is written for bytes that are refused
abbrev pub refusal_text : Refusal → List ℕ
refusal_text (Thin line) = codes "refused " ++ decimal line ++ codes " Thin\n"
refusal_text (Doubly x first second) = codes "refused doubly " ++ x ++ codes " " ++ decimal first ++ codes " " ++ decimal second ++ codes "\n"
refusal_text (Cycle cells) = codes "refused cycle" ++ flat_map (λ c. codes " " ++ decimal c) cells ++ codes "\n"

-- the usual budget of a cell
abbrev pub usual_budget : ℕ
usual_budget = 200000

-- what is written for `once` where the cells are accepted: the frames of the opening of one visitor, one a line
abbrev pub once_text : List Cell → List ℕ
once_text nb = frame_lines (solo nb usual_budget (Some Open ∷ []))

-- what is read of a file: its bytes, or one byte more than the limit
abbrev pub read_of : List ℕ → List ℕ
read_of bytes = take (byte_limit + 1) bytes

-- The bytes are what is read of the file, where it is told what the name stands for: there is such a file then.
abbrev pub AreRead : (List ℕ → Option (Option (List ℕ))) → List ℕ → List ℕ → Type 0
AreRead holds file bytes = IfSome (holds file) (λ told. (all : List ℕ) × (told ≡ Some all) × (bytes ≡ read_of all))

-- the notebook of the words is read, and its cells are accepted
abbrev pub IsLoaded : (List ℕ → Option (Option (List ℕ))) → List ℕ → List Cell → Type 0
IsLoaded holds file nb = (bytes : List ℕ) × AreRead holds file bytes × IsAccepted bytes nb

-- The status and the whole text that a run of the program comes to where no write fails and memory isn't wanting. `holds` is what the names
-- of files stand for, where that is told: nothing, or some bytes. `failed` says that a read failed. What is said of a script is said of an
-- accepted notebook's, and nothing runs unless the script is good.
pub data Comes (holds : List ℕ → Option (Option (List ℕ))) (failed : Type 0) (words : List (List ℕ)) (status : ℕ) (text : List ℕ) : Type 0 where
  -- 0: the notebook was opened, or the script was played
  opened : (file : List ℕ) (nb : List Cell) → command_of words ≡ Some (Once file) → IsLoaded holds file nb
      → status ≡ 0 → text ≡ once_text nb → Comes holds failed words status text
  played : (file script bytes : List ℕ) (nb : List Cell) (said : Script) → command_of words ≡ Some (Play file script)
      → IsLoaded holds file nb → AreRead holds script bytes → IsScript bytes said
      → status ≡ 0 → text ≡ script_text nb usual_budget said → Comes holds failed words status text
  -- 1: the bytes of the notebook are refused, for the first test that they fail
  refused : (command : Command) (bytes : List ℕ) (why : Refusal) → command_of words ≡ Some command → AreRead holds (notebook_of command) bytes
      → FailsFirst bytes why → status ≡ 1 → text ≡ refusal_text why → Comes holds failed words status text
  -- 2: the words are no form
  usage : command_of words ≡ None → status ≡ 2 → text ≡ codes "usage\n" → Comes holds failed words status text
  -- 3: a file couldn't be read. Which one isn't told.
  unread : (command : Command) → command_of words ≡ Some command → failed → status ≡ 3 → text ≡ codes "read fault\n"
      → Comes holds failed words status text
  -- 6: the bytes are no script
  no_script : (file script bytes : List ℕ) (nb : List Cell) (line : ℕ) → command_of words ≡ Some (Play file script)
      → IsLoaded holds file nb → AreRead holds script bytes → FaultAt bytes line
      → status ≡ 6 → text ≡ fault_text line → Comes holds failed words status text
