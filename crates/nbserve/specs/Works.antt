-- Commands that can be carried out.
use Rattle.std.specs.Prelude.{◌≡◌, ℕ, List, [], codes, Option, Some}
use Rattle.command_meaning.specs.Commands.{Command, Once, Play, command_of}
use Rattle.program_meaning.specs.Program.{IsAccepted, read_of}
use Rattle.program_meaning.specs.Scripts.{Script, IsScript}
use Rattle.py_tree.specs.Trees.{Cell}
use Rattle.nbserve.specs.Execution.{opening}

-- The words ask for a command that can be carried out, and the files tell it: the cells of its notebook are accepted, and its
-- visitors send this.
pub data Works (holds : List ℕ → Option (Option (List ℕ))) (words : List (List ℕ)) (nb : List Cell) (stays : Script) : Type 0 where
  once : (file all : List ℕ) → command_of words ≡ Some (Once file) → holds file ≡ Some (Some all) → IsAccepted (read_of all) nb
      → stays ≡ opening → Works holds words nb stays
  play : (file script all text : List ℕ) → command_of words ≡ Some (Play file script)
      → holds file ≡ Some (Some all) → IsAccepted (read_of all) nb → holds script ≡ Some (Some text) → IsScript (read_of text) stays
      → Works holds words nb stays

-- what stands before each frame that a command writes, and its last line
abbrev pub label_of : Command → List ℕ
label_of (Once file) = []
label_of (Play file script) = codes "1 "

abbrev pub last_of : Command → List ℕ
last_of (Once file) = []
last_of (Play file script) = codes "end runs 0 hits 0\n"
