-- What follows for a status, a command or a file alone from what a run comes to.
use Rattle.std.specs.Prelude.{◌≡◌, ◌⊎◌, ℕ, ◌+◌, ◌≤◌, List, Option, None, Some}
use Rattle.command_meaning.specs.Commands.{Command, Play, command_of, notebook_of}
use Rattle.program_meaning.specs.Program.{IsAccepted, IsRefused, read_of, usual_budget}
use Rattle.program_meaning.specs.Scripts.{Script, IsNoScript, script_parts, script_work}
use Rattle.py_tree.specs.Trees.{Cell}
use Rattle.script_run.specs.Cut.{IsCutOff}
use Rattle.script_run.specs.Prefix.{WrotePrefix}
use Rattle.nbserve.specs.Works.{Works, label_of, last_of}

-- The names are those of what a run comes to (`RunsTo`).
--
-- range: a status is one of seven.
-- read, write: a fault has its cause.
-- usage: words that are no form are answered so, unless that can't be written.
-- accepted: a command that can be carried out is, unless a fault comes or memory is wanting;
-- complete: and where no count of faults rises or stands at its end, it is, or memory is wanting.
-- steps: the steps of all cells that run for its visitors are counted.
-- cut: where a write fails, and the count of read faults neither rises nor stands at its end, the text of a command that can be carried out is
--   cut in the line of a frame, with the steps up to this frame counted and no later ones, or in its last line: all before was written, and not all of it.
-- prefix: where memory is wanting, whole lines of a prefix of its frames were written, and nothing else.
-- refused: a notebook that isn't accepted is refused, unless a fault comes or memory is wanting.
-- no_script: bytes that are no script are answered so, where the notebook is accepted, unless a fault comes or memory is wanting.
-- unrun: no step is counted where a test isn't passed.
pub record Shows (holds : List ℕ → Option (Option (List ℕ))) (unread unwritten : Type 0) (words : List (List ℕ)) (status : ℕ) (before now : Option (List ℕ)) (count count_after : ℕ) : Type 0 where
  pub range : status ≤ 6
  pub read : status ≡ 3 → unread
  pub write : status ≡ 4 → unwritten
  pub usage : command_of words ≡ None → (status ≡ 2) ⊎ (status ≡ 4) ⊎ (status ≡ 5)
  pub accepted : (nb : List Cell) (stays : Script) → Works holds words nb stays → (status ≡ 0) ⊎ (status ≡ 3) ⊎ (status ≡ 4) ⊎ (status ≡ 5)
  pub complete : (nb : List Cell) (stays : Script) → Works holds words nb stays → (unread → ⊥) → (unwritten → ⊥) → (status ≡ 0) ⊎ (status ≡ 5)
  pub steps : status ≡ 0 → (nb : List Cell) (stays : Script) → Works holds words nb stays → count_after ≡ count + script_work nb usual_budget stays
  pub cut : status ≡ 4 → (asked : Command) (nb : List Cell) (stays : Script) → command_of words ≡ Some asked → Works holds words nb stays → (unread → ⊥)
      → IsCutOff (label_of asked) (last_of asked) (script_parts nb usual_budget stays) before now count count_after
  pub prefix : status ≡ 5 → (asked : Command) (nb : List Cell) (stays : Script) → command_of words ≡ Some asked → Works holds words nb stays
      → WrotePrefix (label_of asked) (script_parts nb usual_budget stays) before now count count_after
  pub refused : (asked : Command) (all : List ℕ) → command_of words ≡ Some asked → holds (notebook_of asked) ≡ Some (Some all) → IsRefused (read_of all)
      → (status ≡ 1) ⊎ (status ≡ 3) ⊎ (status ≡ 4) ⊎ (status ≡ 5)
  pub no_script : (file script all text : List ℕ) (nb : List Cell) → command_of words ≡ Some (Play file script)
      → holds file ≡ Some (Some all) → IsAccepted (read_of all) nb → holds script ≡ Some (Some text) → IsNoScript (read_of text)
      → (status ≡ 6) ⊎ (status ≡ 3) ⊎ (status ≡ 4) ⊎ (status ≡ 5)
  pub unrun : (status ≡ 1) ⊎ (status ≡ 2) ⊎ (status ≡ 3) ⊎ (status ≡ 6) → count_after ≡ count
