-- Commands that are carried out.
use Rattle.std.specs.Prelude.{◌≡◌, ℕ, ◌+◌, List, [], ◌∷◌, ◌++◌, flat_map, codes, Option, Some}
use Rattle.link_io.specs.Outside.{Took}
use Rattle.messages.specs.declared.message.Message.TheVariants.{Open}
use Rattle.visit_meaning.specs.Answer.{solo}
use Rattle.frame_meaning.specs.FrameText.{labelled}
use Rattle.command_meaning.specs.Commands.{Once, Play, command_of}
use Rattle.program_meaning.specs.Program.{AreRead, IsLoaded, usual_budget}
use Rattle.program_meaning.specs.Scripts.{Script, IsScript, script_parts, script_work}
use Rattle.py_tree.specs.Trees.{Cell}
use Rattle.script_run.specs.Cut.{IsCutOff}
use Rattle.script_run.specs.Prefix.{WrotePrefix}

-- what is played by `once`: one visitor, who opens the notebook
abbrev pub opening : Script
opening = (Some Open ∷ []) ∷ []

-- The frames of each visitor, as if alone, were written, each behind the label, and then the last text, and the steps of all cells that ran for
-- them were counted (0). Or the text is cut where a write failed, and the steps up to there were counted (4). Or memory was wanting behind a prefix of the frames (5).
pub data IsDone (nb : List Cell) (stays : Script) (label last : List ℕ) (status : ℕ) (before now : Option (List ℕ)) (unwritten : Type 0) (count count_after : ℕ) : Type 0 where
  whole : status ≡ 0 → Took before now (labelled label (flat_map (solo nb usual_budget) stays) ++ last) → count_after ≡ count + script_work nb usual_budget stays
      → IsDone nb stays label last status before now unwritten count count_after
  cut : status ≡ 4 → unwritten → IsCutOff label last (script_parts nb usual_budget stays) before now count count_after
      → IsDone nb stays label last status before now unwritten count count_after
  prefix : status ≡ 5 → WrotePrefix label (script_parts nb usual_budget stays) before now count count_after
      → IsDone nb stays label last status before now unwritten count count_after

-- the script of a file was played
pub record IsPlayed (holds : List ℕ → Option (Option (List ℕ))) (script : List ℕ) (nb : List Cell) (status : ℕ) (before now : Option (List ℕ)) (unwritten : Type 0) (count count_after : ℕ) : Type 0 where
  pub bytes : List ℕ
  pub said : Script
  pub read : AreRead holds script bytes
  pub is : IsScript bytes said
  pub done : IsDone nb said (codes "1 ") (codes "end runs 0 hits 0\n") status before now unwritten count count_after

-- the notebook of the words was opened, or their script was played
pub data Carried (holds : List ℕ → Option (Option (List ℕ))) (words : List (List ℕ)) (status : ℕ) (before now : Option (List ℕ)) (unwritten : Type 0) (count count_after : ℕ) : Type 0 where
  opened : (file : List ℕ) (nb : List Cell) → command_of words ≡ Some (Once file) → IsLoaded holds file nb
      → IsDone nb opening [] [] status before now unwritten count count_after
      → Carried holds words status before now unwritten count count_after
  played : (file script : List ℕ) (nb : List Cell) → command_of words ≡ Some (Play file script) → IsLoaded holds file nb
      → IsPlayed holds script nb status before now unwritten count count_after
      → Carried holds words status before now unwritten count count_after
