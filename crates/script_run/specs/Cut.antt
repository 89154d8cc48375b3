-- Where a write of parts fails.
use Rattle.std.specs.Prelude.{◌≡◌, ℕ, ◌+◌, ◌<◌, List, [], ◌∷◌, ◌++◌, length, Option}
use Rattle.link_io.specs.Outside.{Took}
use Rattle.visit_meaning.specs.Answer.{Part, cost_of_parts, frames_in}
use Rattle.frame_meaning.specs.FrameText.{frame_text, labelled}

-- The lines of the parts before one were written, and a beginning of the line of that one, but not all of it. The steps of those parts
-- and of this one are counted, and none of later ones.
pub record IsCut (label : List ℕ) (parts : List Part) (before now : Option (List ℕ)) (count count_after : ℕ) : Type 0 where
  pub written : List Part
  pub last : Part
  pub rest : List Part
  pub are : parts ≡ written ++ last ∷ rest
  pub counted : count_after ≡ count + cost_of_parts (written ++ last ∷ [])
  pub piece : List ℕ
  pub more : List ℕ
  pub left : 0 < length more
  pub line : piece ++ more ≡ label ++ frame_text last.frame ++ 10 ∷ []
  pub took : Took before now (labelled label (frames_in written) ++ piece)

-- Where the text of a command is cut: at the line of a frame, or in the last text, behind all frames. Something of it isn't written.
pub data IsCutOff (label last : List ℕ) (parts : List Part) (before now : Option (List ℕ)) (count count_after : ℕ) : Type 0 where
  in_frame : IsCut label parts before now count count_after → IsCutOff label last parts before now count count_after
  in_last : (piece more : List ℕ) → 0 < length more → piece ++ more ≡ last → count_after ≡ count + cost_of_parts parts
      → Took before now (labelled label (frames_in parts) ++ piece) → IsCutOff label last parts before now count count_after
