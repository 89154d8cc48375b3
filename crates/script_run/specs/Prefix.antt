-- Where memory is wanting while parts are written.
use Rattle.std.specs.Prelude.{◌≡◌, ℕ, ◌+◌, ◌≤◌, List, ◌++◌, Option}
use Rattle.link_io.specs.Outside.{Took}
use Rattle.visit_meaning.specs.Answer.{Part, cost_of_parts, frames_in}
use Rattle.frame_meaning.specs.FrameText.{labelled}
use Rattle.kernel.specs.Visit.{first_cost}

-- The whole lines of a prefix of the parts were written, and nothing else. Their steps are counted, and no more than those of one part behind
-- them.
pub record WrotePrefix (label : List ℕ) (parts : List Part) (before now : Option (List ℕ)) (count count_after : ℕ) : Type 0 where
  pub written : List Part
  pub rest : List Part
  pub are : parts ≡ written ++ rest
  pub least : count + cost_of_parts written ≤ count_after
  pub most : count_after ≤ count + cost_of_parts written + first_cost rest
  pub took : Took before now (labelled label (frames_in written))
