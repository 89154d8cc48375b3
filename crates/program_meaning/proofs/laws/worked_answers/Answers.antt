-- Each answer is computed, and so are the answers one after the other.
use Rattle.std.proofs.Common.{ap, ℕ}
use Rattle.std.specs.Prelude.{sum_by}
use Rattle.std.specs.Fmt.{digits}
use Rattle.visit_meaning.specs.Answer.{Answered, Part, frames_in}
use Rattle.frame_meaning.specs.FrameText.{frame_lines}
use Rattle.program_meaning.proofs.SliderAnswers.{opens, sets, refuses, all_parts}
use Rattle.program_meaning.proofs.laws.worked_answers.Goals as goal

abbrev work_in : Answered → ℕ
work_in a = sum_by (λ (p : Part). p.cost) a.parts

pub returns-clause-opening : goal.returns-clause-opening
returns-clause-opening c = ap work_in opens

pub returns-clause-set : goal.returns-clause-set
returns-clause-set c = ap work_in sets

pub returns-clause-refused : goal.returns-clause-refused
returns-clause-refused c = ap work_in refuses

pub returns-clause-frames : goal.returns-clause-frames
unfolding digits
returns-clause-frames c = ap (λ parts. frame_lines (frames_in parts)) all_parts
