-- What is told of each answer is computed.
use Rattle.std.proofs.Common.{ap, refl}
use Rattle.std.specs.Fmt.{digits}
use Rattle.program_meaning.specs.SetSamples.{told}
use Rattle.program_meaning.proofs.SetAnswers.{sets_both, one_unfit, one_unknown, moves_a, moves_both}
use Rattle.program_meaning.proofs.laws.worked_sets.Goals as goal

pub returns-clause-both : goal.returns-clause-both
unfolding digits
returns-clause-both c = ap told sets_both

pub returns-clause-unfit : goal.returns-clause-unfit
unfolding digits
returns-clause-unfit c = ap told one_unfit

pub returns-clause-unknown : goal.returns-clause-unknown
unfolding digits
returns-clause-unknown c = ap told one_unknown

pub returns-clause-nothing : goal.returns-clause-nothing
unfolding digits
returns-clause-nothing c = refl

pub returns-clause-nothing_before : goal.returns-clause-nothing_before
unfolding digits
returns-clause-nothing_before c = refl

pub returns-clause-closes : goal.returns-clause-closes
returns-clause-closes c = refl

pub returns-clause-closes_before : goal.returns-clause-closes_before
returns-clause-closes_before c = refl

pub returns-clause-ended : goal.returns-clause-ended
returns-clause-ended c m = refl

pub returns-clause-anew : goal.returns-clause-anew
unfolding digits
returns-clause-anew c = ap told moves_a

pub returns-clause-anew_beside : goal.returns-clause-anew_beside
unfolding digits
returns-clause-anew_beside c = ap told moves_both

pub returns-clause-not_thin : goal.returns-clause-not_thin
returns-clause-not_thin c = refl
