-- The refusals of some bytes.
use Rattle.nbserve.proofs.OneRefusal.{none_refused, same_refusal}
use Rattle.nbserve.proofs.laws.one_refusal.Goals as goal
use Rattle.thin_form.proofs.OneFailure.{same_failure}
use Rattle.thin_form.proofs.SomeFailure.{some_failure}

pub returns-clause-apart : goal.returns-clause-apart
returns-clause-apart c = none_refused

pub returns-clause-line : goal.returns-clause-line
returns-clause-line c = same_failure

pub returns-clause-some : goal.returns-clause-some
returns-clause-some c = some_failure

pub returns-clause-once : goal.returns-clause-once
returns-clause-once c = same_refusal
