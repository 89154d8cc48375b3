-- The line at which bytes fail.
use Rattle.thin_form.proofs.OneFailure.{formless, same_failure}
use Rattle.thin_form.proofs.SomeFailure.{some_failure}
use Rattle.thin_form.proofs.laws.one_failure.Goals as goal

pub returns-clause-none : goal.returns-clause-none
returns-clause-none c = formless

pub returns-clause-line : goal.returns-clause-line
returns-clause-line c = same_failure

pub returns-clause-some : goal.returns-clause-some
returns-clause-some c = some_failure
