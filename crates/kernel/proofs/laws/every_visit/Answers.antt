-- Every visit is the way from its beginning.
use Rattle.kernel.proofs.SoloVisits.{every_visit, goes_on}
use Rattle.kernel.proofs.laws.every_visit.Goals as goal

pub returns : goal.returns
returns c = record { solo = every_visit; onward = goes_on }
