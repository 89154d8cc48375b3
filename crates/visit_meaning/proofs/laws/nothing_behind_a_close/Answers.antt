-- By induction over the messages before it.
use Rattle.visit_meaning.proofs.Closing.{ends_there, parts_up_to}
use Rattle.visit_meaning.proofs.laws.nothing_behind_a_close.Goals as goal

pub returns-clause-parts : goal.returns-clause-parts
returns-clause-parts c = parts_up_to

pub returns-clause-ended : goal.returns-clause-ended
returns-clause-ended c = ends_there
