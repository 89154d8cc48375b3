-- How a session ends whose frames aren't sent to their end.
use Rattle.session.specs.declared.ended.Ended.{Ended}
use Rattle.session.specs.declared.ended.Ended.TheVariants as ended
use Rattle.session.specs.declared.unsent.Unsent.{Unsent}
use Rattle.session.specs.declared.unsent.Unsent.TheVariants as unsent

abbrev pub ended_for : Unsent → Ended
ended_for unsent.Failed = ended.LinkFault
ended_for unsent.Memory = ended.Memory
