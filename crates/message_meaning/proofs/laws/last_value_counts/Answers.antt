use Rattle.message_meaning.proofs.Repeating.{last}
use Rattle.message_meaning.proofs.laws.last_value_counts.Goals as goal

pub returns : goal.returns
returns c = record { last = last }
