use Rattle.message_meaning.proofs.Ordered.{ascend}
use Rattle.message_meaning.proofs.laws.names_in_order.Goals as goal

pub returns : goal.returns
returns c = record { ascend = ascend }
