use Rattle.message_meaning.proofs.Shapes.{one}
use Rattle.message_meaning.proofs.laws.messages_are_read_one_way.Goals as goal

pub returns : goal.returns
returns c = record { one = one }
