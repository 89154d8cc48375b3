use Rattle.message_meaning.proofs.Shapes.{said, saying}
use Rattle.message_meaning.proofs.laws.messages_are_computed.Goals as goal

pub returns : goal.returns
returns c = record { same = λ d m. (said d m, saying d m) }
