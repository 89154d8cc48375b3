-- What is no message is none.
use Rattle.kernel.proofs.state.deliver.received.Goals as goal

pub returns-in-Err-NotMessage : goal.returns-in-Err-NotMessage
returns-in-Err-NotMessage c = c.in-Err-NotMessage.ensures.none c.in-Err-NotMessage.field-0-is
