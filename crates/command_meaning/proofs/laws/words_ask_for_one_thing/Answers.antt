-- Words of a service are words of no command, and its numbers are within their limits.
use Rattle.command_meaning.proofs.ServiceWords.{apart, port, visitors, workers}
use Rattle.command_meaning.proofs.laws.words_ask_for_one_thing.Goals as goal

pub returns-clause-apart : goal.returns-clause-apart
returns-clause-apart c = apart

pub returns-clause-port : goal.returns-clause-port
returns-clause-port c = port

pub returns-clause-workers : goal.returns-clause-workers
returns-clause-workers c = workers

pub returns-clause-visitors : goal.returns-clause-visitors
returns-clause-visitors c = visitors
