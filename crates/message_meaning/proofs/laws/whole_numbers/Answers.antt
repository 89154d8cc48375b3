use Rattle.std.proofs.Common.{ap, option_and_then}
use Rattle.message_meaning.specs.Messages.{value_in}
use Rattle.message_meaning.proofs.laws.whole_numbers.Goals as goal
use Rattle.serde_json.proofs.Numbers.{number_of-decimal, number_of-negative}
use Rattle.serde_json.specs.Data.{number}

pub returns-clause-natural : goal.returns-clause-natural
returns-clause-natural c n h = ap (option_and_then (λ m. value_in (number m))) (number_of-decimal n h)

pub returns-clause-below_zero : goal.returns-clause-below_zero
returns-clause-below_zero c n h = ap (option_and_then (λ m. value_in (number m))) (number_of-negative n h)
