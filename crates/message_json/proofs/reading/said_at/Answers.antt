use Rattle.std.proofs.Common.{sym, rules}
use Rattle.message_json.proofs.Lists.{only_sets}
use Rattle.message_json.proofs.reading.said_at.Goals as goal

pub returns-then-not-is_empty : goal.returns-then-not-is_empty
returns-then-not-is_empty c = sym (only_sets c.args.name.now c.args.members.entries (search rules) (search rules))
