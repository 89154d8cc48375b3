-- What the members so far set, and what those to come set.
use Rattle.std.proofs.Common.{◌≡◌, ◌++◌}
use Rattle.message_meaning.specs.Messages.{items_in}
use Rattle.serde_json.specs.View.{members_view}
use Rattle.message_json.proofs.reading.items_of.Given as goal

abbrev pub invariant-loop-name : goal.invariant-loop-name
invariant-loop-name l = items_in (members_view l.fn.members.entries) ≡ l.items.items ++ items_in (members_view l.name-iterator)
