-- The texts so far, and those that are still to come.
use Rattle.std.proofs.Common.{◌≡◌, List, ℕ, map}
use Rattle.py_value.specs.declared.types.Value.TheVariants as V
use Rattle.message_meaning.specs.Messages.{texts_in}
use Rattle.message_json.proofs.Lists.{behind}
use Rattle.serde_json.specs.View.{items_view}
use Rattle.message_json.proofs.reading.list_of.Given as goal

abbrev pub invariant-loop-item : goal.invariant-loop-item
invariant-loop-item l =
    (done : List (List ℕ)) × (l.texts.items ≡ map V.Text done)
    × (texts_in (items_view l.fn.items.items) ≡ behind done (texts_in (items_view l.item-iterator.rest.items)))
