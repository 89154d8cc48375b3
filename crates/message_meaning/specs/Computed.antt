-- The message that a value says, as a function.
use Rattle.std.specs.Prelude.{ℕ, cond, List, codes, Option, Some, None, option_and_then}
use Rattle.std.specs.Str.{bytes_eq}
use Rattle.messages.specs.declared.message.Message.{Message}
use Rattle.messages.specs.declared.message.Message.TheVariants.{Open, Set, Close}
use Rattle.message_meaning.specs.Messages.{items_in}
use Rattle.serde_json.specs.Data.{Data, object, Members, no_members, member}
use Rattle.serde_json.specs.Read.{read}

abbrev pub if_empty : Members → Message → Option Message
if_empty no_members m = Some m
if_empty (member k d ms) m = None

-- what is said by the object at this name
abbrev pub said_at : List ℕ → Members → Option Message
said_at k ms =
    cond (bytes_eq k (codes "set")) (Some (Set (items_in ms)))
    (cond (bytes_eq k (codes "open")) (if_empty ms Open) (cond (bytes_eq k (codes "close")) (if_empty ms Close) None))

-- the message that a value says
abbrev pub message_in : Data → Option Message
message_in (object (member k (object ms) no_members)) = said_at k ms
message_in d = None

-- the message that a text is, whatever its length
abbrev pub said_by : List ℕ → Option Message
said_by text = option_and_then message_in (read text)
