-- What bytes are a message, over the values of JSON (RFC 8259) as serde_json reads them: at most 127 lists and objects are open at a place,
-- a surrogate stands in a pair, and a number is in the range of a float of 64 bits. An object has its names in the order of their bytes,
-- each once, with the last value that the text gives it.
use Rattle.std.specs.Prelude.{◌≡◌, ℕ, ◌≤◌, List, [], ◌∷◌, length, map, codes, Option, Some, None, option_map, option_and_then, IsUtf8}
use Rattle.py_value.specs.declared.types.Data.TheVariants as D
use Rattle.py_value.specs.declared.types.Value.{Value}
use Rattle.py_value.specs.declared.types.Value.TheVariants as V
use Rattle.messages.specs.declared.message.Message.{Message}
use Rattle.messages.specs.declared.message.Message.TheVariants.{Open, Set, Close}
use Rattle.messages.specs.declared.message.SetItem.{SetItem}
use Rattle.serde_json.specs.Data.{Data, null, boolean, number, string, array, object, Items, no_items, item, Members, no_members, member}
use Rattle.serde_json.specs.Find.{as_integer, as_str}
use Rattle.serde_json.specs.Read.{number_of, read}

-- the texts of a list in which each item is a text
abbrev pub texts_in : Items → Option (List (List ℕ))
texts_in no_items = Some []
texts_in (item d ds) = option_and_then (λ s. option_map (λ texts. s ∷ texts) (texts_in ds)) (as_str d)

abbrev pub list_in : Items → Option Value
list_in ds = option_map (λ texts. V.List (map D.Text texts)) (texts_in ds)

-- The value that an element may admit: null, a truth value, a number that is written without fraction and exponent, isn't `-0`
-- and goes from -2^63 to 2^64 - 1, a text, or a list of texts.
abbrev pub value_in : Data → Option Value
value_in null = Some V.None
value_in (boolean b) = Some (V.Bool b)
value_in (number n) = option_map V.Int (as_integer n)
value_in (string s) = Some (V.Text s)
value_in (array ds) = list_in ds
value_in (object ms) = None

-- the value of the digits, point and exponent of a number
abbrev pub number_in : List ℕ → Option Value
number_in text = option_and_then (λ n. value_in (number n)) (number_of text)

abbrev pub set_item : List ℕ → Option Value → SetItem
set_item k v = record { name = k; value = v }

-- what the members of an object set, in their order
abbrev pub items_in : Members → List SetItem
items_in no_members = []
items_in (member k d ms) = set_item k (value_in d) ∷ items_in ms

-- an object with one member
abbrev pub object_at : List ℕ → Data → Data
object_at k d = object (member k d no_members)

-- The value says this: `{"open":{}}`, `{"set":{NAME:VALUE, ..}}` or `{"close":{}}`.
abbrev pub Says : Data → Message → Type 0
Says d Open = d ≡ object_at (codes "open") (object no_members)
Says d (Set items) = (ms : Members) × (d ≡ object_at (codes "set") (object ms)) × (items ≡ items_in ms)
Says d Close = d ≡ object_at (codes "close") (object no_members)

-- the bytes are a text of this value
abbrev pub IsTextOf : List ℕ → Data → Type 0
IsTextOf bytes d = IsUtf8 bytes × (read bytes ≡ Some d)

-- a message has at most so many bytes
abbrev pub message_limit : ℕ
message_limit = 65536

-- the bytes are this message
abbrev pub IsMessage : List ℕ → Message → Type 0
IsMessage bytes m = (length bytes ≤ message_limit) × (d : Data) × IsTextOf bytes d × Says d m

-- the bytes are no message
abbrev pub IsNoMessage : List ℕ → Type 0
IsNoMessage bytes = (m : Message) → IsMessage bytes m → ⊥

-- what bytes are, where they may be no message
abbrev pub IsReceived : List ℕ → Option Message → Type 0
IsReceived bytes None = IsNoMessage bytes
IsReceived bytes (Some m) = IsMessage bytes m
