-- Messages that samples are written with.
use Rattle.std.specs.Prelude.{ℕ, List, [], ◌∷◌, ◌++◌, codes, replicate, Option}
use Rattle.py_value.specs.declared.types.Value.{Value}
use Rattle.messages.specs.declared.message.Message.TheVariants.{Set}
use Rattle.message_meaning.specs.Messages.{IsMessage, IsNoMessage, set_item}

-- the text of a value, as it is sent for the element `a`
abbrev pub sent : List ℕ → List ℕ
sent value = codes "{\"set\":{\"a\":" ++ value ++ codes "}}"

-- by this text the value is sent; none, where no element admits it
abbrev pub Sends : List ℕ → Option Value → Type 0
Sends text v = IsMessage (sent text) (Set (set_item (codes "a") v ∷ []))

-- by this text no value is sent
abbrev pub SendsNothing : List ℕ → Type 0
SendsNothing text = IsNoMessage (sent text)

-- so many lists, each in the one before
abbrev pub lists : ℕ → List ℕ
lists n = replicate n 91 ++ replicate n 93
