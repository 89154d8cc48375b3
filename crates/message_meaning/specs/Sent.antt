-- What bytes are that are sent one after the other.
use Rattle.std.specs.Prelude.{ℕ, List, [], ◌∷◌, Option}
use Rattle.messages.specs.declared.message.Message.{Message}
use Rattle.message_meaning.specs.Messages.{IsReceived}

abbrev pub AreReceived : List (List ℕ) → List (Option Message) → Type 0
AreReceived [] [] = Unit {0}
AreReceived [] (m ∷ ms) = ⊥
AreReceived (bytes ∷ rest) [] = ⊥
AreReceived (bytes ∷ rest) (m ∷ ms) = IsReceived bytes m × AreReceived rest ms
