-- What is told of links, and what their calls do.
use Rattle.std.specs.Prelude.{◌≡◌, ℕ, List, [], ◌∷◌, ◌++◌, Option, Some, None, IfSome}
use Rattle.link_io.specs.declared.answers.Received.{Received}
use Rattle.link_io.specs.declared.answers.Received.TheVariants as received
use Rattle.link_io.specs.declared.answers.Sent.{Sent}
use Rattle.link_io.specs.declared.answers.Sent.TheVariants as sent

-- a message: the bytes of a text, or none where it is no text
abbrev pub Item : Type 0
Item = Option (List ℕ)

-- what a link tells: the messages that were taken from it, those that are left, and the texts that were sent
pub record Told : Type 0 where
  pub taken : List Item
  pub left : List Item
  pub sent : List (List ℕ)

-- a link on which a visitor with these messages has just come
abbrev pub fresh : List Item → Told
fresh items = record { taken = []; left = items; sent = [] }

-- this message was the next one, and is taken
abbrev pub TakesNext : Told → Option Told → Item → Type 0
TakesNext before now m =
    (rest : List Item) × (before.left ≡ m ∷ rest) × (now ≡ Some (record { taken = before.taken ++ m ∷ []; left = rest; sent = before.sent }))

-- what `recv` does: at `End` no message is left, and at a failure and want of memory nothing changes
abbrev pub Gets : Told → Option Told → Received → Type 0
Gets before now (received.Text v) = TakesNext before now (Some v.items)
Gets before now received.Other = TakesNext before now None
Gets before now received.End = (before.left ≡ []) × (now ≡ Some before)
Gets before now received.Failed = now ≡ Some before
Gets before now received.Memory = now ≡ Some before

-- the same where it is told
abbrev pub Receives : Option Told → Option Told → Received → Type 0
Receives before now got = IfSome before (λ b. Gets b now got)

-- a link on which a further text was sent
abbrev pub with_text : Told → List ℕ → Told
with_text t text = record { taken = t.taken; left = t.left; sent = t.sent ++ text ∷ [] }

-- what `send` does: the text is appended, or nothing changes
abbrev pub Puts : Told → Option Told → List ℕ → Sent → Type 0
Puts before now text sent.Done = now ≡ Some (with_text before text)
Puts before now text sent.Failed = now ≡ Some before
Puts before now text sent.Memory = now ≡ Some before

-- the same where it is told
abbrev pub Sends : Option Told → Option Told → List ℕ → Sent → Type 0
Sends before now text done = IfSome before (λ b. Puts b now text done)
