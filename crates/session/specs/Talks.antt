-- What goes over a link: messages that are taken, and texts that are sent.
use Rattle.std.specs.Prelude.{◌≡◌, ◌⊎◌, ℕ, List, [], ◌∷◌, ◌++◌, map, Option, Some, None, IfSome}
use Rattle.frame_meaning.specs.FrameText.{frame_text}
use Rattle.link_io.specs.Links.{Item, Told}
use Rattle.kernel.specs.Visit.{IsClosed}
use Rattle.message_meaning.specs.Messages.{IsMessage, IsReceived}
use Rattle.messages.specs.declared.message.Message.{Message}
use Rattle.messages.specs.declared.message.Message.TheVariants.{Close}
use Rattle.visit_meaning.specs.Answer.{Part, State, frames_in}
use Rattle.session.specs.declared.heard.Heard.{Heard}
use Rattle.session.specs.declared.heard.Heard.TheVariants as heard

-- the bytes that a kernel is given for a message: none for what is no text, and no message has no bytes
abbrev pub bytes_of : Item → List ℕ
bytes_of (Some bytes) = bytes
bytes_of None = []

-- the bytes are no close message
abbrev pub IsNoCloseText : List ℕ → Type 0
IsNoCloseText bytes = IsMessage bytes Close → ⊥

-- a message that is taken is a close message, or it isn't
abbrev pub IsClose : Item → Type 0
IsClose m = IsMessage (bytes_of m) Close

abbrev pub IsNoClose : Item → Type 0
IsNoClose m = IsNoCloseText (bytes_of m)

-- the texts of the frames of parts, one a frame
abbrev pub texts_of : List Part → List (List ℕ)
texts_of parts = map frame_text (frames_in parts)

-- where it is told, these messages were taken, these texts were sent, and nothing else
abbrev pub Talked : Option Told → Option Told → List Item → List (List ℕ) → Type 0
Talked before now items texts = IfSome before
    (λ b. (left : List Item) × (b.left ≡ items ++ left) × (now ≡ Some (record { taken = b.taken ++ items; left = left; sent = b.sent ++ texts })))

-- where it is told, no message is left
abbrev pub AtEnd : Option Told → Option Told → Type 0
AtEnd before now = IfSome before (λ b. (b.left ≡ []) × (now ≡ Some b))

-- From this state the message that closes the visit is taken, and nothing is sent: a close message, or any where the visit was closed before.
pub record TakesLast (state : State) (before now : Option Told) : Type 0 where
  pub item : Item
  pub message : Option Message
  pub is : IsReceived (bytes_of item) message
  pub last : IsClosed state message
  pub talked : Talked before now (item ∷ []) []

-- the link was read to its end, or to the message that closes the visit
abbrev pub IsOver : State → Option Told → Option Told → Type 0
IsOver state before now = AtEnd before now ⊎ TakesLast state before now

-- what was heard
abbrev pub Hears : Option Told → Option Told → Heard → Type 0
Hears before now (heard.Message v) = (m : Item) × (bytes_of m ≡ v.items) × Talked before now (m ∷ []) []
Hears before now heard.End = AtEnd before now
Hears before now heard.Failed = Talked before now [] []
Hears before now heard.Memory = Talked before now [] []
