-- How far the serving of a visitor has come.
use Rattle.std.specs.Prelude.{◌≡◌, ℕ, ◌+◌, ◌≤◌, ◌⊎◌, All, List, [], ◌∷◌, ◌++◌, true, false, length, map, Option}
use Rattle.frame_meaning.specs.FrameText.{frame_text}
use Rattle.kernel.specs.Calls.{Call, Leads, given_by, taken_by}
use Rattle.kernel.specs.Visit.{AtMostFirst, IsClosed, Stands, Visit, closed, first_cost}
use Rattle.message_meaning.specs.Messages.{IsReceived}
use Rattle.messages.specs.declared.message.Message.{Message}
use Rattle.link_io.specs.Links.{Item, Told}
use Rattle.session.specs.Talks.{IsNoCloseText, Talked}
use Rattle.session.specs.declared.answer.Answer.{Answer}
use Rattle.session.specs.declared.answer.Answer.TheVariants as answer
use Rattle.session.specs.declared.unsent.Unsent.{Unsent}
use Rattle.session.specs.declared.unsent.Unsent.TheVariants as unsent

-- Calls of the kernel lead from the visit `v` to `w`. The kernel took these bytes, none of them a close message; these messages were taken from
-- the link; and the texts of all frames that were given were sent.
pub record Went (v : Visit) (count : ℕ) (before : Option Told) (bytes : List (List ℕ)) (items : List Item) (w : Visit) (count_after : ℕ) (now : Option Told) : Type 0 where
  pub calls : List Call
  pub led : Leads calls v w count count_after
  pub took : taken_by calls ≡ bytes
  pub unclosed : All IsNoCloseText bytes
  pub talked : Talked before now items (map frame_text (given_by calls))

-- the kernel took these bytes, and all frames that were to come were sent
pub record Drains (v : Visit) (count : ℕ) (before : Option Told) (bytes : List (List ℕ)) (w : Visit) (count_after : ℕ) (now : Option Told) : Type 0 where
  pub went : Went v count before bytes [] w count_after now
  pub over : w.pending ≡ []
  pub stands : Stands w
  pub sound : w.spoiled ≡ false

-- the message closed the visit, and nothing else changed
pub record Closes (v : Visit) (count : ℕ) (before : Option Told) (bytes : List ℕ) (w : Visit) (count_after : ℕ) (now : Option Told) : Type 0 where
  pub message : Option Message
  pub is : IsReceived bytes message
  pub last : IsClosed v.state message
  pub visit : w ≡ closed v
  pub steps : count_after ≡ count
  pub told : now ≡ before

-- what answering a message comes to: it was answered, or it closed the visit
abbrev pub Answers : Answer → Visit → ℕ → Option Told → List ℕ → Visit → ℕ → Option Told → Type 0
Answers answer.Sent v count before bytes w count_after now = Drains v count before (bytes ∷ []) w count_after now
Answers answer.Closed v count before bytes w count_after now = Closes v count before bytes w count_after now

-- It went so far and no further: no more steps are counted than those of the next part. Where the link failed, the kernel took all messages,
-- and where a part was still to come, it is one whose text couldn't be sent; its steps are counted. Where memory was wanting, there may be
-- those of one message which the kernel didn't take: it was taken from the link only once no frame was to come, and the kernel, which `after`
-- says, is spoiled.
pub record Stops (why : Unsent) (v : Visit) (count : ℕ) (before : Option Told) (bytes : List (List ℕ)) (items : List Item) (after : Visit) (count_after : ℕ) (now : Option Told) : Type 0 where
  pub at : Visit
  pub count_at : ℕ
  pub took : List (List ℕ)
  pub left : List (List ℕ)
  pub went : Went v count before took items at count_at now
  pub are : bytes ≡ took ++ left
  pub one : length left ≤ 1
  pub behind : (left ≡ []) ⊎ (at.pending ≡ [])
  pub spoils : (left ≡ []) ⊎ (after.spoiled ≡ true)
  pub most : AtMostFirst at.pending count_at count_after
  pub exact : why ≡ unsent.Failed → (left ≡ []) × (count_after ≡ count_at + first_cost at.pending)

-- It stopped while frames were sent: where the link failed, there is one that couldn't be.
pub record Breaks (why : Unsent) (v : Visit) (count : ℕ) (before : Option Told) (bytes : List (List ℕ)) (items : List Item) (after : Visit) (count_after : ℕ) (now : Option Told) : Type 0 where
  pub stops : Stops why v count before bytes items after count_after now
  pub stuck : why ≡ unsent.Failed → stops.at.pending ≡ [] → ⊥
