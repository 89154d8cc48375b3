-- What a visitor is sent who is served, and the steps that are counted.
use Rattle.std.specs.Prelude.{◌≡◌, ℕ, ◌+◌, ◌<◌, ◌≤◌, ◌⊎◌, All, List, [], ◌∷◌, ◌++◌, true, false, length, map, Option}
use Rattle.frame_meaning.specs.FrameText.{frame_text}
use Rattle.kernel.specs.Calls.{newest_after, parts_for}
use Rattle.kernel.specs.Visit.{Stands, Visit, closed, first_cost}
use Rattle.message_meaning.specs.Sent.{AreReceived}
use Rattle.messages.specs.declared.message.Message.{Message}
use Rattle.link_io.specs.Links.{Item, Told}
use Rattle.py_tree.specs.View.{view_cells}
use Rattle.py_tree.specs.declared.tree.CellCode.{CellCode}
use Rattle.visit_meaning.specs.Answer.{Part, cost_of_parts, frames_in, solo, state_after}
use Rattle.session.specs.Talks.{AtEnd, IsClose, IsNoClose, IsOver, TakesLast, Talked, bytes_of, texts_of}
use Rattle.session.specs.declared.ended.Ended.{Ended}
use Rattle.session.specs.declared.ended.Ended.TheVariants as ended

-- These messages were taken from the link, none of them a close message, and exactly the texts for them were sent: those of the frames that
-- were still to come, and those of a visitor alone who sends these messages from there on. No frame is to come; state and newest frames are
-- those to which these lead, they stand as those of the whole notebook, and the kernel isn't spoiled.
pub record IsServed (v : Visit) (before : Option Told) (items : List Item) (after : Visit) (now : Option Told) : Type 0 where
  pub messages : List (Option Message)
  pub are : AreReceived (map bytes_of items) messages
  pub unclosed : All IsNoClose items
  pub talked : Talked before now items (texts_of (parts_for v messages))
  pub over : after.pending ≡ []
  pub state : after.state ≡ state_after (view_cells v.nb) v.budget v.state messages
  pub newest : after.newest ≡ newest_after v.newest (frames_in (parts_for v messages))
  pub stands : Stands after
  pub sound : after.spoiled ≡ false
  pub nb : after.nb ≡ v.nb
  pub budget : after.budget ≡ v.budget

-- these are the texts of a prefix of the parts
pub record ArePrefix (parts : List Part) (these : List (List ℕ)) : Type 0 where
  pub sent : List Part
  pub rest : List Part
  pub whole : parts ≡ sent ++ rest
  pub texts : these ≡ texts_of sent

-- the most messages that are answered in one call
abbrev pub message_count_limit : ℕ
message_count_limit = 1000000

-- Messages were taken, and texts were sent, which are a prefix of those for the messages that the kernel took: for all that were taken from the
-- link, but for a last one at most, where memory was wanting. None that the kernel took is a close message, and one that it didn't take was taken
-- from the link only once all texts for those before it were sent. So no body takes a message before all texts so far were sent: it might be a close
-- message, which is none of those that the kernel took, and then the sending might fail.
pub record IsCutShort (v : Visit) (before now : Option Told) : Type 0 where
  pub items : List Item
  pub heard : List Item
  pub untaken : List Item
  pub are_all : items ≡ heard ++ untaken
  pub one : length untaken ≤ 1
  pub few : length items ≤ message_count_limit
  pub unclosed : All IsNoClose heard
  pub messages : List (Option Message)
  pub are : AreReceived (map bytes_of heard) messages
  pub texts : List (List ℕ)
  pub talked : Talked before now items texts
  pub begin : ArePrefix (parts_for v messages) texts
  pub behind : (untaken ≡ []) ⊎ (begin.rest ≡ [])

-- A visit over a link is over: no message is left, or the next one closed it. The newest frames stay as they are.
abbrev pub EndsAt : Visit → Option Told → Visit → Option Told → Type 0
EndsAt v before after now = (AtEnd before now × (after ≡ v)) ⊎ (TakesLast v.state before now × (after ≡ closed v))

-- What was taken and sent when a session ends. Where it was closed, nothing more was read than the message that closed it, if there was one.
-- Where the link failed, not so many messages were answered as one call answers. Where memory was wanting for a message that was taken from the
-- link, the kernel is spoiled.
abbrev pub Serves : Ended → Visit → Option Told → Visit → Option Told → Type 0
Serves ended.Closed v before after now = (items : List Item) × (length items < message_count_limit)
    × (at : Visit) × (mid : Option Told) × IsServed v before items at mid × EndsAt at mid after now
Serves ended.TooMany v before after now = (items : List Item) × (length items ≡ message_count_limit) × IsServed v before items after now
Serves ended.LinkFault v before after now = (c : IsCutShort v before now) × (c.untaken ≡ [])
    × ((length c.items < message_count_limit) ⊎ (c.begin.rest ≡ [] → ⊥))
Serves ended.Memory v before after now = (c : IsCutShort v before now) × ((c.untaken ≡ []) ⊎ (after.spoiled ≡ true))

-- these messages were taken, and exactly the steps of the parts for them were counted
pub record IsCounted (v : Visit) (before : Option Told) (items : List Item) (count count_after : ℕ) (now : Option Told) : Type 0 where
  pub messages : List (Option Message)
  pub are : AreReceived (map bytes_of items) messages
  pub texts : List (List ℕ)
  pub talked : Talked before now items texts
  pub steps : count_after ≡ count + cost_of_parts (parts_for v messages)

-- The steps that were counted when a session ends. Where the link failed, they are those of the parts that were sent and of the next one, if
-- there was one; where memory was wanting, at most these.
abbrev pub Counts : Ended → Visit → Option Told → (count count_after : ℕ) → Option Told → Type 0
Counts ended.Closed v before count count_after now =
    (items : List Item) × (mid : Option Told) × (c : IsCounted v before items count count_after mid)
    × IsOver (state_after (view_cells v.nb) v.budget v.state c.messages) mid now
Counts ended.TooMany v before count count_after now = (items : List Item) × IsCounted v before items count count_after now
Counts ended.LinkFault v before count count_after now = (c : IsCutShort v before now)
    × (count_after ≡ count + cost_of_parts c.begin.sent + first_cost c.begin.rest)
Counts ended.Memory v before count count_after now = (c : IsCutShort v before now)
    × (count + cost_of_parts c.begin.sent ≤ count_after) × (count_after ≤ count + cost_of_parts c.begin.sent + first_cost c.begin.rest)

-- what was sent over a link are the texts of the frames of a visitor alone who sends these messages
pub record SentSolo (nb : List CellCode) (budget : ℕ) (items : List Item) (now : Told) : Type 0 where
  pub messages : List (Option Message)
  pub are : AreReceived (map bytes_of items) messages
  pub texts : now.sent ≡ map frame_text (solo (view_cells nb) budget messages)

-- Of these messages, the texts of a visitor alone who sends the first ones were sent up to some place: all of them, where there is one that the
-- kernel didn't take.
pub record SentSome (nb : List CellCode) (budget : ℕ) (all heard untaken : List Item) (now : Told) : Type 0 where
  pub messages : List (Option Message)
  pub are : AreReceived (map bytes_of heard) messages
  pub taken : now.taken ≡ heard ++ untaken
  pub unclosed : All IsNoClose heard
  pub all_are : now.taken ++ now.left ≡ all
  pub rest : List (List ℕ)
  pub texts : now.sent ++ rest ≡ map frame_text (solo (view_cells nb) budget messages)
  pub behind : (untaken ≡ []) ⊎ (rest ≡ [])

-- the messages up to the end of the link, or to a close message, were answered
pub record SentClosed (nb : List CellCode) (budget : ℕ) (all : List Item) (now : Told) : Type 0 where
  pub read : List Item
  pub unclosed : All IsNoClose read
  pub answered : SentSolo nb budget read now
  pub all_are : now.taken ++ now.left ≡ all
  pub ends : ((read ≡ all) × (now.taken ≡ all)) ⊎ ((m : Item) × IsClose m × (now.taken ≡ read ++ m ∷ []))
