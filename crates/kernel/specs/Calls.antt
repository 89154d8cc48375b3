-- Visits from their beginning: what a kernel's calls come to, one after the other.
use Rattle.std.specs.Prelude.{◌≡◌, ℕ, ◌+◌, List, [], ◌∷◌, ◌++◌, fold, length, replicate, Option, None}
use Rattle.messages.specs.declared.message.Message.{Message}
use Rattle.message_meaning.specs.Sent.{AreReceived}
use Rattle.visit_meaning.specs.Answer.{Before, Part, cost_of_parts, frames_in, parts_from, solo, state_after, work}
use Rattle.frames.specs.declared.frame.CellFrame.{CellFrame}
use Rattle.frames.specs.declared.frame.Frame.{Frame}
use Rattle.py_tree.specs.View.{view_cells}
use Rattle.py_tree.specs.declared.tree.CellCode.{CellCode}
use Rattle.kernel.specs.Visit.{Visit, IsDelivery, IsStep, with_frame}
use Rattle.kernel.specs.declared.answers.Delivered.{Delivered}
use Rattle.kernel.specs.declared.answers.Delivered.TheVariants as delivered
use Rattle.kernel.specs.declared.answers.Stepped.{Stepped}
use Rattle.kernel.specs.declared.answers.Stepped.TheVariants as stepped

-- a call that changes a visit, with its answer
pub data Call : Type 0 where
  Deliver : (bytes : List ℕ) → (answer : Delivered) → Call
  Step : (answer : Stepped) → Call

-- The calls lead from one visit to another, with the steps counted before and after.
abbrev pub Leads : List Call → (before after : Visit) → (count count_after : ℕ) → Type 0
Leads [] before after count count_after = (after ≡ before) × (count_after ≡ count)
Leads (Deliver bytes answer ∷ calls) before after count count_after =
    (v : Visit) × IsDelivery bytes before v answer × Leads calls v after count count_after
Leads (Step answer ∷ calls) before after count count_after =
    (v : Visit) × (n : ℕ) × IsStep before v count n answer × Leads calls v after n count_after

-- the bytes of the messages that were taken or closed the visit, and the frames that were given
abbrev pub taken_by : List Call → List (List ℕ)
taken_by [] = []
taken_by (Deliver bytes delivered.Taken ∷ calls) = bytes ∷ taken_by calls
taken_by (Deliver bytes delivered.Closed ∷ calls) = bytes ∷ taken_by calls
taken_by (call ∷ calls) = taken_by calls

abbrev pub given_by : List Call → List Frame
given_by [] = []
given_by (Step (stepped.Frame f) ∷ calls) = f ∷ given_by calls
given_by (call ∷ calls) = given_by calls

-- the newest frame of each cell once these were given, one after the other
abbrev pub newest_after : List (Option CellFrame) → List Frame → List (Option CellFrame)
newest_after newest given = fold (λ kept f. with_frame f kept) newest given

-- The frames that were given, and behind them those that are still to come, are those of a visitor alone who sends the messages that were
-- taken or closed the visit; the newest frame of each cell is the last one that was given of it; the state is the one to which these lead; and the steps that
-- were counted, with those that the frames to come will cost, are all that the cells cost which run for them.
pub record IsSolo (nb : List CellCode) (budget : ℕ) (sent : List (List ℕ)) (given : List Frame) (after : Visit) (count count_after : ℕ) : Type 0 where
  pub messages : List (Option Message)
  pub are : AreReceived sent messages
  pub frames : given ++ frames_in after.pending ≡ solo (view_cells nb) budget messages
  pub newest : after.newest ≡ newest_after (replicate (length nb) None) given
  pub state : after.state ≡ state_after (view_cells nb) budget Before messages
  pub steps : count_after + cost_of_parts after.pending ≡ count + work (view_cells nb) budget messages

-- what a visit gives from here on to a visitor who sends these messages: the parts that are still to come, and those of the answers
abbrev pub parts_for : Visit → List (Option Message) → List Part
parts_for v ms = v.pending ++ parts_from (view_cells v.nb) v.budget v.state ms

-- From one visit to another: the parts that were given, and behind them those that are still to come, are the parts for the messages that
-- were taken or closed the visit; the steps that were counted are those of the parts that were given; the newest frame of each cell is the last one that was
-- given of it, if there is one; and the state is the one to which the messages lead.
pub record GoesOn (v : Visit) (sent : List (List ℕ)) (given : List Frame) (after : Visit) (count count_after : ℕ) : Type 0 where
  pub messages : List (Option Message)
  pub are : AreReceived sent messages
  pub parts : List Part
  pub frames : given ≡ frames_in parts
  pub whole : parts ++ after.pending ≡ parts_for v messages
  pub steps : count_after ≡ count + cost_of_parts parts
  pub newest : after.newest ≡ newest_after v.newest given
  pub state : after.state ≡ state_after (view_cells v.nb) v.budget v.state messages
  pub nb : after.nb ≡ v.nb
  pub budget : after.budget ≡ v.budget
