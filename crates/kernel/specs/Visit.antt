-- Visits as contracts see them, and what a delivery and a step do.
use Rattle.std.specs.Prelude.{◌≡◌, ◌⊎◌, ℕ, ◌+◌, ◌<◌, ◌≤◌, Bool, true, false, List, [], ◌∷◌, find, length, replicate, set, slice_index_or, Option, Some, None, ◌==◌}
use Rattle.messages.specs.declared.message.Message.{Message}
use Rattle.messages.specs.declared.message.Message.TheVariants.{Close}
use Rattle.message_meaning.specs.Messages.{IsReceived}
use Rattle.visit_meaning.specs.Answer.{State, Before, On, Ended, Part, answer, refused}
use Rattle.run_meaning.specs.Meaning.{Env}
use Rattle.visit_meaning.specs.Whole.{whole}
use Rattle.frames.specs.declared.frame.CellFrame.{CellFrame}
use Rattle.frames.specs.declared.frame.Frame.{Frame}
use Rattle.frames.specs.declared.frame.Frame.TheVariants as frame
use Rattle.py_tree.specs.View.{view_cells}
use Rattle.py_tree.specs.declared.tree.CellCode.{CellCode}
use Rattle.py_value.specs.Maps.{Map}
use Rattle.py_value.specs.declared.types.Value.{Value}
use Rattle.kernel.specs.declared.answers.Delivered.{Delivered}
use Rattle.kernel.specs.declared.answers.Delivered.TheVariants as delivered
use Rattle.kernel.specs.declared.answers.Stepped.{Stepped}
use Rattle.kernel.specs.declared.answers.Stepped.TheVariants as stepped

-- One visitor of a notebook, each of whose cells has the budget: the state of the visitor, the parts of the answer that are still to
-- come, what names are bound to, the newest frame of each cell, and whether memory was wanting.
pub record Visit : Type 0 where
  pub nb : List CellCode
  pub budget : ℕ
  pub state : State
  pub pending : List Part
  pub env : Env
  pub newest : List (Option CellFrame)
  pub spoiled : Bool

-- the newest frame of a cell
abbrev pub newest_in : List (Option CellFrame) → ℕ → Option CellFrame
newest_in newest c = slice_index_or newest c None

-- a visit at its beginning
abbrev pub begun : List CellCode → ℕ → Visit
begun nb budget = record { nb = nb; budget = budget; state = Before; pending = []; env = []; newest = replicate (length nb) None; spoiled = false }

-- the present values of a state
abbrev pub present_in : State → Map Value
present_in (On ui) = ui
present_in state = []

-- The bindings and the newest frames are those of the whole notebook when it runs from nothing with these present values.
pub record IsWhole (v : Visit) (ui : Map Value) : Type 0 where
  pub env : v.env ≡ (whole (view_cells v.nb) v.budget ui).env
  pub newest : (c : ℕ) → c < length v.nb → newest_in v.newest c ≡ find (λ (f : CellFrame). f.cell == c) (whole (view_cells v.nb) v.budget ui).frames

-- What stands where memory wasn't wanting and no frame is to come: no cell has a frame before the opening, and from then on, while the visit
-- isn't closed, all are as when the whole notebook runs from nothing. A closed visit is as it was when it was closed (`closed`).
pub record Stands (v : Visit) : Type 0 where
  pub before : v.state ≡ Before → (c : ℕ) → newest_in v.newest c ≡ None
  pub on : (ui : Map Value) → v.state ≡ On ui → v.pending ≡ [] → IsWhole v ui

-- A message is taken: the state and what is to come are those of its answer. No newest frame changes, and where the message is refused
-- no binding does; of the bindings after another message nothing is said here.
pub record Takes (m : Option Message) (before after : Visit) : Type 0 where
  pub state : after.state ≡ (answer (view_cells before.nb) before.budget before.state m).state
  pub pending : after.pending ≡ (answer (view_cells before.nb) before.budget before.state m).parts
  pub newest : after.newest ≡ before.newest
  pub kept : (why : Frame) → answer (view_cells before.nb) before.budget before.state m ≡ refused before.state why → after.env ≡ before.env
  pub nb : after.nb ≡ before.nb
  pub budget : after.budget ≡ before.budget
  pub spoiled : after.spoiled ≡ false

-- no answer is given: the message is a close message, or an earlier one was
abbrev pub IsClosed : State → Option Message → Type 0
IsClosed state m = (state ≡ Ended) ⊎ (m ≡ Some Close)

-- a visit that a close message ended
abbrev pub closed : Visit → Visit
closed v = record v { state = Ended }

-- What a delivery does. While frames are to come it tells their number and changes nothing; else the message is taken, or it closes the visit.
abbrev pub IsDelivery : List ℕ → Visit → Visit → Delivered → Type 0
IsDelivery bytes before after (delivered.Busy pending) = (0 < length before.pending) × (pending ≡ length before.pending) × (after ≡ before)
IsDelivery bytes before after delivered.Taken =
    (before.pending ≡ []) × ((m : Option Message) × IsReceived bytes m × (IsClosed before.state m → ⊥) × Takes m before after)
IsDelivery bytes before after delivered.Closed =
    (before.pending ≡ []) × ((m : Option Message) × IsReceived bytes m × IsClosed before.state m × (after ≡ closed before))

-- the newest frames after one that is given
abbrev pub with_frame : Frame → List (Option CellFrame) → List (Option CellFrame)
with_frame (frame.Cell f) newest = set newest f.cell (Some f)
with_frame f newest = newest

abbrev pub is_result : Frame → Bool
is_result (frame.Cell f) = true
is_result f = false

-- A frame is given: it is the first of those that were to come, and the steps that it costs are counted. It is the newest one of its
-- cell; other newest frames stay, and so do the state and, unless a cell ran, the bindings.
pub record Gives (f : Frame) (before after : Visit) (count count_after : ℕ) : Type 0 where
  pub cost : ℕ
  pub pending : before.pending ≡ record { frame = f; cost = cost } ∷ after.pending
  pub steps : count_after ≡ count + cost
  pub newest : after.newest ≡ with_frame f before.newest
  pub state : after.state ≡ before.state
  pub env : is_result f ≡ false → after.env ≡ before.env
  pub nb : after.nb ≡ before.nb
  pub budget : after.budget ≡ before.budget
  pub spoiled : after.spoiled ≡ false

-- what the first of these parts costs, if there is one
abbrev pub first_cost : List Part → ℕ
first_cost [] = 0
first_cost (p ∷ ps) = p.cost

-- A count of steps rose by no more than what the first of these parts costs.
abbrev pub AtMostFirst : List Part → ℕ → ℕ → Type 0
AtMostFirst parts count count_after = (count ≤ count_after) × (count_after ≤ count + first_cost parts)

-- What a step does: it gives the next frame, and changes nothing where none is to come.
abbrev pub IsStep : Visit → Visit → ℕ → ℕ → Stepped → Type 0
IsStep before after count count_after stepped.Idle = (before.pending ≡ []) × (after ≡ before) × (count_after ≡ count)
IsStep before after count count_after (stepped.Frame f) = Gives f before after count count_after
