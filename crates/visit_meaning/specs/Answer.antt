-- What one visitor alone is sent.
use Rattle.std.specs.Prelude.{ℕ, Bool, false, not, cond, is_none, List, [], ◌∷◌, ◌++◌, length, map, filter, find, flat_map, sum_by, Option, Some, None, option_and_then}
use Rattle.std.specs.Str.{bytes_eq}
use Rattle.messages.specs.declared.message.Message.{Message}
use Rattle.messages.specs.declared.message.Message.TheVariants.{Open, Set, Close}
use Rattle.messages.specs.declared.message.SetItem.{SetItem}
use Rattle.py_tree.specs.Names.{Name, is_among}
use Rattle.py_tree.specs.Trees.{Cell}
use Rattle.py_value.specs.ElementData.{ElementData}
use Rattle.py_value.specs.Elements.{admitted}
use Rattle.py_value.specs.Maps.{Map, look_up, put, where_name}
use Rattle.py_value.specs.View.{data_of, value_of}
use Rattle.py_value.specs.declared.types.Data.{Data}
use Rattle.py_value.specs.declared.types.Value.{Value}
use Rattle.py_value.specs.declared.types.Value.TheVariants as V
use Rattle.run_meaning.specs.declared.binding.Binding.{Binding}
use Rattle.run_meaning.specs.declared.binding.Binding.TheVariants.{Plain}
use Rattle.frames.specs.declared.frame.CellFrame.{CellFrame}
use Rattle.frames.specs.declared.frame.Frame.{Frame}
use Rattle.frames.specs.declared.frame.Frame.TheVariants as frame
use Rattle.graph_meaning.specs.Graph.{elements_of, is_in}
use Rattle.run_meaning.specs.Meaning.{Env}
use Rattle.graph_meaning.specs.Reruns.{rerun}
use Rattle.visit_meaning.specs.Whole.{whole}

-- a visitor's state: before the opening, on with the present values that were set, or ended by a close message
pub data State : Type 0 where
  Before : State
  On : (ui : Map Value) → State
  Ended : State

-- a part of an answer: a frame, and the steps of the cell that runs for it
pub record Part : Type 0 where
  pub frame : Frame
  pub cost : ℕ

-- the state after a message, and the parts of its answer
pub record Answered : Type 0 where
  pub state : State
  pub parts : List Part

-- a frame for which no cell runs
abbrev pub at_no_cost : Frame → Part
at_no_cost f = record { frame = f; cost = 0 }

-- the results of cells, each with what it costs
abbrev pub priced : List CellFrame → List ℕ → List Part
priced [] costs = []
priced (f ∷ frames) [] = []
priced (f ∷ frames) (n ∷ costs) = record { frame = frame.Cell f; cost = n } ∷ priced frames costs

-- the results of all cells when the whole notebook runs from nothing
abbrev pub results : List Cell → ℕ → Map Value → List Part
results nb budget ui = let after = whole nb budget ui in priced after.frames after.costs

-- the frame is the result of one of these cells
abbrev pub is_result_of : List ℕ → Frame → Bool
is_result_of cells (frame.Cell f) = is_in f.cell cells
is_result_of cells f = false

-- the results of these cells, in order
abbrev pub results_of : List Cell → ℕ → Map Value → List ℕ → List Part
results_of nb budget ui cells = filter (λ (p : Part). is_result_of cells p.frame) (results nb budget ui)

-- results of cells, and their number
abbrev pub counted : List Part → List Part
counted parts = parts ++ at_no_cost (frame.Done (length parts)) ∷ []

-- a refused message is answered with why, and changes nothing
abbrev pub refused : State → Frame → Answered
refused state why = record { state = state; parts = at_no_cost why ∷ at_no_cost (frame.Done 0) ∷ [] }

-- the element to which its name is bound
abbrev pub named_so : Name → Option Binding → Option ElementData
named_so x (Some (Plain (V.Element e))) = cond (bytes_eq e.name x) (Some e) None
named_so x b = None

-- the element in being of this name
abbrev pub element_in : Env → Name → Option ElementData
element_in env x = named_so x (look_up x env)

-- what a value that is sent sets its element to; none where no such element is in being, and where it doesn't admit the value
abbrev pub value_set : Env → Name × Value → Option Data
value_set env s = option_and_then (λ e. admitted e (data_of s.1)) (element_in env s.0)

-- what an item sets its element to; none where no such element is in being, where it doesn't admit what is sent, and where no element does
abbrev pub value_sent : Env → SetItem → Option Data
value_sent env i = option_and_then (λ v. value_set env (i.name, v)) i.value

-- the values that are sent, by their names, but for those that no element admits
abbrev pub with_sent : Name → Option Value → Map Value → Map Value
with_sent x None sets = sets
with_sent x (Some v) sets = (x, v) ∷ sets

abbrev pub values_sent : List SetItem → Map Value
values_sent [] = []
values_sent (i ∷ items) = with_sent i.name i.value (values_sent items)

-- present values with those laid over them that are set
abbrev pub with_value : Name → Option Data → Map Value → Map Value
with_value x None ui = ui
with_value x (Some d) ui = put x (value_of d) ui

abbrev pub with_sets : Env → Map Value → Map Value → Map Value
with_sets env [] ui = ui
with_sets env (s ∷ sets) ui = with_sets env sets (with_value s.0 (value_set env s) ui)

abbrev pub names_of : Map Value → List Name
names_of sets = map (λ (s : Name × Value). s.0) sets

-- The present values after values were set: those of elements that rerun cells create are dropped.
abbrev pub present_after : List Cell → Env → Map Value → Map Value → Map Value
present_after nb env ui sets =
    where_name (λ x. not (is_among x (flat_map (elements_of nb) (rerun nb (names_of sets))))) (with_sets env sets ui)

-- the answer to values that elements admit: the cells that run again, with the new present values
abbrev pub answer_with : List Cell → ℕ → Map Value → List ℕ → Answered
answer_with nb budget ui cells = record { state = On ui; parts = counted (results_of nb budget ui cells) }

-- The first item of a name that is no element's, and the first whose element doesn't admit what is sent. The items of a message stand in the order
-- of the bytes of their names.
abbrev pub first_unknown : Env → List SetItem → Option SetItem
first_unknown env items = find (λ (i : SetItem). is_none (element_in env i.name)) items

abbrev pub first_unfit : Env → List SetItem → Option SetItem
first_unfit env items = find (λ (i : SetItem). is_none (value_sent env i)) items

-- the answer by the first name that is no element's, if there is one, and else by the first whose element doesn't admit what is sent
abbrev pub answer_by : List Cell → ℕ → Env → Map Value → Map Value → (unknown unfit : Option SetItem) → Answered
answer_by nb budget env ui sets (Some i) unfit = refused (On ui) (frame.NoElement i.name)
answer_by nb budget env ui sets None (Some i) = refused (On ui) (frame.NoValue i.name)
answer_by nb budget env ui sets None None = answer_with nb budget (present_after nb env ui sets) (rerun nb (names_of sets))

abbrev pub answer_set : List Cell → ℕ → Env → Map Value → List SetItem → Answered
answer_set nb budget env ui items = answer_by nb budget env ui (values_sent items) (first_unknown env items) (first_unfit env items)

-- a visitor who has ended is answered nothing
abbrev pub nothing_more : Answered
nothing_more = record { state = Ended; parts = [] }

-- The answer to a message, and the state after it; none is what is no message. A close message has no answer, and neither has any after it.
abbrev pub answer : List Cell → ℕ → State → Option Message → Answered
answer nb budget Ended m = nothing_more
answer nb budget Before None = refused Before frame.BadMessage
answer nb budget Before (Some Open) = record { state = On []; parts = counted (results nb budget []) }
answer nb budget Before (Some (Set items)) = refused Before frame.BadOrder
answer nb budget Before (Some Close) = nothing_more
answer nb budget (On ui) None = refused (On ui) frame.BadMessage
answer nb budget (On ui) (Some Open) = refused (On ui) frame.BadOrder
answer nb budget (On ui) (Some (Set items)) = answer_set nb budget (whole nb budget ui).env ui items
answer nb budget (On ui) (Some Close) = nothing_more

-- the parts of the answers one after the other, from a state
abbrev pub parts_from : List Cell → ℕ → State → List (Option Message) → List Part
parts_from nb budget state [] = []
parts_from nb budget state (m ∷ ms) = let a = answer nb budget state m in a.parts ++ parts_from nb budget a.state ms

-- the state after messages
abbrev pub state_after : List Cell → ℕ → State → List (Option Message) → State
state_after nb budget state [] = state
state_after nb budget state (m ∷ ms) = state_after nb budget (answer nb budget state m).state ms

abbrev pub frames_in : List Part → List Frame
frames_in parts = map (λ (p : Part). p.frame) parts

-- what parts of answers cost together
abbrev pub cost_of_parts : List Part → ℕ
cost_of_parts parts = sum_by (λ (p : Part). p.cost) parts

-- the frames of the answers one after the other, from a state, and the steps of all cells that run for them
abbrev pub solo_from : List Cell → ℕ → State → List (Option Message) → List Frame
solo_from nb budget state ms = frames_in (parts_from nb budget state ms)

abbrev pub work_from : List Cell → ℕ → State → List (Option Message) → ℕ
work_from nb budget state ms = cost_of_parts (parts_from nb budget state ms)

-- the frames of a visitor alone, and the steps of all cells that run for them
abbrev pub solo : List Cell → ℕ → List (Option Message) → List Frame
solo nb budget = solo_from nb budget Before

abbrev pub work : List Cell → ℕ → List (Option Message) → ℕ
work nb budget = work_from nb budget Before
