-- Cells that run one after the other towards a whole: where they stand.
use Rattle.std.specs.Prelude.{◌≡◌, ℕ, ◌<◌, Bool, true, false, ◌==◌, List, [], ◌∷◌, ◌++◌, length, find, Option, Some, None}
use Rattle.std.specs.List.{list_any, list_all}
use Rattle.py_tree.specs.Names.{Name, is_among, is_local}
use Rattle.py_tree.specs.Trees.{Cell}
use Rattle.py_value.specs.Maps.{Map, look_up, IsSortedMap}
use Rattle.py_value.specs.declared.types.Value.{Value}
use Rattle.py_value.specs.declared.types.Value.TheVariants as V
use Rattle.frames.specs.declared.frame.CellFrame.{CellFrame}
use Rattle.graph_meaning.specs.Graph.{defs_of, is_in, parents, IsPath}
use Rattle.run_meaning.specs.Meaning.{Env}
use Rattle.visit_meaning.specs.Whole.{Outcome, outcome_of, is_ok, whole}

-- ---- the values that are kept

-- the value is an element
abbrev pub is_element : Value → Bool
is_element (V.Element e) = true
is_element v = false

-- no element is kept as a value
abbrev pub HasNoElements : Map Value → Type 0
HasNoElements ui = (x : Name) (v : Value) → look_up x ui ≡ Some v → is_element v ≡ false

-- ---- the cells that are left

-- a path of edges leads from one cell to another
abbrev pub Leads : List Cell → ℕ → ℕ → Type 0
Leads nb a c = (between : List ℕ) × IsPath nb (a ∷ between ++ c ∷ [])

-- no cell that leads to a cell is the cell itself or a later one, and each cell stands once
abbrev pub AncestorsFirst : List Cell → List ℕ → Type 0
AncestorsFirst nb [] = Unit {0}
AncestorsFirst nb (c ∷ cs) = ((a : ℕ) → Leads nb a c → is_in a (c ∷ cs) ≡ false) × (is_in c cs ≡ false) × AncestorsFirst nb cs

-- one of the cells defines the name
abbrev pub defined_in : List Cell → List ℕ → Name → Bool
defined_in nb cs x = list_any (λ a. is_among x (defs_of nb a)) cs

-- ---- the bindings

-- no name with a leading underscore is bound
abbrev pub HasNoLocals : Env → Type 0
HasNoLocals env = (x : Name) → is_local x ≡ true → look_up x env ≡ None

-- Bindings that are those of the goal, but at names that the cells define which are left to run. None with a leading underscore is
-- bound, and they are in order.
pub record IsBut (nb : List Cell) (left : List ℕ) (env goal : Env) : Type 0 where
  pub same : (x : Name) → defined_in nb left x ≡ false → look_up x env ≡ look_up x goal
  pub plain : HasNoLocals env
  pub sorted : IsSortedMap env

-- ---- the newest frames

-- the frame of a cell
abbrev pub frame_at : List CellFrame → ℕ → Option CellFrame
frame_at frames c = find (λ (f : CellFrame). f.cell == c) frames

-- the newest frame of a cell says that it has ended ok
abbrev pub ended : Option CellFrame → Bool
ended None = false
ended (Some f) = is_ok f.status

-- what a cell does from these bindings, where the newest frame of each cell says whether it has ended ok
abbrev pub outcome_now : List Cell → ℕ → Map Value → Env → (ℕ → Option CellFrame) → ℕ → Cell → Outcome
outcome_now nb budget ui env newest c code = outcome_of budget ui (list_all (λ a. ended (newest a)) (parents nb c)) c env code

-- Where cells stand that run one after the other, with these left: the bindings are those of the whole, but at names that the cells
-- define which are left, and each other cell has as its newest frame the one that it has in the whole.
pub record Going (nb : List Cell) (budget : ℕ) (ui : Map Value) (left : List ℕ) (env : Env) (newest : ℕ → Option CellFrame) : Type 0 where
  pub first : AncestorsFirst nb left
  pub but : IsBut nb left env (whole nb budget ui).env
  pub newest_is : (a : ℕ) → a < length nb → is_in a left ≡ false → newest a ≡ frame_at (whole nb budget ui).frames a
