-- What a kernel keeps of its visitor, and what is known of it.
use Rattle.std.specs.Prelude.{◌≡◌, ℕ, ◌<◌, Bool, not, All, List, [], length, replicate, None}
use Rattle.visit_meaning.specs.Answer.{State, Before, On, Ended}
use Rattle.graph_meaning.specs.Graph.{NoneCyclic, NoneDoubled}
use Rattle.run_meaning.specs.Meaning.{Env, Flow}
use Rattle.run_meaning.specs.Spending.{Spending, runs}
use Rattle.visit_meaning.specs.Runnable.{Runnable}
use Rattle.visit_meaning.specs.Underway.{Going, HasNoElements, outcome_now}
use Rattle.visit_meaning.specs.Whole as whole
use Rattle.py_tree.specs.Elements.{elements}
use Rattle.py_tree.specs.Names.{is_local}
use Rattle.py_tree.specs.Trees.{Cell}
use Rattle.py_tree.specs.View.{view_cells}
use Rattle.py_tree.specs.declared.tree.CellCode.{CellCode}
use Rattle.py_value.specs.Maps.{Map, where_name}
use Rattle.py_value.specs.declared.types.Value.{Value}
use Rattle.kernel.specs.Pending.{left_of, parts_of, IsWithin}
use Rattle.kernel.specs.Visit.{Visit, newest_in}
use Rattle.kernel.specs.declared.pending.Pending.TheVariants as pending
use Rattle.kernel.specs.declared.state.KernelState.{KernelState}
use Rattle.kernel.specs.declared.state.Phase.{Phase}
use Rattle.kernel.specs.declared.state.Phase.TheVariants as phases

-- no name with a leading underscore is bound
abbrev pub IsPlain : Env → Type 0
IsPlain env = where_name (λ x. not (is_local x)) env ≡ env

-- the state of the visitor
abbrev pub state_of : Phase → Map Value → State
state_of phases.Before ui = Before
state_of phases.On ui = On ui
state_of phases.Ended ui = Ended

-- the visit that is kept
abbrev pub visit_of : Bool → KernelState → Visit
visit_of spoiled s = record {
  nb = s.notebook.now;
  budget = s.budget;
  state = state_of s.phase s.present;
  pending = parts_of (view_cells s.notebook.now) s.budget s.present s.pending;
  env = s.env;
  newest = s.newest.items;
  spoiled = spoiled;
}

-- Before the opening nothing is bound, no value is kept, no cell has a frame, and no results are to come.
pub record IsBefore (s : KernelState) : Type 0 where
  pub env : s.env ≡ []
  pub present : s.present ≡ []
  pub newest : (c : ℕ) → newest_in s.newest.items c ≡ None
  pub left : left_of s.pending ≡ []

-- From the opening on the bindings and the newest frames are those of the whole notebook with the present values, but at the cells
-- whose results are still to come. No present value is an element.
pub record IsAfter (s : KernelState) : Type 0 where
  pub values : HasNoElements s.present
  pub going : Going (view_cells s.notebook.now) s.budget s.present (left_of s.pending) s.env (newest_in s.newest.items)

-- When the visit is closed, no results are to come, and no value is kept.
pub record IsOver (s : KernelState) : Type 0 where
  pub present : s.present ≡ []
  pub left : left_of s.pending ≡ []

-- one of these, by how far the visit is
abbrev pub StandsBy : Phase → KernelState → Type 0
StandsBy phases.Before s = IsBefore s
StandsBy phases.On s = IsAfter s
StandsBy phases.Ended s = IsOver s

-- what is known of what a kernel keeps
pub record IsKept (s : KernelState) : Type 0 where
  pub runnable : Runnable (view_cells s.notebook.now)
  pub once : NoneDoubled (view_cells s.notebook.now)
  pub free : NoneCyclic (view_cells s.notebook.now)
  pub count : length s.newest.items ≡ length s.notebook.now
  pub plain : IsPlain s.env
  pub cells : All (λ c. c < length s.notebook.now) (left_of s.pending)
  pub within : IsWithin s.pending
  pub stands : StandsBy s.phase s

-- what is kept at the beginning
pub record IsNew (nb : List CellCode) (budget : ℕ) (s : KernelState) : Type 0 where
  pub notebook : s.notebook.now ≡ nb
  pub budget_is : s.budget ≡ budget
  pub phase : s.phase ≡ phases.Before
  pub present : s.present ≡ []
  pub env : s.env ≡ []
  pub newest : s.newest.items ≡ replicate (length nb) None
  pub pending_is : s.pending ≡ pending.Nothing

-- the run of a cell from the bindings that are kept
abbrev pub run_of : KernelState → Cell → Spending Flow
run_of s code = runs (record { own = elements code; present = s.present }) s.env code.body s.budget

-- what the cell with the number c does next
abbrev pub outcome_at : KernelState → ℕ → Cell → whole.Outcome
outcome_at s c code = outcome_now (view_cells s.notebook.now) s.budget s.present s.env (newest_in s.newest.items) c code
