-- What a kernel and the theory of its visits need of a notebook. It is said of names, numbers and outcomes, whatever forms its code has.
use Rattle.std.specs.Prelude.{◌≡◌, ℕ, ◌+◌, ◌^◌, ◌<◌, Bool, true, false, not, List, length, Option, Some, None, slice_get}
use Rattle.std.specs.List.{list_all}
use Rattle.py_tree.specs.Elements.{elements}
use Rattle.py_tree.specs.Meant.{have_meaning}
use Rattle.py_tree.specs.Names.{Name, is_among, is_local}
use Rattle.py_tree.specs.Scope.{bound, defs}
use Rattle.py_tree.specs.Trees.{Cell}
use Rattle.py_value.specs.ElementData.{ElementData}
use Rattle.py_value.specs.Elements.{at_kept}
use Rattle.py_value.specs.Maps.{Map, look_up}
use Rattle.py_value.specs.declared.types.Value.{Value}
use Rattle.py_value.specs.declared.types.Value.TheVariants as V
use Rattle.run_meaning.specs.declared.binding.Binding.{Binding}
use Rattle.run_meaning.specs.declared.binding.Binding.TheVariants.{Plain}
use Rattle.visit_meaning.specs.Answer.{element_in}
use Rattle.graph_meaning.specs.Graph.{defs_of, elements_of, refs_of}
use Rattle.run_meaning.specs.Meaning.{Env}
use Rattle.visit_meaning.specs.Underway.{HasNoElements, Leads}
use Rattle.visit_meaning.specs.Whole.{Outcome, outcome_of, is_ok, whole}

-- no name is bound but those that cells define
abbrev pub BindsDefined : List Cell → Env → Type 0
BindsDefined nb env = (x : Name) → ((a : ℕ) → is_among x (defs_of nb a) ≡ false) → look_up x env ≡ None

-- What a cell may read, itself or through functions: what it references, or a cell that leads to it, and what such a cell defines but the
-- elements that this one creates.
pub data MayRead (nb : List Cell) (c : ℕ) (x : Name) : Type 0 where
  itself : is_among x (refs_of nb c) ≡ true → MayRead nb c x
  above : (a : ℕ) → Leads nb a c → is_among x (refs_of nb a) ≡ true → MayRead nb c x
  beside : (a : ℕ) → Leads nb a c → is_among x (defs_of nb a) ≡ true → is_among x (elements_of nb a) ≡ false → MayRead nb c x

-- two outcomes have the same result and the same cost, and the same at these names
pub record SameOutcome (names : List Name) (o p : Outcome) : Type 0 where
  pub frame : o.frame ≡ p.frame
  pub cost : o.cost ≡ p.cost
  pub defined : (x : Name) → is_among x names ≡ true → look_up x o.env ≡ look_up x p.env

-- what a name is bound to in two runs: the same, or one element, in each at the present value that is kept for the name
pub data SameBinding (ui ui' : Map Value) (x : Name) : Option Binding → Option Binding → Type 0 where
  same_bound : {o : Option Binding} → SameBinding ui ui' x o o
  one_element : (e : ElementData)
      → SameBinding ui ui' x (Some (Plain (V.Element (at_kept (look_up x ui) e)))) (Some (Plain (V.Element (at_kept (look_up x ui') e))))

-- two outcomes have the same result and the same cost, and at these names the same but for the present values of elements
pub record LikeOutcome (ui ui' : Map Value) (names : List Name) (o p : Outcome) : Type 0 where
  pub frame : o.frame ≡ p.frame
  pub cost : o.cost ≡ p.cost
  pub defined : (x : Name) → is_among x names ≡ true → SameBinding ui ui' x (look_up x o.env) (look_up x p.env)

-- the name is bound to an element of this name, at the present value that is kept for it
abbrev pub IsMade : Map Value → Name → Env → Type 0
IsMade ui x env = (e : ElementData) × (element_in env x ≡ Some e) × (at_kept (look_up x ui) e ≡ e)

-- A notebook that a kernel can run.
pub record Runnable (nb : List Cell) : Type 0 where
  -- The cells, and one frame more, are counted in 32 bits.
  pub few : length nb + 1 < 2 ^ 32
  -- Each block has a meaning: its forms have one, and operands bind as tightly as their places ask for.
  pub meant : (c : ℕ) (code : Cell) → slice_get nb c ≡ Some code → have_meaning code.body ≡ true
  -- No cell binds a name with a leading underscore.
  pub plain : (c : ℕ) (code : Cell) → slice_get nb c ≡ Some code → list_all (λ x. not (is_local x)) (bound code.body) ≡ true
  -- What a cell does depends on the bindings only at the names that it may read.
  pub by_reads : (budget : ℕ) (ui : Map Value) (may_run : Bool) (c : ℕ) (code : Cell) (env env' : Env) → slice_get nb c ≡ Some code
      → BindsDefined nb env → BindsDefined nb env' → ((x : Name) → MayRead nb c x → look_up x env ≡ look_up x env')
      → SameOutcome (defs code) (outcome_of budget ui may_run c env code) (outcome_of budget ui may_run c env' code)
  -- It depends on the present values only at the elements that it creates: these are at them, and all else is the same.
  pub but_present : (budget : ℕ) (ui ui' : Map Value) (may_run : Bool) (c : ℕ) (code : Cell) (env : Env) → slice_get nb c ≡ Some code
      → BindsDefined nb env
      → LikeOutcome ui ui' (defs code) (outcome_of budget ui may_run c env code) (outcome_of budget ui' may_run c env code)
  -- A cell defines the names of the elements that it creates.
  pub created : (c : ℕ) (x : Name) → is_among x (elements_of nb c) ≡ true → is_among x (defs_of nb c) ≡ true
  -- Where it has ended ok, each of these names is bound to an element of this name, at the present value that is kept for it.
  pub made : (budget : ℕ) (ui : Map Value) (may_run : Bool) (c : ℕ) (code : Cell) (env : Env) (x : Name) → slice_get nb c ≡ Some code
      → BindsDefined nb env → is_among x (elements code) ≡ true → is_ok (outcome_of budget ui may_run c env code).frame.status ≡ true
      → IsMade ui x (outcome_of budget ui may_run c env code).env
  -- In the whole no name is bound to an element of this name but those that cells create, where no element is kept as a value.
  pub only_made : (budget : ℕ) (ui : Map Value) (x : Name) (e : ElementData) → HasNoElements ui → element_in (whole nb budget ui).env x ≡ Some e
      → (c : ℕ) × (is_among x (elements_of nb c) ≡ true)
