-- Runs under a budget of steps.
use Rattle.std.specs.Prelude.{ℕ, ◌-◌, nat_le, if◌then◌else◌, List, [], ◌∷◌, ◌++◌}
use Rattle.py_tree.specs.Trees.{Stmts}
use Rattle.py_value.specs.declared.error_kind.ErrorKind.{ErrorKind}
use Rattle.run_meaning.specs.Trace.{Trace, Gives, Faults, Charges, Prints}
use Rattle.run_meaning.specs.Meaning.{Scene, Env, Flow, block_of}

-- How a run goes under a budget: it gives something, ends with an error, or meets a charge that is more than what is left.
-- Each has what is left of the budget, and all lines printed so far.
pub data Spending (A : Type 0) : Type 0 where
  Got : A → (left : ℕ) → (console : List (List ℕ)) → Spending A
  Failed : (kind : ErrorKind) → (line left : ℕ) → (console : List (List ℕ)) → Spending A
  Spent : (line left : ℕ) → (console : List (List ℕ)) → Spending A

-- goes on where the first part gives something
abbrev pub then_spend : {A B : Type 0} → Spending A → (A → ℕ → List (List ℕ) → Spending B) → Spending B
then_spend (Got a left console) go = go a left console
then_spend (Failed k line left console) go = Failed k line left console
then_spend (Spent line left console) go = Spent line left console

-- a charge, where it fits in what is left
unfoldable pub pay : (amount line left : ℕ) → (console : List (List ℕ)) → Spending (Unit {0})
pay amount line left console = if nat_le amount left then Got tt (left - amount) console else Spent line left console

-- a printed line
unfoldable pub show : List ℕ → (left : ℕ) → (console : List (List ℕ)) → Spending (Unit {0})
show text left console = Got tt left (console ++ text ∷ [])

-- a trace, with so many steps left and these lines printed before
abbrev pub spend : {A : Type 0} → Trace A → (left : ℕ) → (console : List (List ℕ)) → Spending A
spend (Gives a) left console = Got a left console
spend (Faults k l) left console = Failed k l left console
spend (Charges n l t) left console = then_spend (pay n l left console) (λ _. spend t)
spend (Prints x t) left console = then_spend (show x left console) (λ _. spend t)

-- the run of a block for which so many steps are left
abbrev pub runs : Scene → Env → Stmts → ℕ → Spending Flow
runs scene env block left = spend (block_of scene env block) left []

-- what a run with this budget costs: what it used, and the whole budget where that is spent
abbrev pub cost_of : {A : Type 0} → ℕ → Spending A → ℕ
cost_of budget (Got a left console) = budget - left
cost_of budget (Failed k line left console) = budget - left
cost_of budget (Spent line left console) = budget

-- the lines that it printed
abbrev pub console_of : {A : Type 0} → Spending A → List (List ℕ)
console_of (Got a left console) = console
console_of (Failed k line left console) = console
console_of (Spent line left console) = console
