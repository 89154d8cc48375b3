-- The runs of a trace as a relation: to its end, or cut directly after one of its charges.
use Rattle.std.specs.Prelude.{◌≡◌, ℕ, ◌+◌, ◌<◌, List, [], ◌∷◌, ◌++◌}
use Rattle.py_value.specs.declared.error_kind.ErrorKind.{ErrorKind}
use Rattle.run_meaning.specs.Trace.{Trace, Gives, Faults, Charges, Prints}
use Rattle.run_meaning.specs.Spending.{Spending, Got, Failed, Spent, spend}

-- what a run leaves behind on its way
pub data Mark : Type 0 where
  Charge : (amount line : ℕ) → Mark
  Printed : (text : List ℕ) → Mark

-- how it ends
pub data End (A : Type 0) : Type 0 where
  Done : A → End A
  Fault : (kind : ErrorKind) → (line : ℕ) → End A
  Cut : End A

-- these marks and this end are a run of the trace
pub data IsRun {A : Type 0} : Trace A → List Mark → End A → Type 0 where
  done : {a : A} → IsRun (Gives a) [] (Done a)
  fault : {k : ErrorKind} {n : ℕ} → IsRun (Faults k n) [] (Fault k n)
  cut : {n line : ℕ} {t : Trace A} → IsRun (Charges n line t) (Charge n line ∷ []) Cut
  charge : {n line : ℕ} {t : Trace A} {ms : List Mark} {e : End A} → IsRun t ms e → IsRun (Charges n line t) (Charge n line ∷ ms) e
  print : {x : List ℕ} {t : Trace A} {ms : List Mark} {e : End A} → IsRun t ms e → IsRun (Prints x t) (Printed x ∷ ms) e

-- one list is a prefix of another
abbrev pub IsPrefix : List Mark → List Mark → Type 0
IsPrefix ms ms' = (rest : List Mark) × (ms' ≡ ms ++ rest)

-- two runs are the same, or one is cut and its marks are a prefix of the other's
pub data Alike {A : Type 0} (ms ms' : List Mark) (e e' : End A) : Type 0 where
  same : ms ≡ ms' → e ≡ e' → Alike ms ms' e e'
  first_cut : e ≡ Cut → IsPrefix ms ms' → Alike ms ms' e e'
  second_cut : e' ≡ Cut → IsPrefix ms' ms → Alike ms ms' e e'

-- what the charges add up to
abbrev pub cost : List Mark → ℕ
cost [] = 0
cost (Charge n line ∷ ms) = n + cost ms
cost (Printed x ∷ ms) = cost ms

-- the printed lines
abbrev pub printed_lines : List Mark → List (List ℕ)
printed_lines [] = []
printed_lines (Charge n line ∷ ms) = printed_lines ms
printed_lines (Printed x ∷ ms) = x ∷ printed_lines ms

-- What a budget makes of the runs: the one that ends, where all its charges together are within the budget; else the one that is cut at the
-- charge by which they get beyond it.
abbrev pub Picks : {A : Type 0} → (List Mark → End A → Type 0) → ℕ → Spending A → Type 0
Picks runs budget (Got a left console) = (ms : List Mark) × runs ms (Done a) × (cost ms + left ≡ budget) × (console ≡ printed_lines ms)
Picks runs budget (Failed k line left console) =
    (ms : List Mark) × runs ms (Fault k line) × (cost ms + left ≡ budget) × (console ≡ printed_lines ms)
Picks runs budget (Spent line left console) =
    (ms : List Mark) × (n : ℕ) × runs (ms ++ Charge n line ∷ []) Cut × (cost ms + left ≡ budget) × (left < n) × (console ≡ printed_lines ms)

-- One run and its cut beginnings: any two runs are alike, there is a run that isn't cut, and each budget picks what `spend` says and
-- nothing else.
pub record HasOneRun {A : Type 0} (t : Trace A) : Type 0 where
  pub alike : (ms ms' : List Mark) (e e' : End A) → IsRun t ms e → IsRun t ms' e' → Alike ms ms' e e'
  pub whole : (ms : List Mark) × (e : End A) × IsRun t ms e × (e ≡ Cut → ⊥)
  pub picked : (budget : ℕ) → Picks (IsRun t) budget (spend t budget [])
  pub only : (budget : ℕ) (s : Spending A) → Picks (IsRun t) budget s → s ≡ spend t budget []
