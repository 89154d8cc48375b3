-- What the evaluator answers, against a run under a budget. Nothing that it runs prints, so no lines are printed.
use Rattle.std.specs.Prelude.{◌≡◌, ℕ, [], Result, Ok, Err}
use Rattle.run_meaning.specs.Spending.{Spending, Got, Failed, Spent}
use Rattle.py_value.specs.Faults.{kind_of}
use Rattle.py_value.specs.declared.op_fault.OpFault.{OpFault}
use Rattle.py_value.specs.declared.op_fault.OpFault.TheVariants as fault
use Rattle.py_eval.specs.declared.meter.Halt.{Halt}
use Rattle.py_eval.specs.declared.meter.Halt.TheVariants as halt

-- why a run stops at a fault of an operation
abbrev pub halt_of : OpFault → ℕ → Halt
halt_of fault.Memory line = halt.Memory
halt_of f line = halt.Fault (kind_of f) line

-- a run that stopped with so much left, unless memory ran out
abbrev pub Halts : {A : Type 0} → Halt → ℕ → Spending A → Type 0
Halts halt.Memory left s = Unit {0}
Halts (halt.Fault kind line) left s = s ≡ Failed kind line left []
Halts (halt.Spent line) left s = s ≡ Spent line left []

-- what a function returned, seen by view, and what it left are that run, unless memory ran out
abbrev pub Meets : {X A : Type 0} → (X → A) → Result X Halt → ℕ → Spending A → Type 0
Meets view (Ok x) left s = s ≡ Got (view x) left []
Meets view (Err e) left s = Halts e left s

abbrev pub unit : {X : Type 0} → X → Unit {0}
unit x = tt
