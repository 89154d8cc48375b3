-- Why there are no parameters: want of memory, or arguments that don't fit.
use Rattle.std.specs.Prelude.{◌≡◌, ◌⊎◌, Option, None}
use Rattle.py_value.specs.declared.op_fault.OpFault.{OpFault}
use Rattle.py_value.specs.declared.op_fault.OpFault.TheVariants as fault

-- the fault is want of memory, or a wrong type where there is nothing
abbrev pub IsMemoryOrNone : {A : Type 0} → OpFault → Option A → Type 0
IsMemoryOrNone f o = (f ≡ fault.Memory) ⊎ ((f ≡ fault.WrongType) × (o ≡ None))
