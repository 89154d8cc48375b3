-- the charge of the operands so far
use Rattle.std.proofs.Common.{◌≡◌, take}
use Rattle.py_value.specs.Size.{charge_of}
use Rattle.py_value.proofs.charges.operand_charge.Given as goal

abbrev pub invariant-loop-operand : goal.invariant-loop-operand
invariant-loop-operand l = l.charge ≡ charge_of (take l.operand-index l.operands)
