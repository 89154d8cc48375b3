-- Whole numbers of signed 128 bits, and sums.
use Rattle.std.specs.Prelude.{◌^◌, ℤ, pos, negsuc, ◌+ℤ◌, Bool, true, false, nat_lt, Option, Some, None, Result, Ok, Err, if◌then◌else◌}
use Rattle.py_value.specs.declared.types.Value.{Value}
use Rattle.py_value.specs.declared.types.Value.TheVariants as V
use Rattle.py_value.specs.declared.op_fault.OpFault.{OpFault}
use Rattle.py_value.specs.declared.op_fault.OpFault.TheVariants.{WrongType, IntRange, Subset}

-- the number is from -2^127 to 2^127 - 1
abbrev pub in_range : ℤ → Bool
in_range (pos n) = nat_lt n (2 ^ 127)
in_range (negsuc n) = nat_lt n (2 ^ 127)

-- a number in the range, and a fault outside
abbrev pub int_or_fault : ℤ → Result Value OpFault
int_or_fault z = if in_range z then Ok (V.Int z) else Err IntRange

-- the number that a truth value counts as (Python library reference, "Boolean Type")
abbrev pub bit : Bool → ℤ
bit true = pos 1
bit false = pos 0

-- the number that an operand of arithmetic counts as; none where it isn't a number or a truth value
abbrev pub number_of : Value → Option ℤ
number_of (V.Bool b) = Some (bit b)
number_of (V.Int n) = Some n
number_of v = None

-- why `+` refuses two operands that aren't both numbers. Python joins two texts, two lists and two tuples; the language that is run here doesn't yet
abbrev pub joining_fault : Value → Value → OpFault
joining_fault (V.Text s) (V.Text t) = Subset
joining_fault (V.List xs) (V.List ys) = Subset
joining_fault (V.Tuple xs) (V.Tuple ys) = Subset
joining_fault v w = WrongType

-- the sum of two numbers, and a fault where one of them is none
abbrev pub sum_by : Option ℤ → Option ℤ → OpFault → Result Value OpFault
sum_by (Some x) (Some y) fault = int_or_fault (x +ℤ y)
sum_by m n fault = Err fault

-- `+` (Python language reference, section 6.7)
abbrev pub sum_of : Value → Value → Result Value OpFault
sum_of v w = sum_by (number_of v) (number_of w) (joining_fault v w)
