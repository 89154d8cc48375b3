-- Numbers and truth values, for which no element needs memory.
use Rattle.py_value.specs.declared.types.Value.{Value}
use Rattle.py_value.specs.declared.types.Value.TheVariants as V

abbrev pub IsNumberOrTruth : Value → Type 0
IsNumberOrTruth (V.Bool b) = Unit {0}
IsNumberOrTruth (V.Int n) = Unit {0}
IsNumberOrTruth v = ⊥
