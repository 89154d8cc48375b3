-- How large a value is: 1, and for a text 1 more for every 16 whole bytes, and for a list, a tuple and a dictionary the sizes of its parts.
use Rattle.std.specs.Prelude.{ℕ, ◌+◌, ◌-◌, ◌/◌, ◌^◌, List, [], ◌∷◌, length, map, min}
use Rattle.py_value.specs.View.{data_of}
use Rattle.py_value.specs.declared.types.Data.{Data}
use Rattle.py_value.specs.declared.types.Data.TheOpen.{Data-F}
use Rattle.py_value.specs.declared.types.Data.TheFolds.{fold-Data}
use Rattle.py_value.specs.declared.types.Value.{Value}
use Rattle.py_value.specs.declared.types.Value.TheVariants as V

-- what a count of 64 bits shows of a number
abbrev pub cap : ℕ → ℕ
cap n = min n (2 ^ 64 - 1)

-- the sum of several
abbrev pub total : List ℕ → ℕ
total [] = 0
total (n ∷ ns) = n + total ns

-- the sum of two
abbrev pub both : ℕ × ℕ → ℕ
both p = p.0 + p.1

-- the size of a level, whose parts come as their sizes
abbrev pub size_step : Data-F ℕ → ℕ
size_step Data-F.None = 1
size_step (Data-F.Bool b) = 1
size_step (Data-F.Int n) = 1
size_step (Data-F.Text t) = 1 + length t / 16
size_step (Data-F.List items) = total items + 1
size_step (Data-F.Tuple items) = total items + 1
size_step (Data-F.Dict pairs) = total (map both pairs) + 1
size_step (Data-F.Element kind name params initial present) = 1
size_step (Data-F.Html t) = 1 + length t / 16

abbrev pub size_of : Data → ℕ
size_of = fold-Data ℕ size_step

abbrev pub size_of_all : List Data → ℕ
size_of_all items = total (map size_of items)

abbrev pub size_of_pairs : List (Data × Data) → ℕ
size_of_pairs pairs = total (map both (map (λ p. (size_of p.0, size_of p.1)) pairs))

-- what an operation is charged for an operand: the size of a text, a list, a tuple, a dictionary or Html, and nothing for others
abbrev pub charge_step : Value → ℕ → ℕ
charge_step V.None size = 0
charge_step (V.Bool b) size = 0
charge_step (V.Int n) size = 0
charge_step (V.Text t) size = size
charge_step (V.List items) size = size
charge_step (V.Tuple items) size = size
charge_step (V.Dict pairs) size = size
charge_step (V.Element e) size = 0
charge_step (V.Html t) size = size

-- what it is charged for operands, and that as a count of 64 bits shows it
abbrev pub charges_of : List Value → ℕ
charges_of operands = total (map (λ v. charge_step v (size_of (data_of v))) operands)

abbrev pub charge_of : List Value → ℕ
charge_of operands = cap (charges_of operands)
