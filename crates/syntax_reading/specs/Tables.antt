-- What single words say: operators of each level, comparisons, what goes on behind an operand, brackets.
use Rattle.std.specs.Prelude.{ℕ, Option, Some, None}
use Rattle.py_tree.specs.Expressions as form
use Rattle.py_tree.specs.Expressions.{Operator, Or, And, Add, Subtract, Multiply, Floor, Remainder, Prefix, Not, Minus, Plus, Comparison}
use Rattle.syntax_reading.specs.Words as is
use Rattle.syntax_reading.specs.Words.{Fixed}

-- the levels at which operands are read, by their numbers
pub data Level : Type 0 where
  E1 : Level
  E2 : Level
  E3 : Level
  E4 : Level
  E6 : Level
  E7 : Level
  E8 : Level

abbrev pub least : Level → ℕ
least E1 = 1
least E2 = 2
least E3 = 3
least E4 = 4
least E6 = 6
least E7 = 7
least E8 = 8

-- the operators of a level that stand between operands
abbrev pub operator_at : Level → Fixed → Option Operator
operator_at E2 is.or_ = Some Or
operator_at E3 is.and_ = Some And
operator_at E6 is.plus = Some Add
operator_at E6 is.minus = Some Subtract
operator_at E7 is.star = Some Multiply
operator_at E7 is.slashes = Some Floor
operator_at E7 is.percent = Some Remainder
operator_at l f = None

-- the level of a right operand
abbrev pub deeper : Level → Level
deeper E1 = E2
deeper E2 = E3
deeper E3 = E4
deeper E4 = E6
deeper E6 = E7
deeper E7 = E8
deeper E8 = E8

-- the operators of a level that stand before their operand
abbrev pub prefix_at : Level → Fixed → Option Prefix
prefix_at E4 is.not_ = Some Not
prefix_at E8 is.minus = Some Minus
prefix_at E8 is.plus = Some Plus
prefix_at l f = None

abbrev pub comparison_of : Fixed → Option Comparison
comparison_of is.equal = Some form.Equal
comparison_of is.unequal = Some form.Unequal
comparison_of is.less = Some form.Less
comparison_of is.at_most = Some form.AtMost
comparison_of is.greater = Some form.Greater
comparison_of is.at_least = Some form.AtLeast
comparison_of is.in_ = Some form.In
comparison_of f = None

-- what goes on behind an operand
pub data Tail : Type 0 where
  Call : Tail
  Index : Tail
  Attribute : Tail

abbrev pub tail_of : Fixed → Option Tail
tail_of is.round_open = Some Call
tail_of is.square_open = Some Index
tail_of is.dot = Some Attribute
tail_of f = None

-- what a bracket opens
pub data Bracket : Type 0 where
  Round : Bracket
  Square : Bracket
  Brace : Bracket

abbrev pub bracket_of : Fixed → Option Bracket
bracket_of is.round_open = Some Round
bracket_of is.square_open = Some Square
bracket_of is.brace_open = Some Brace
bracket_of f = None
