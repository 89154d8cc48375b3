-- Levels, operators and what else single words say, seen as pure data.
use Rattle.py_tree.specs.Expressions as form
use Rattle.syntax_reading.specs.Tables as table
use Rattle.syntax_words.specs.declared.level.Level.{Level}
use Rattle.syntax_words.specs.declared.level.Level.TheVariants as level
use Rattle.syntax_words.specs.declared.tables.Bracket.{Bracket}
use Rattle.syntax_words.specs.declared.tables.Bracket.TheVariants as bracket
use Rattle.syntax_words.specs.declared.tables.Operator.{Operator}
use Rattle.syntax_words.specs.declared.tables.Operator.TheVariants as operator
use Rattle.syntax_words.specs.declared.tables.Prefix.{Prefix}
use Rattle.syntax_words.specs.declared.tables.Prefix.TheVariants as prefix
use Rattle.syntax_words.specs.declared.tables.Tail.{Tail}
use Rattle.syntax_words.specs.declared.tables.Tail.TheVariants as tail

abbrev pub view_level : Level → table.Level
view_level level.E1 = table.E1
view_level level.E2 = table.E2
view_level level.E3 = table.E3
view_level level.E4 = table.E4
view_level level.E6 = table.E6
view_level level.E7 = table.E7
view_level level.E8 = table.E8

abbrev pub view_operator : Operator → form.Operator
view_operator operator.Or = form.Or
view_operator operator.And = form.And
view_operator operator.Add = form.Add
view_operator operator.Subtract = form.Subtract
view_operator operator.Multiply = form.Multiply
view_operator operator.Floor = form.Floor
view_operator operator.Remainder = form.Remainder

abbrev pub view_prefix : Prefix → form.Prefix
view_prefix prefix.Not = form.Not
view_prefix prefix.Minus = form.Minus
view_prefix prefix.Plus = form.Plus

abbrev pub view_tail : Tail → table.Tail
view_tail tail.Call = table.Call
view_tail tail.Index = table.Index
view_tail tail.Attribute = table.Attribute

abbrev pub view_bracket : Bracket → table.Bracket
view_bracket bracket.Round = table.Round
view_bracket bracket.Square = table.Square
view_bracket bracket.Brace = table.Brace
