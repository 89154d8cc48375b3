-- How tightly expressions bind (Python language reference, section 6.17).
use Rattle.std.specs.Prelude.{ℕ}
use Rattle.py_tree.specs.Expressions as form
use Rattle.py_tree.specs.Expressions.{Operator, Prefix, Tree, conditional, binary, prefixed, chain, is_none, power, call, index, slice, attribute, literal, f_text, name, paren, tuple, list, dict, list_of, dict_of, bare}

abbrev pub operator_level : Operator → ℕ
operator_level form.Or = 2
operator_level form.And = 3
operator_level form.Add = 6
operator_level form.Subtract = 6
operator_level form.Multiply = 7
operator_level form.Floor = 7
operator_level form.Remainder = 7

abbrev pub prefix_level : Prefix → ℕ
prefix_level form.Not = 4
prefix_level form.Minus = 8
prefix_level form.Plus = 8

-- the level of the outermost form, from the loosest, 1, to the tightest, 11; 0 for a tuple without brackets
abbrev pub level : Tree → ℕ
level (conditional value test other) = 1
level (binary op left right) = operator_level op
level (prefixed op t) = prefix_level op
level (chain t c u links) = 5
level (is_none negated t) = 5
level (power base exponent) = 9
level (call callee args comma) = 10
level (index base position) = 10
level (slice base from until) = 10
level (attribute base x) = 10
level (literal t) = 11
level (f_text spelling pieces) = 11
level (name x) = 11
level (paren t) = 11
level (tuple ts comma) = 11
level (list ts comma) = 11
level (dict ps comma) = 11
level (list_of item targets from tests) = 11
level (dict_of key item targets from tests) = 11
level (bare ts comma) = 0
