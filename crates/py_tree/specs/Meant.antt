-- The trees that have a meaning today, and how tightly these bind. What the whole grammar has stands in `syntax_form`.
use Rattle.std.specs.Prelude.{ℕ, Bool, true, false, ◌&&◌, nat_lt, List, [], ◌∷◌}
use Rattle.std.specs.List.{list_all}
use Rattle.py_tree.specs.Names.{is_identifier}
use Rattle.py_tree.specs.Numbers.{is_number}
use Rattle.py_tree.specs.Trees.{Tree, literal, name, binary, Add, attribute, call, Arguments, no_argument, positional, Head, value, assign, import_mo, stmt, Stmts, end, then_comes}
use Rattle.py_tree.specs.declared.token.TokenKind.{TokenKind}
use Rattle.py_tree.specs.declared.token.TokenKind.TheVariants as kind

-- The level of a tree's outermost form, from the loosest, 1, to the tightest, 11 (Python language reference, section 6.17); 0 where the form
-- has no meaning yet.
abbrev pub level : Tree → ℕ
level (literal token) = 11
level (name x) = 11
level (binary Add a b) = 6
level (attribute base x) = 10
level (call callee args comma) = 10
level t = 0

-- a number, spelled as one
abbrev pub is_literal : TokenKind → List ℕ → Bool
is_literal kind.Name spelling = false
is_literal kind.Number spelling = is_number spelling
is_literal kind.Text spelling = false
is_literal kind.Mark spelling = false

-- Each form has a meaning, each operand binds as tightly as its place asks for, each name is one and no keyword, and each literal is a number,
-- spelled as one.
-- A sum groups to the left: its right side binds more tightly than a sum. What stands before a dot or a bracket binds as tightly
-- as these.
abbrev mutual
  pub has_meaning : Tree → Bool
  has_meaning (literal token) = is_literal token.kind token.spelling
  has_meaning (name x) = is_identifier x
  has_meaning (binary Add a b) = has_meaning a && nat_lt 6 (level b) && has_meaning b
  has_meaning (attribute base x) = has_meaning base && nat_lt 9 (level base) && is_identifier x
  has_meaning (call callee args comma) = has_meaning callee && nat_lt 9 (level callee) && arguments_have_meaning args
  has_meaning t = false

  pub arguments_have_meaning : Arguments → Bool
  arguments_have_meaning no_argument = true
  arguments_have_meaning (positional t args) = has_meaning t && arguments_have_meaning args
  arguments_have_meaning args = false

-- one or more names
abbrev pub are_targets : List (List ℕ) → Bool
are_targets [] = false
are_targets (x ∷ xs) = list_all is_identifier (x ∷ xs)

abbrev pub head_has_meaning : Head → Bool
head_has_meaning (value t) = has_meaning t
head_has_meaning (assign targets t) = are_targets targets && has_meaning t
head_has_meaning import_mo = true
head_has_meaning h = false

abbrev pub have_meaning : Stmts → Bool
have_meaning end = true
have_meaning (then_comes (stmt n head block) rest) = head_has_meaning head && have_meaning block && have_meaning rest
