-- Tokens that are an expression.
use Rattle.std.specs.Prelude.{◌≡◌, ℕ, ◌≤◌, List}
use Rattle.py_tree.specs.Expressions.{Tree}
use Rattle.lexical_form.specs.Tokens.{Token}
use Rattle.syntax_form.specs.Depth.{depth}
use Rattle.syntax_form.specs.Levelled.{Levelled}
use Rattle.syntax_form.specs.Levels.{level}
use Rattle.syntax_form.specs.Printing.{tokens}

-- These tokens are this expression, at most this deep. It is no tuple without brackets.
pub record IsExpression (limit : ℕ) (ts : List Token) (t : Tree) : Type 0 where
  pub stands : 1 ≤ level t
  pub levelled : Levelled t
  pub shallow : depth t ≤ limit
  pub spelled : ts ≡ tokens t
