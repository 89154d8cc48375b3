-- Tokens that are a line.
use Rattle.std.specs.Prelude.{◌≡◌, ℕ, ◌≤◌, max, true, false, List}
use Rattle.py_tree.specs.Trees.{Head, value, assign, augment, put_item, augment_item, append, extend, if_line, elif_line, else_line, while_line, for_line, def_line, return_line, return_value, pass_line, break_line, continue_line, import_marimo, import_mo, with_cache, cache_decorator, cell_decorator, cell_decorator_with, app_line}
use Rattle.lexical_form.specs.Tokens.{Token}
use Rattle.syntax_form.specs.Depth.{depth_limit, depth, argument_depth}
use Rattle.syntax_form.specs.LineGrouping.{HeadGrouped}
use Rattle.syntax_form.specs.LinePrinting.{head_tokens}
use Rattle.syntax_form.specs.Literals.{IsName, IsLiteral, IsFTextSpelling}

abbrev pub HeadLevelled : Head → Type 0
HeadLevelled = HeadGrouped IsName IsLiteral IsFTextSpelling

-- as deep as the deepest expression, 0 where there is none
abbrev pub head_depth : Head → ℕ
head_depth (value t) = depth t
head_depth (assign targets t) = depth t
head_depth (augment x op t) = depth t
head_depth (put_item x position t) = max (depth position) (depth t)
head_depth (augment_item x position op t) = max (depth position) (depth t)
head_depth (append x t) = depth t
head_depth (extend x t) = depth t
head_depth (if_line test) = depth test
head_depth (elif_line test) = depth test
head_depth (while_line test) = depth test
head_depth (for_line targets from) = depth from
head_depth (return_value t) = depth t
head_depth (cell_decorator_with args comma) = argument_depth args
head_depth (app_line args comma) = argument_depth args
head_depth else_line = 0
head_depth (def_line x parameters comma) = 0
head_depth return_line = 0
head_depth pass_line = 0
head_depth break_line = 0
head_depth continue_line = 0
head_depth import_marimo = 0
head_depth import_mo = 0
head_depth (with_cache named t) = 0
head_depth cache_decorator = 0
head_depth cell_decorator = 0

-- The place of a line's form among the forms: where tokens spell lines of two forms, the later one counts. So `x.append(1)` is a change of a
-- list and no expression.
abbrev pub place : Head → ℕ
place (value t) = 1
place (assign targets t) = 2
place (augment x op t) = 3
place (put_item x position t) = 4
place (augment_item x position op t) = 5
place (append x t) = 6
place (extend x t) = 7
place (if_line test) = 8
place (elif_line test) = 9
place else_line = 10
place (while_line test) = 11
place (for_line targets from) = 12
place (def_line x parameters comma) = 13
place return_line = 14
place (return_value t) = 15
place pass_line = 16
place break_line = 17
place continue_line = 18
place import_marimo = 19
place import_mo = 20
place (with_cache false t) = 21
place (with_cache true t) = 22
place cache_decorator = 23
place cell_decorator = 24
place (cell_decorator_with args comma) = 25
place (app_line args comma) = 26

-- the tokens spell this line of the grammar, which isn't too deep
pub record SpellsLine (ts : List Token) (h : Head) : Type 0 where
  pub levelled : HeadLevelled h
  pub shallow : head_depth h ≤ depth_limit
  pub spelled : ts ≡ head_tokens h

-- the tokens are this line: they spell it, and no line of a later form
pub record IsLine (ts : List Token) (h : Head) : Type 0 where
  pub spells : SpellsLine ts h
  pub latest : (other : Head) → SpellsLine ts other → place other ≤ place h
