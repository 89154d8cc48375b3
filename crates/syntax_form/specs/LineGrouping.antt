-- Which lines the grammar has: what their expressions, names, arguments and texts may be (Python language reference, sections 7 and 8). A tuple
-- without brackets is a whole line, or stands behind the `=` of targets, behind `return` or behind the `in` of a `for`. As in `Grouping`, the
-- parameters say what names, literals and f-texts have to be.
use Rattle.std.specs.Prelude.{ℕ, ◌≤◌, Bool, List, ⊤}
use Rattle.py_tree.specs.Names.{Name}
use Rattle.py_tree.specs.declared.token.TokenKind.{TokenKind}
use Rattle.py_tree.specs.declared.token.TokenKind.TheVariants as kind
use Rattle.py_tree.specs.Trees.{Tree, Arguments, Head, value, assign, augment, put_item, augment_item, append, extend, if_line, elif_line, else_line, while_line, for_line, def_line, return_line, return_value, pass_line, break_line, continue_line, import_marimo, import_mo, with_cache, cache_decorator, cell_decorator, cell_decorator_with, app_line}
use Rattle.lexical_form.specs.Tokens as token
use Rattle.syntax_form.specs.Levels.{level}
use Rattle.syntax_form.specs.Grouping.{Grouped, ArgumentsGrouped}
use Rattle.syntax_form.specs.Shapes.{AreEach, AreTargets, CommaBehindArguments, CommaBehindNames, NamedLast}

abbrev pub IsTextKind : TokenKind → Type 0
IsTextKind kind.Text = ⊤
IsTextKind k = ⊥

module _ (AsName : Name → Type 0) (AsLiteral : TokenKind → List ℕ → Type 0) (AsFText : List ℕ → token.Pieces → Type 0) where
  -- at this level or a tighter one
  abbrev pub GroupedAt : ℕ → Tree → Type 0
  GroupedAt k t = (k ≤ level t) × Grouped AsName AsLiteral AsFText t

  abbrev pub ArgumentListGrouped : Arguments → Bool → Type 0
  ArgumentListGrouped args comma = ArgumentsGrouped AsName AsLiteral AsFText args × NamedLast args × CommaBehindArguments args comma

  abbrev pub HeadGrouped : Head → Type 0
  HeadGrouped (value t) = GroupedAt 0 t
  HeadGrouped (assign targets t) = AreTargets AsName targets × GroupedAt 0 t
  HeadGrouped (augment x op t) = AsName x × GroupedAt 1 t
  HeadGrouped (put_item x position t) = AsName x × GroupedAt 1 position × GroupedAt 1 t
  HeadGrouped (augment_item x position op t) = AsName x × GroupedAt 1 position × GroupedAt 1 t
  HeadGrouped (append x t) = AsName x × GroupedAt 1 t
  HeadGrouped (extend x t) = AsName x × GroupedAt 1 t
  HeadGrouped (if_line test) = GroupedAt 1 test
  HeadGrouped (elif_line test) = GroupedAt 1 test
  HeadGrouped (while_line test) = GroupedAt 1 test
  HeadGrouped (for_line targets from) = AreTargets AsName targets × GroupedAt 0 from
  HeadGrouped (def_line x parameters comma) = AsName x × AreEach AsName parameters × CommaBehindNames parameters comma
  HeadGrouped (return_value t) = GroupedAt 0 t
  HeadGrouped (with_cache named t) = IsTextKind t.kind × AsLiteral t.kind t.spelling
  HeadGrouped (cell_decorator_with args comma) = ArgumentListGrouped args comma
  HeadGrouped (app_line args comma) = ArgumentListGrouped args comma
  HeadGrouped else_line = ⊤
  HeadGrouped return_line = ⊤
  HeadGrouped pass_line = ⊤
  HeadGrouped break_line = ⊤
  HeadGrouped continue_line = ⊤
  HeadGrouped import_marimo = ⊤
  HeadGrouped import_mo = ⊤
  HeadGrouped cache_decorator = ⊤
  HeadGrouped cell_decorator = ⊤
