-- Pieces of the reading that methods have of their own.
use Rattle.std.specs.Prelude.{ℕ, ◌+◌, Bool, true, false, List, [], ◌∷◌, ◌++◌, length, Option, Some, None}
use Rattle.syntax_reading.specs.Items.{each, items, items_on}
use Rattle.syntax_reading.specs.Parts.{Argument, plain, first_comparison, on_none, pairs_of}
use Rattle.syntax_reading.specs.Reading.{alone, chained, clause, key_item}
use Rattle.lexical_form.specs.Tokens.{Convert, Spec, Piece, characters, field, Tokens}
use Rattle.py_tree.specs.Expressions as form
use Rattle.py_tree.specs.Expressions.{Prefix, Tree, trees_of}
use Rattle.syntax_reading.specs.Readers.{Reader, ◌>>=◌, on, by}
use Rattle.syntax_reading.specs.Tables.{Level, E1, E2, E6}
use Rattle.syntax_reading.specs.Words as is
use Rattle.syntax_reading.specs.Words.{token_list, words}
use Rattle.expr_parser.specs.TextView.{Text, plain as plain_text, filled}

-- behind `VALUE if`
abbrev pub conditional : (Level → Reader Tree) → Tree → Reader Tree
conditional inner t vs = inner E2 vs >>= λ u. on is.else_ None (λ ws. inner E1 ws >>= λ o xs. Some (form.conditional t u o, xs))

-- behind an operator that stands before its operand
abbrev pub prefixed_operand : Reader Tree → Prefix → Reader Tree
prefixed_operand operand op us = operand us >>= λ t vs. Some (form.prefixed op t, vs)

-- comparisons behind a first operand
abbrev pub linked : (Level → Reader Tree) → ℕ → Tree → Reader Tree
linked inner room t us = each first_comparison (inner E6) (length us + 1) [] us >>= chained inner room t

-- `None` behind `is` or `is not`
abbrev pub none_behind : Bool → Tree → Reader Tree
none_behind negated t ts = on_none (λ us. Some (form.is_none negated t, us)) ts

-- an argument without a name
abbrev pub positional : Reader Tree → Reader Argument
positional value ts = value ts >>= λ t us. Some (plain t, us)

-- behind `(FIRST,`
abbrev pub tuple_behind : (Level → Reader Tree) → Tree → Reader Tree
tuple_behind inner t vs = items (inner E1) (by is.round_close) (length vs + 1) (t ∷ []) vs >>= λ a ws. Some (form.tuple (trees_of a.0) a.1, ws)

-- behind `(FIRST`
abbrev pub more_in_round : (Level → Reader Tree) → Tree → Reader Tree
more_in_round inner t us = on is.comma (on is.round_close None (λ vs. Some (form.paren t, vs)) us) (tuple_behind inner t) us

module _ (inner : Level → Reader Tree) (room : ℕ) where
  -- behind `[ITEM for`
  abbrev pub list_clause : Tree → Reader Tree
  list_clause t vs = clause inner room vs >>= λ c ws. on is.square_close None (λ xs. Some (form.list_of t c.0 c.1 c.2, xs)) ws

  -- behind `[FIRST`
  abbrev pub more_in_square : Tree → Reader Tree
  more_in_square t us = on is.for_
      (items_on (inner E1) (by is.square_close) t us >>= λ a vs. Some (form.list (trees_of a.0) a.1, vs))
      (list_clause t) us

  -- behind `{KEY: ITEM for`
  abbrev pub dict_clause : Tree × Tree → Reader Tree
  dict_clause p vs = clause inner room vs >>= λ c ws. on is.brace_close None (λ xs. Some (form.dict_of p.0 p.1 c.0 c.1 c.2, xs)) ws

  -- behind `{KEY: ITEM`
  abbrev pub more_in_brace : Tree × Tree → Reader Tree
  more_in_brace p us = on is.for_
      (items_on (key_item inner room) (by is.brace_close) p us >>= λ a vs. Some (form.dict (pairs_of a.0) a.1, vs))
      (dict_clause p) us

-- the expression that all tokens of a field are
abbrev pub field_tree : Reader Tree → Tokens → Option Tree
field_tree whole ts = alone (whole (words (token_list ts)))

-- pieces with a field behind them
abbrev pub with_value : List Text → Option Tree → Convert → Option Spec → Option (List Text)
with_value before None convert spec = None
with_value before (Some t) convert spec = Some (before ++ filled t convert spec ∷ [])

-- pieces with one more behind them
abbrev pub with_piece : Reader Tree → List Text → Piece → Option (List Text)
with_piece whole before (characters cs) = Some (before ++ plain_text cs ∷ [])
with_piece whole before (field ts convert spec) = with_value before (field_tree whole ts) convert spec

-- behind `OPERAND is`
abbrev pub is_tail : Tree → Reader Tree
is_tail t ts = on is.not_ (none_behind false t ts) (none_behind true t) ts
