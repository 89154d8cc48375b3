-- Reading of expressions: a tree of at most some depth, and the words behind it. Each level is read over a reader of what lies deeper.
use Rattle.std.specs.Prelude.{ℕ, zero, suc, ◌+◌, true, false, List, [], ◌∷◌, length, Option, Some, None, nat_lt, option_map}
use Rattle.py_tree.specs.FieldFormats.{Convert, Spec}
use Rattle.py_tree.specs.Names.{Name}
use Rattle.py_tree.specs.Expressions as form
use Rattle.py_tree.specs.Expressions.{Comparison, Tree, conditional, binary, prefixed, chain, is_none, power, call, index, slice, attribute, paren, tuple, list, dict, list_of, dict_of}
use Rattle.py_tree.specs.Expressions.{Trees, none, trees_of, no_pair, Bound, left_out, at, Pieces, no_piece, characters, field}
use Rattle.lexical_form.specs.Tokens as kind
use Rattle.lexical_form.specs.Tokens.{Token}
use Rattle.syntax_form.specs.Depth.{depth}
use Rattle.syntax_reading.specs.Words as is
use Rattle.syntax_reading.specs.Words.{Word, name, literal, f_text, fixed, other, words, token_list, is_free, may_be_literal}
use Rattle.syntax_reading.specs.Readers.{Read, Reader, ◌>>=◌, choose, on_table, on, guarded, by}
use Rattle.syntax_reading.specs.Items.{items, items_on, each}
use Rattle.syntax_reading.specs.Tables.{Level, E1, E2, E3, E4, E6, E7, E8, operator_at, deeper, prefix_at, Tail, Call, Index, Attribute, tail_of, Bracket, Round, Square, Brace, bracket_of}
use Rattle.syntax_reading.specs.Parts.{first_comparison, first_name, first_if, first_keyword, on_none, targets, Argument, plain, named, arguments_of, named_last, pairs_of, links_of, tests_of}

-- a tree that takes all the words
abbrev pub nothing_left : Tree → List Word → Option Tree
nothing_left t [] = Some t
nothing_left t (w ∷ ts) = None

abbrev pub alone : Read Tree → Option Tree
alone None = None
alone (Some p) = nothing_left p.0 p.1

-- a field before other pieces
abbrev pub with_field : Convert → Option Spec → Option Tree → Option Pieces → Option Pieces
with_field convert spec None ps = None
with_field convert spec (Some t) None = None
with_field convert spec (Some t) (Some ps) = Some (field t convert spec ps)

-- ---- one level, over a reader of what is one level deeper

module _ (inner : Level → Reader Tree) (room : ℕ) where
  abbrev pub argument : Reader Argument
  argument ts = choose (inner E1 ts >>= λ t us. Some (plain t, us)) (λ x us. inner E1 us >>= λ t vs. Some (named x t, vs)) (first_keyword ts)

  abbrev pub key_item : Reader (Tree × Tree)
  key_item ts = inner E1 ts >>= λ k us. on is.colon None (λ vs. inner E1 vs >>= λ i ws. Some ((k, i), ws)) us

  -- what stands after `for` in a comprehension
  unfoldable pub clause : Reader (List Name × Tree × Trees)
  clause ts = targets is.in_ ts >>= λ xs us. inner E2 us >>= λ from vs. each first_if (inner E2) (length vs + 1) [] vs >>= λ tests ws.
      Some ((xs, from, tests_of tests), ws)

  unfoldable pub round : Reader Tree
  round ts = on is.round_close
      (inner E1 ts >>= λ t us. on is.comma
      (on is.round_close None (λ vs. Some (paren t, vs)) us)
      (λ vs. items (inner E1) (by is.round_close) (length vs + 1) (t ∷ []) vs >>= λ a ws. Some (tuple (trees_of a.0) a.1, ws)) us)
      (λ us. Some (tuple none false, us)) ts

  unfoldable pub square : Reader Tree
  square ts = on is.square_close
      (inner E1 ts >>= λ t us. on is.for_
      (items_on (inner E1) (by is.square_close) t us >>= λ a vs. Some (list (trees_of a.0) a.1, vs))
      (λ vs. clause vs >>= λ c ws. on is.square_close None (λ xs. Some (list_of t c.0 c.1 c.2, xs)) ws) us)
      (λ us. Some (list none false, us)) ts

  unfoldable pub brace : Reader Tree
  brace ts = on is.brace_close
      (key_item ts >>= λ p us. on is.for_
      (items_on key_item (by is.brace_close) p us >>= λ a vs. Some (dict (pairs_of a.0) a.1, vs))
      (λ vs. clause vs >>= λ c ws. on is.brace_close None (λ xs. Some (dict_of p.0 p.1 c.0 c.1 c.2, xs)) ws) us)
      (λ us. Some (dict no_pair false, us)) ts

  abbrev pub bracketed : Bracket → Reader Tree
  bracketed Round = round
  bracketed Square = square
  bracketed Brace = brace

  -- the expressions of fields
  unfoldable pub parts : kind.Pieces → Option Pieces
  parts kind.no_piece = Some no_piece
  parts (kind.piece (kind.characters cs) ps) = option_map (characters cs) (parts ps)
  parts (kind.piece (kind.field ts convert spec) ps) = with_field convert spec (alone (inner E1 (words (token_list ts)))) (parts ps)

  abbrev pub with_parts : List ℕ → List Word → Option Pieces → Read Tree
  with_parts cs ts None = None
  with_parts cs ts (Some ps) = Some (form.f_text cs ps, ts)

  unfoldable pub atom : Reader Tree
  atom [] = None
  atom (name x ∷ ts) = guarded (is_free x) (Some (form.name x, ts))
  atom (literal t ∷ ts) = guarded (may_be_literal t.kind t.spelling) (Some (form.literal t, ts))
  atom (f_text cs ps ∷ ts) = with_parts cs ts (parts ps)
  atom (fixed f ∷ ts) = on_table bracket_of None bracketed (fixed f ∷ ts)
  atom (other t ∷ ts) = None

  -- after `[`
  abbrev pub slice_end : Tree → Bound → Reader Tree
  slice_end base from ts = on is.square_close
      (inner E1 ts >>= λ p us. on is.square_close None (λ vs. Some (slice base from (at p), vs)) us)
      (λ us. Some (slice base from left_out, us)) ts

  abbrev pub indexed : Tree → Reader Tree
  indexed base ts = on is.colon
      (inner E1 ts >>= λ p us. on is.colon
      (on is.square_close None (λ vs. Some (index base p, vs)) us)
      (slice_end base (at p)) us)
      (slice_end base left_out) ts

  abbrev pub called : Tree → Reader Tree
  called callee ts = items argument (by is.round_close) (length ts + 1) [] ts >>= λ a us.
      guarded (named_last a.0) (Some (call callee (arguments_of a.0) a.1, us))

  -- the tree with one call, index, slice or attribute more
  unfoldable pub tailed : Tree → Tail → Reader Tree
  tailed t Call ts = called t ts
  tailed t Index ts = indexed t ts
  tailed t Attribute ts = first_name ts >>= λ x us. Some (attribute t x, us)

  unfoldable pub tails : ℕ → Tree → Reader Tree
  tails zero t ts = None
  tails (suc n) t ts = on_table tail_of (Some (t, ts)) (λ k us. guarded (nat_lt (depth t) room) (tailed t k us >>= tails n)) ts

  unfoldable pub postfix : Reader Tree
  postfix ts = atom ts >>= tails room

  unfoldable pub powers : Reader Tree
  powers ts = postfix ts >>= λ t us. on is.stars (Some (t, us)) (λ vs. guarded (nat_lt (depth t) room) (inner E8 vs >>= λ u ws. Some (power t u, ws))) us

  -- operators of a level before their operand, or a tree of the next level
  unfoldable pub prefixes : Level → Reader Tree → Reader Tree
  prefixes l lower ts = on_table (prefix_at l) (lower ts) (λ op us. inner l us >>= λ t vs. Some (prefixed op t, vs)) ts

  -- operators of a level between operands
  unfoldable pub turns : Level → ℕ → Tree → Reader Tree
  turns l zero t ts = None
  turns l (suc n) t ts =
      on_table (operator_at l) (Some (t, ts)) (λ op us. guarded (nat_lt (depth t) room) (inner (deeper l) us >>= λ u. turns l n (binary op t u))) ts

  unfoldable pub operations : Level → Reader Tree → Reader Tree
  operations l lower ts = lower ts >>= turns l room

  -- after `is`
  abbrev pub is_tail : Tree → Reader Tree
  is_tail t ts = on is.not_
      (on_none (λ us. Some (is_none false t, us)) ts)
      (on_none (λ us. Some (is_none true t, us))) ts

  abbrev pub chained : Tree → List (Comparison × Tree) → Reader Tree
  chained t [] ts = Some (t, ts)
  chained t (l ∷ ls) ts = guarded (nat_lt (depth t) room) (Some (chain t l.0 l.1 (links_of ls), ts))

  unfoldable pub compared : Reader Tree → Reader Tree
  compared lower ts = lower ts >>= λ t us. on is.is_
      (each first_comparison (inner E6) (length us + 1) [] us >>= chained t)
      (λ vs. guarded (nat_lt (depth t) room) (is_tail t vs)) us

  unfoldable pub whole : Reader Tree → Reader Tree
  whole lower ts = lower ts >>= λ t us. on is.if_ (Some (t, us))
      (λ vs. guarded (nat_lt (depth t) room) (inner E2 vs >>= λ u. on is.else_ None (λ ws. inner E1 ws >>= λ o xs. Some (conditional t u o, xs)))) us

  abbrev pub level_8 : Reader Tree
  level_8 = prefixes E8 powers

  abbrev pub level_7 : Reader Tree
  level_7 = operations E7 level_8

  abbrev pub level_6 : Reader Tree
  level_6 = operations E6 level_7

  abbrev pub level_5 : Reader Tree
  level_5 = compared level_6

  abbrev pub level_4 : Reader Tree
  level_4 = prefixes E4 level_5

  abbrev pub level_3 : Reader Tree
  level_3 = operations E3 level_4

  abbrev pub level_2 : Reader Tree
  level_2 = operations E2 level_3

  abbrev pub level_1 : Reader Tree
  level_1 = whole level_2

  abbrev pub at_level : Level → Reader Tree
  at_level E1 = level_1
  at_level E2 = level_2
  at_level E3 = level_3
  at_level E4 = level_4
  at_level E6 = level_6
  at_level E7 = level_7
  at_level E8 = level_8

-- a tree of at most this depth, and the words after it
unfoldable pub read : ℕ → Level → Reader Tree
read zero l ts = None
read (suc n) l ts = at_level (read n) (suc n) l ts

-- the expression that all these tokens are, if they are one
abbrev pub read_expression : ℕ → List Token → Option Tree
read_expression limit ts = alone (read limit E1 (words ts))
