-- What spells a tree, before other words.
use Rattle.std.proofs.Common.{Bool, true, false, List, [], ◌∷◌}
use Rattle.py_tree.specs.Expressions as form
use Rattle.syntax_reading.specs.Words as is
use Rattle.py_tree.specs.Names.{Name}
use Rattle.py_tree.specs.Expressions.{Operator, Prefix, Comparison, Tree, conditional, binary, prefixed, chain, is_none, power, call, index, slice, attribute, paren, tuple, list, dict, list_of, dict_of, bare, Trees, none, more, Links, done, link, Arguments, no_argument, positional, keyword, Pairs, no_pair, pair, Bound, left_out, at}
use Rattle.syntax_form.specs.Printing.{token_pieces}
use Rattle.syntax_reading.specs.Words.{Fixed, Word, name, literal, f_text, fixed, none_literal}
use Rattle.syntax_reading.specs.Readers.{Closing, by, at_end}

abbrev pub closes : Closing → List Word → List Word
closes (by f) rest = fixed f ∷ rest
closes at_end rest = rest

abbrev pub closed : Bool → Closing → List Word → List Word
closed true c rest = fixed is.comma ∷ closes c rest
closed false c rest = closes c rest

module _ {I : Type 0} (spell_item : I → List Word → List Word) where
  -- each with a comma before it, and what closes
  abbrev pub spell_more : List I → Bool → Closing → List Word → List Word
  spell_more [] comma c rest = closed comma c rest
  spell_more (i ∷ xs) comma c rest = fixed is.comma ∷ spell_item i (spell_more xs comma c rest)

  abbrev pub spell_all : List I → Bool → Closing → List Word → List Word
  spell_all [] comma c rest = closed comma c rest
  spell_all (i ∷ xs) comma c rest = spell_item i (spell_more xs comma c rest)

abbrev pub spell_name : Name → List Word → List Word
spell_name x rest = name x ∷ rest

abbrev pub spell_names : List Name → Fixed → List Word → List Word
spell_names xs f rest = spell_all spell_name xs false (by f) rest

abbrev pub operator_word : Operator → Fixed
operator_word form.Or = is.or_
operator_word form.And = is.and_
operator_word form.Add = is.plus
operator_word form.Subtract = is.minus
operator_word form.Multiply = is.star
operator_word form.Floor = is.slashes
operator_word form.Remainder = is.percent

abbrev pub prefix_word : Prefix → Fixed
prefix_word form.Not = is.not_
prefix_word form.Minus = is.minus
prefix_word form.Plus = is.plus

abbrev pub comparison_then : Comparison → List Word → List Word
comparison_then form.Equal rest = fixed is.equal ∷ rest
comparison_then form.Unequal rest = fixed is.unequal ∷ rest
comparison_then form.Less rest = fixed is.less ∷ rest
comparison_then form.AtMost rest = fixed is.at_most ∷ rest
comparison_then form.Greater rest = fixed is.greater ∷ rest
comparison_then form.AtLeast rest = fixed is.at_least ∷ rest
comparison_then form.In rest = fixed is.in_ ∷ rest
comparison_then form.NotIn rest = fixed is.not_ ∷ fixed is.in_ ∷ rest

abbrev pub is_then : Bool → List Word → List Word
is_then true rest = fixed is.is_ ∷ fixed is.not_ ∷ literal none_literal ∷ rest
is_then false rest = fixed is.is_ ∷ literal none_literal ∷ rest

abbrev mutual
  pub spell : Tree → List Word → List Word
  spell (conditional value test o) rest = spell value (fixed is.if_ ∷ spell test (fixed is.else_ ∷ spell o rest))
  spell (binary op left right) rest = spell left (fixed (operator_word op) ∷ spell right rest)
  spell (prefixed op t) rest = fixed (prefix_word op) ∷ spell t rest
  spell (chain t c u links) rest = spell t (comparison_then c (spell u (spell_links links rest)))
  spell (is_none negated t) rest = spell t (is_then negated rest)
  spell (power base exponent) rest = spell base (fixed is.stars ∷ spell exponent rest)
  spell (call callee args comma) rest = spell callee (fixed is.round_open ∷ spell_arguments args comma rest)
  spell (index base position) rest = spell base (fixed is.square_open ∷ spell position (fixed is.square_close ∷ rest))
  spell (slice base from until) rest =
      spell base (fixed is.square_open ∷ spell_bound from (fixed is.colon ∷ spell_bound until (fixed is.square_close ∷ rest)))
  spell (attribute base x) rest = spell base (fixed is.dot ∷ name x ∷ rest)
  spell (form.literal t) rest = literal t ∷ rest
  spell (form.f_text cs ps) rest = f_text cs (token_pieces ps) ∷ rest
  spell (form.name x) rest = name x ∷ rest
  spell (paren t) rest = fixed is.round_open ∷ spell t (fixed is.round_close ∷ rest)
  spell (tuple ts comma) rest = fixed is.round_open ∷ spell_list ts comma (by is.round_close) rest
  spell (list ts comma) rest = fixed is.square_open ∷ spell_list ts comma (by is.square_close) rest
  spell (dict ps comma) rest = fixed is.brace_open ∷ spell_pairs ps comma rest
  spell (list_of item targets from tests) rest =
      fixed is.square_open ∷ spell item (fixed is.for_ ∷ spell_names targets is.in_ (spell from (spell_tests tests (fixed is.square_close ∷ rest))))
  spell (dict_of key item targets from tests) rest =
      fixed is.brace_open ∷ spell key (fixed is.colon ∷ spell item (fixed is.for_ ∷ spell_names targets is.in_ (spell from (spell_tests tests (fixed is.brace_close ∷ rest)))))
  spell (bare ts comma) rest = spell_list ts comma at_end rest

  pub spell_list : Trees → Bool → Closing → List Word → List Word
  spell_list none comma c rest = closed comma c rest
  spell_list (more t ts) comma c rest = spell t (spell_later ts comma c rest)

  pub spell_later : Trees → Bool → Closing → List Word → List Word
  spell_later none comma c rest = closed comma c rest
  spell_later (more t ts) comma c rest = fixed is.comma ∷ spell t (spell_later ts comma c rest)

  pub spell_links : Links → List Word → List Word
  spell_links done rest = rest
  spell_links (link c t links) rest = comparison_then c (spell t (spell_links links rest))

  pub spell_arguments : Arguments → Bool → List Word → List Word
  spell_arguments no_argument comma rest = closed comma (by is.round_close) rest
  spell_arguments (positional t args) comma rest = spell t (spell_later_arguments args comma rest)
  spell_arguments (keyword x t args) comma rest = name x ∷ fixed is.assign ∷ spell t (spell_later_arguments args comma rest)

  pub spell_later_arguments : Arguments → Bool → List Word → List Word
  spell_later_arguments no_argument comma rest = closed comma (by is.round_close) rest
  spell_later_arguments (positional t args) comma rest = fixed is.comma ∷ spell t (spell_later_arguments args comma rest)
  spell_later_arguments (keyword x t args) comma rest = fixed is.comma ∷ name x ∷ fixed is.assign ∷ spell t (spell_later_arguments args comma rest)

  pub spell_pairs : Pairs → Bool → List Word → List Word
  spell_pairs no_pair comma rest = closed comma (by is.brace_close) rest
  spell_pairs (pair key item ps) comma rest = spell key (fixed is.colon ∷ spell item (spell_later_pairs ps comma rest))

  pub spell_later_pairs : Pairs → Bool → List Word → List Word
  spell_later_pairs no_pair comma rest = closed comma (by is.brace_close) rest
  spell_later_pairs (pair key item ps) comma rest = fixed is.comma ∷ spell key (fixed is.colon ∷ spell item (spell_later_pairs ps comma rest))

  pub spell_tests : Trees → List Word → List Word
  spell_tests none rest = rest
  spell_tests (more t ts) rest = fixed is.if_ ∷ spell t (spell_tests ts rest)

  pub spell_bound : Bound → List Word → List Word
  spell_bound left_out rest = rest
  spell_bound (at t) rest = spell t rest
