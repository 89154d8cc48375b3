-- The tokens that spell an expression (Python language reference, section 6).
use Prim.Native.String.{String}
use Rattle.std.specs.Prelude.{Bool, true, false, List, [], ◌∷◌, ◌++◌, codes}
use Rattle.py_tree.specs.Names.{Name}
use Rattle.py_tree.specs.declared.token.Token as literals
use Rattle.py_tree.specs.declared.token.TokenKind.{TokenKind}
use Rattle.py_tree.specs.declared.token.TokenKind.TheVariants as kind
use Rattle.py_tree.specs.Expressions as form
use Rattle.py_tree.specs.Expressions.{Operator, Prefix, Comparison, Tree, conditional, binary, prefixed, chain, is_none, power, call, index, slice, attribute, literal, f_text, name, paren, tuple, list, dict, list_of, dict_of, bare}
use Rattle.py_tree.specs.Expressions.{Trees, none, more, Links, done, link, Arguments, no_argument, positional, keyword, Pairs, no_pair, pair, Bound, left_out, at, Pieces, no_piece, characters, field}
use Rattle.lexical_form.specs.Tokens as token
use Rattle.lexical_form.specs.Tokens.{Token, tokens_of}

abbrev pub name_token : Name → Token
name_token x = token.token token.name x

-- a keyword or a name by its spelling, and a mark
abbrev pub word : String → Token
word x = name_token (codes x)

abbrev pub mark : String → Token
mark x = token.token token.mark (codes x)

abbrev pub kind_of : TokenKind → token.Kind
kind_of kind.Name = token.name
kind_of kind.Number = token.number
kind_of kind.Text = token.text
kind_of kind.Mark = token.mark

abbrev pub literal_token : literals.Token → Token
literal_token t = token.token (kind_of t.kind) t.spelling

abbrev pub operator_token : Operator → Token
operator_token form.Or = word "or"
operator_token form.And = word "and"
operator_token form.Add = mark "+"
operator_token form.Subtract = mark "-"
operator_token form.Multiply = mark "*"
operator_token form.Floor = mark "//"
operator_token form.Remainder = mark "%"

abbrev pub prefix_token : Prefix → Token
prefix_token form.Not = word "not"
prefix_token form.Minus = mark "-"
prefix_token form.Plus = mark "+"

abbrev pub comparison_tokens : Comparison → List Token
comparison_tokens form.Equal = mark "==" ∷ []
comparison_tokens form.Unequal = mark "!=" ∷ []
comparison_tokens form.Less = mark "<" ∷ []
comparison_tokens form.AtMost = mark "<=" ∷ []
comparison_tokens form.Greater = mark ">" ∷ []
comparison_tokens form.AtLeast = mark ">=" ∷ []
comparison_tokens form.In = word "in" ∷ []
comparison_tokens form.NotIn = word "not" ∷ word "in" ∷ []

abbrev pub if_comma : Bool → List Token
if_comma true = mark "," ∷ []
if_comma false = []

abbrev pub if_not : Bool → List Token
if_not true = word "not" ∷ []
if_not false = []

-- between two brackets
abbrev pub within : String → List Token → String → List Token
within opening inside closing = mark opening ∷ (inside ++ mark closing ∷ [])

-- names with commas between them; those behind the first, each with its comma
abbrev pub later_names : List Name → List Token
later_names [] = []
later_names (x ∷ xs) = mark "," ∷ name_token x ∷ later_names xs

abbrev pub names_tokens : List Name → List Token
names_tokens [] = []
names_tokens (x ∷ xs) = name_token x ∷ later_names xs

abbrev mutual
  pub tokens : Tree → List Token
  tokens (conditional value test other) = tokens value ++ word "if" ∷ (tokens test ++ word "else" ∷ tokens other)
  tokens (binary op left right) = tokens left ++ operator_token op ∷ tokens right
  tokens (prefixed op t) = prefix_token op ∷ tokens t
  tokens (chain t c u links) = tokens t ++ (comparison_tokens c ++ (tokens u ++ link_tokens links))
  tokens (is_none negated t) = tokens t ++ word "is" ∷ (if_not negated ++ word "None" ∷ [])
  tokens (power base exponent) = tokens base ++ mark "**" ∷ tokens exponent
  tokens (call callee args comma) = tokens callee ++ within "(" (argument_tokens args ++ if_comma comma) ")"
  tokens (index base position) = tokens base ++ within "[" (tokens position) "]"
  tokens (slice base from until) = tokens base ++ within "[" (bound_tokens from ++ mark ":" ∷ bound_tokens until) "]"
  tokens (attribute base x) = tokens base ++ mark "." ∷ name_token x ∷ []
  tokens (literal t) = literal_token t ∷ []
  tokens (f_text spelling pieces) = token.token (token.f_text (token_pieces pieces)) spelling ∷ []
  tokens (name x) = name_token x ∷ []
  tokens (paren t) = within "(" (tokens t) ")"
  tokens (tuple ts comma) = within "(" (list_tokens ts ++ if_comma comma) ")"
  tokens (list ts comma) = within "[" (list_tokens ts ++ if_comma comma) "]"
  tokens (dict ps comma) = within "{" (pair_tokens ps ++ if_comma comma) "}"
  tokens (list_of item targets from tests) =
      within "[" (tokens item ++ word "for" ∷ (names_tokens targets ++ word "in" ∷ (tokens from ++ test_tokens tests))) "]"
  tokens (dict_of key item targets from tests) =
      within "{" (tokens key ++ mark ":" ∷ (tokens item ++ word "for" ∷ (names_tokens targets ++ word "in" ∷ (tokens from ++ test_tokens tests)))) "}"
  tokens (bare ts comma) = list_tokens ts ++ if_comma comma

  -- with commas between them; those behind the first, each with its comma
  pub list_tokens : Trees → List Token
  list_tokens none = []
  list_tokens (more t ts) = tokens t ++ later_tokens ts

  pub later_tokens : Trees → List Token
  later_tokens none = []
  later_tokens (more t ts) = mark "," ∷ (tokens t ++ later_tokens ts)

  pub argument_tokens : Arguments → List Token
  argument_tokens no_argument = []
  argument_tokens (positional t args) = tokens t ++ later_argument_tokens args
  argument_tokens (keyword x t args) = name_token x ∷ mark "=" ∷ (tokens t ++ later_argument_tokens args)

  pub later_argument_tokens : Arguments → List Token
  later_argument_tokens no_argument = []
  later_argument_tokens (positional t args) = mark "," ∷ (tokens t ++ later_argument_tokens args)
  later_argument_tokens (keyword x t args) = mark "," ∷ name_token x ∷ mark "=" ∷ (tokens t ++ later_argument_tokens args)

  pub pair_tokens : Pairs → List Token
  pair_tokens no_pair = []
  pair_tokens (pair key item ps) = tokens key ++ mark ":" ∷ (tokens item ++ later_pair_tokens ps)

  pub later_pair_tokens : Pairs → List Token
  later_pair_tokens no_pair = []
  later_pair_tokens (pair key item ps) = mark "," ∷ (tokens key ++ mark ":" ∷ (tokens item ++ later_pair_tokens ps))

  -- each with its comparison before it
  pub link_tokens : Links → List Token
  link_tokens done = []
  link_tokens (link c t links) = comparison_tokens c ++ (tokens t ++ link_tokens links)

  -- each with `if` before it
  pub test_tokens : Trees → List Token
  test_tokens none = []
  test_tokens (more t ts) = word "if" ∷ (tokens t ++ test_tokens ts)

  pub bound_tokens : Bound → List Token
  bound_tokens left_out = []
  bound_tokens (at t) = tokens t

  -- what an f-text's token is made of: a field has the tokens of its expression
  pub token_pieces : Pieces → token.Pieces
  token_pieces no_piece = token.no_piece
  token_pieces (characters cs ps) = token.piece (token.characters cs) (token_pieces ps)
  token_pieces (field t convert spec ps) = token.piece (token.field (tokens_of (tokens t)) convert spec) (token_pieces ps)
