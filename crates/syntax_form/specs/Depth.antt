-- How deep expressions are: 1 for a leaf, and for another tree one more than its deepest part.
use Rattle.std.specs.Prelude.{ℕ, ◌+◌, max}
use Rattle.py_tree.specs.Expressions.{Tree, conditional, binary, prefixed, chain, is_none, power, call, index, slice, attribute, literal, f_text, name, paren, tuple, list, dict, list_of, dict_of, bare}
use Rattle.py_tree.specs.Expressions.{Trees, none, more, Links, done, link, Arguments, no_argument, positional, keyword, Pairs, no_pair, pair, Bound, left_out, at, Pieces, no_piece, characters, field}

-- the greatest depth of an expression of the language
abbrev pub depth_limit : ℕ
depth_limit = 64

abbrev mutual
  pub depth : Tree → ℕ
  depth (conditional value test other) = max (depth value) (max (depth test) (depth other)) + 1
  depth (binary op left right) = max (depth left) (depth right) + 1
  depth (prefixed op t) = depth t + 1
  depth (chain t c u links) = max (depth t) (max (depth u) (link_depth links)) + 1
  depth (is_none negated t) = depth t + 1
  depth (power base exponent) = max (depth base) (depth exponent) + 1
  depth (call callee args comma) = max (depth callee) (argument_depth args) + 1
  depth (index base position) = max (depth base) (depth position) + 1
  depth (slice base from until) = max (depth base) (max (bound_depth from) (bound_depth until)) + 1
  depth (attribute base x) = depth base + 1
  depth (literal t) = 1
  depth (f_text spelling pieces) = piece_depth pieces + 1
  depth (name x) = 1
  depth (paren t) = depth t + 1
  depth (tuple ts comma) = list_depth ts + 1
  depth (list ts comma) = list_depth ts + 1
  depth (dict ps comma) = pair_depth ps + 1
  depth (list_of item targets from tests) = max (depth item) (max (depth from) (list_depth tests)) + 1
  depth (dict_of key item targets from tests) = max (depth key) (max (depth item) (max (depth from) (list_depth tests))) + 1
  depth (bare ts comma) = list_depth ts + 1

  -- of the deepest, 0 where there is none
  pub list_depth : Trees → ℕ
  list_depth none = 0
  list_depth (more t ts) = max (depth t) (list_depth ts)

  pub link_depth : Links → ℕ
  link_depth done = 0
  link_depth (link c t links) = max (depth t) (link_depth links)

  pub argument_depth : Arguments → ℕ
  argument_depth no_argument = 0
  argument_depth (positional t args) = max (depth t) (argument_depth args)
  argument_depth (keyword x t args) = max (depth t) (argument_depth args)

  pub pair_depth : Pairs → ℕ
  pair_depth no_pair = 0
  pair_depth (pair key item ps) = max (depth key) (max (depth item) (pair_depth ps))

  pub bound_depth : Bound → ℕ
  bound_depth left_out = 0
  bound_depth (at t) = depth t

  -- of the deepest field
  pub piece_depth : Pieces → ℕ
  piece_depth no_piece = 0
  piece_depth (characters cs ps) = piece_depth ps
  piece_depth (field t convert spec ps) = max (depth t) (piece_depth ps)
