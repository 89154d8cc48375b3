-- Expressions of the code, seen as pure data. What stands in a list of its own is seen as what it puts before the rest of that list.
use Rattle.std.specs.Prelude.{true, false, List, [], ◌∷◌, Option, Some, None, map, option_map}
use Rattle.py_tree.specs.Expressions as pure
use Rattle.py_tree.specs.Expressions.{Tree, Trees, trees_of, Links, Arguments, Pairs, Bound, Pieces}
use Rattle.py_tree.specs.FieldView.{view_convert, view_spec}
use Rattle.py_tree.specs.declared.expr.Comparison.{Comparison}
use Rattle.py_tree.specs.declared.expr.Comparison.TheVariants as comparison
use Rattle.py_tree.specs.declared.expr.Argument.{Argument, fold-Argument}
use Rattle.py_tree.specs.declared.expr.Argument.TheOpen.{Argument-F, Expr-F, Link-F, Pair-F, TextPiece-F}
use Rattle.py_tree.specs.declared.expr.Expr.{Expr, fold-Expr}
use Rattle.py_tree.specs.declared.expr.Link.{Link, fold-Link}
use Rattle.py_tree.specs.declared.expr.Pair.{Pair, fold-Pair}
use Rattle.py_tree.specs.declared.expr.TextPiece.{TextPiece, fold-TextPiece}

abbrev pub view_comparison : Comparison → pure.Comparison
view_comparison comparison.Equal = pure.Equal
view_comparison comparison.Unequal = pure.Unequal
view_comparison comparison.Less = pure.Less
view_comparison comparison.AtMost = pure.AtMost
view_comparison comparison.Greater = pure.Greater
view_comparison comparison.AtLeast = pure.AtLeast
view_comparison comparison.In = pure.In
view_comparison comparison.NotIn = pure.NotIn

abbrev pub links_of : List (Links → Links) → Links
links_of [] = pure.done
links_of (put ∷ rest) = put (links_of rest)

abbrev pub arguments_of : List (Arguments → Arguments) → Arguments
arguments_of [] = pure.no_argument
arguments_of (put ∷ rest) = put (arguments_of rest)

abbrev pub pairs_of : List (Pairs → Pairs) → Pairs
pairs_of [] = pure.no_pair
pairs_of (put ∷ rest) = put (pairs_of rest)

abbrev pub pieces_of : List (Pieces → Pieces) → Pieces
pieces_of [] = pure.no_piece
pieces_of (put ∷ rest) = put (pieces_of rest)

abbrev pub bound_of : Option Tree → Bound
bound_of None = pure.left_out
bound_of (Some t) = pure.at t

-- one layer of an expression, of which the parts are seen
abbrev pub OpenExpr : Type 0
OpenExpr = Expr-F (Arguments → Arguments) Tree (Pieces → Pieces) (Links → Links) (Pairs → Pairs)

abbrev pub expr_step : OpenExpr → Tree
expr_step (Expr-F.Conditional value test other) = pure.conditional value test other
expr_step (Expr-F.Or a b) = pure.binary pure.Or a b
expr_step (Expr-F.And a b) = pure.binary pure.And a b
expr_step (Expr-F.Not t) = pure.prefixed pure.Not t
expr_step (Expr-F.Chain t c u links) = pure.chain t (view_comparison c) u (links_of links)
expr_step (Expr-F.IsNone t) = pure.is_none false t
expr_step (Expr-F.IsNotNone t) = pure.is_none true t
expr_step (Expr-F.Add a b) = pure.binary pure.Add a b
expr_step (Expr-F.Subtract a b) = pure.binary pure.Subtract a b
expr_step (Expr-F.Multiply a b) = pure.binary pure.Multiply a b
expr_step (Expr-F.Floor a b) = pure.binary pure.Floor a b
expr_step (Expr-F.Remainder a b) = pure.binary pure.Remainder a b
expr_step (Expr-F.Minus t) = pure.prefixed pure.Minus t
expr_step (Expr-F.Plus t) = pure.prefixed pure.Plus t
expr_step (Expr-F.Power base exponent) = pure.power base exponent
expr_step (Expr-F.Call callee args comma) = pure.call callee (arguments_of args) comma
expr_step (Expr-F.Index base position) = pure.index base position
expr_step (Expr-F.Slice base from until) = pure.slice base (bound_of from) (bound_of until)
expr_step (Expr-F.Attribute base x) = pure.attribute base x
expr_step (Expr-F.Literal token) = pure.literal token
expr_step (Expr-F.FText spelling pieces) = pure.f_text spelling (pieces_of pieces)
expr_step (Expr-F.Name x) = pure.name x
expr_step (Expr-F.Paren t) = pure.paren t
expr_step (Expr-F.Tuple ts comma) = pure.tuple (trees_of ts) comma
expr_step (Expr-F.List ts comma) = pure.list (trees_of ts) comma
expr_step (Expr-F.Dict ps comma) = pure.dict (pairs_of ps) comma
expr_step (Expr-F.ListOf item targets from tests) = pure.list_of item targets from (trees_of tests)
expr_step (Expr-F.DictOf key item targets from tests) = pure.dict_of key item targets from (trees_of tests)
expr_step (Expr-F.Bare ts comma) = pure.bare (trees_of ts) comma

abbrev pub argument_step : Argument-F (Arguments → Arguments) Tree (Pieces → Pieces) (Links → Links) (Pairs → Pairs) → Arguments → Arguments
argument_step (Argument-F.Positional t) rest = pure.positional t rest
argument_step (Argument-F.Keyword x t) rest = pure.keyword x t rest

abbrev pub link_step : Link-F (Arguments → Arguments) Tree (Pieces → Pieces) (Links → Links) (Pairs → Pairs) → Links → Links
link_step l rest = pure.link (view_comparison l.comparison) l.operand rest

abbrev pub pair_step : Pair-F (Arguments → Arguments) Tree (Pieces → Pieces) (Links → Links) (Pairs → Pairs) → Pairs → Pairs
pair_step p rest = pure.pair p.key p.item rest

abbrev pub piece_step : TextPiece-F (Arguments → Arguments) Tree (Pieces → Pieces) (Links → Links) (Pairs → Pairs) → Pieces → Pieces
piece_step (TextPiece-F.Chars cs) rest = pure.characters cs rest
piece_step (TextPiece-F.Field t c s) rest = pure.field t (view_convert c) (option_map view_spec s) rest

abbrev pub view : Expr → Tree
view = fold-Expr (Arguments → Arguments) Tree (Pieces → Pieces) (Links → Links) (Pairs → Pairs) argument_step expr_step piece_step link_step pair_step

abbrev pub view_argument : Argument → Arguments → Arguments
view_argument = fold-Argument (Arguments → Arguments) Tree (Pieces → Pieces) (Links → Links) (Pairs → Pairs) argument_step expr_step piece_step link_step pair_step

abbrev pub view_link : Link → Links → Links
view_link = fold-Link (Arguments → Arguments) Tree (Pieces → Pieces) (Links → Links) (Pairs → Pairs) argument_step expr_step piece_step link_step pair_step

abbrev pub view_pair : Pair → Pairs → Pairs
view_pair = fold-Pair (Arguments → Arguments) Tree (Pieces → Pieces) (Links → Links) (Pairs → Pairs) argument_step expr_step piece_step link_step pair_step

abbrev pub view_piece : TextPiece → Pieces → Pieces
view_piece = fold-TextPiece (Arguments → Arguments) Tree (Pieces → Pieces) (Links → Links) (Pairs → Pairs) argument_step expr_step piece_step link_step pair_step

abbrev pub views : List Expr → Trees
views es = trees_of (map view es)

abbrev pub view_arguments : List Argument → Arguments
view_arguments args = arguments_of (map view_argument args)

abbrev pub view_links : List Link → Links
view_links links = links_of (map view_link links)

abbrev pub view_pairs : List Pair → Pairs
view_pairs ps = pairs_of (map view_pair ps)

abbrev pub view_pieces : List TextPiece → Pieces
view_pieces ps = pieces_of (map view_piece ps)
