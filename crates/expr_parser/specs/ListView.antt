-- What is listed in expressions, seen as the reader's lists of it.
use Rattle.std.specs.Prelude.{Bool, true, false, List, [], ◌∷◌, map, Option, Some, None}
use Rattle.py_tree.specs.Names.{Name}
use Rattle.py_tree.specs.ExprView.{view, view_comparison}
use Rattle.py_tree.specs.Expressions.{Comparison, Tree, chain}
use Rattle.py_tree.specs.declared.expr.Argument as code
use Rattle.py_tree.specs.declared.expr.Argument.TheOpen.{Argument-F}
use Rattle.py_tree.specs.declared.expr.Expr.{Expr}
use Rattle.py_tree.specs.declared.expr.Link.{Link, out-Link}
use Rattle.py_tree.specs.declared.expr.Pair.{Pair, out-Pair}
use Rattle.py_tree.specs.declared.expr.TextPiece.{TextPiece}
use Rattle.syntax_reading.specs.Parts.{Argument, plain, named, links_of}

abbrev pub trees : List Expr → List Tree
trees es = map view es

abbrev pub argument_form : Argument-F code.Argument Expr TextPiece Link Pair → Argument
argument_form (Argument-F.Positional e) = plain (view e)
argument_form (Argument-F.Keyword x e) = named x (view e)

-- an argument of a name, where it has one, and a value
abbrev pub argument_of : Option Name → Tree → Argument
argument_of None t = plain t
argument_of (Some x) t = named x t

abbrev pub seen_argument : code.Argument → Argument
seen_argument a = argument_form (code.out-Argument a)

abbrev pub seen_arguments : List code.Argument → List Argument
seen_arguments args = map seen_argument args

-- whether one has a name, of arguments with one more behind them; none where those without a name would stand behind it
abbrev pub named_behind : Bool → Argument → Option Bool
named_behind given (named x t) = Some true
named_behind false (plain t) = Some false
named_behind true (plain t) = None

abbrev pub seen_pair : Pair → Tree × Tree
seen_pair p = (view (out-Pair p).key, view (out-Pair p).item)

abbrev pub seen_pairs : List Pair → List (Tree × Tree)
seen_pairs ps = map seen_pair ps

abbrev pub seen_link : Link → Comparison × Tree
seen_link l = (view_comparison (out-Link l).comparison, view (out-Link l).operand)

abbrev pub seen_links : List Link → List (Comparison × Tree)
seen_links ls = map seen_link ls

-- tests, each behind an `if`
abbrev pub tests_on : List Tree → List (Unit {0} × Tree)
tests_on ts = map (λ t. (tt, t)) ts

-- an operand with links behind it, if there are any
abbrev pub chain_of : Tree → List (Comparison × Tree) → Tree
chain_of t [] = t
chain_of t (l ∷ ls) = chain t l.0 l.1 (links_of ls)
