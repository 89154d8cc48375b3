-- Ends of slices, seen as pure data.
use Rattle.std.specs.Prelude.{Option, option_map}
use Rattle.py_tree.specs.ExprView.{view, bound_of}
use Rattle.py_tree.specs.Expressions.{Bound}
use Rattle.py_tree.specs.declared.expr.Expr.{Expr}

abbrev pub bound : Option Expr → Bound
bound e = bound_of (option_map view e)
