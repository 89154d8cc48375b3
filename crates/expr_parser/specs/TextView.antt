-- Pieces of f-texts, seen as what they put before the pieces behind them.
use Rattle.std.specs.Prelude.{ℕ, List, [], ◌∷◌, map, Option, option_map}
use Rattle.py_tree.specs.ExprView.{view}
use Rattle.py_tree.specs.Expressions.{Tree, Pieces, characters, field}
use Rattle.py_tree.specs.FieldFormats.{Convert, Spec}
use Rattle.py_tree.specs.FieldView.{view_convert, view_spec}
use Rattle.py_tree.specs.declared.expr.Argument.{Argument}
use Rattle.py_tree.specs.declared.expr.Argument.TheOpen.{TextPiece-F}
use Rattle.py_tree.specs.declared.expr.Expr.{Expr}
use Rattle.py_tree.specs.declared.expr.Link.{Link}
use Rattle.py_tree.specs.declared.expr.Pair.{Pair}
use Rattle.py_tree.specs.declared.expr.TextPiece.{TextPiece, out-TextPiece}

-- characters, or a field
pub data Text : Type 0 where
  plain : List ℕ → Text
  filled : Tree → Convert → Option Spec → Text

abbrev pub put : Text → Pieces → Pieces
put (plain cs) rest = characters cs rest
put (filled t convert spec) rest = field t convert spec rest

abbrev pub put_all : List Text → Pieces → Pieces
put_all [] rest = rest
put_all (t ∷ ts) rest = put t (put_all ts rest)

abbrev pub text_form : TextPiece-F Argument Expr TextPiece Link Pair → Text
text_form (TextPiece-F.Chars cs) = plain cs
text_form (TextPiece-F.Field e convert spec) = filled (view e) (view_convert convert) (option_map view_spec spec)

abbrev pub seen_text : TextPiece → Text
seen_text p = text_form (out-TextPiece p)

abbrev pub seen_texts : List TextPiece → List Text
seen_texts ps = map seen_text ps
