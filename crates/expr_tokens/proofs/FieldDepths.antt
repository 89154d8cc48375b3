-- How deep the pieces of an f-text are, piece by piece.
use Rattle.std.proofs.Common.{◌≡◌, ◌∙◌, ℕ, suc, ◌+◌, ◌<◌, max, arith, List, ◌∷◌, sym, subst, ap, add-one, drop, get_or, length}
use Rattle.std.proofs.Math.Seq.{drop-cons}
use Rattle.py_tree.specs.declared.expr.Argument.{Argument}
use Rattle.py_tree.specs.declared.expr.Argument.TheOpen.{TextPiece-F}
use Rattle.py_tree.specs.declared.expr.Expr.{Expr}
use Rattle.py_tree.specs.declared.expr.Link.{Link}
use Rattle.py_tree.specs.declared.expr.Pair.{Pair}
use Rattle.py_tree.specs.declared.expr.TextPiece.{TextPiece, out-TextPiece, roll-TextPiece, roll-out-TextPiece, fold-roll-TextPiece}
use Rattle.py_tree.specs.ExprView.{view_piece, view_pieces, argument_step, expr_step, piece_step, link_step, pair_step}
use Rattle.py_tree.specs.Expressions.{Tree, Pieces, no_piece}
use Rattle.syntax_form.specs.Depth.{piece_depth}

-- what a piece puts before others is as deep as the deeper of the two
Deeper : (Pieces → Pieces) → Type 0
Deeper put = (rest : Pieces) → piece_depth (put rest) ≡ max (piece_depth (put no_piece)) (piece_depth rest)

layer_depth : (y : TextPiece-F Argument Expr TextPiece Link Pair) → Deeper (view_piece (roll-TextPiece y))
unfolding Deeper
layer_depth (TextPiece-F.Chars cs) =
    subst Deeper (sym (fold-roll-TextPiece _ Tree _ _ _ argument_step expr_step piece_step link_step pair_step (TextPiece-F.Chars cs))) (λ rest. omega arith)
layer_depth (TextPiece-F.Field e c s) =
    subst Deeper (sym (fold-roll-TextPiece _ Tree _ _ _ argument_step expr_step piece_step link_step pair_step (TextPiece-F.Field e c s))) (λ rest. omega arith)

pub piece_depth-view_piece : (p : TextPiece) (rest : Pieces) → piece_depth (view_piece p rest) ≡ max (piece_depth (view_piece p no_piece)) (piece_depth rest)
unfolding Deeper
piece_depth-view_piece p = subst (λ q. Deeper (view_piece q)) (roll-out-TextPiece p) (layer_depth (out-TextPiece p))

-- what is left of pieces begins with the next one
pub next_piece : (ps : List TextPiece) (i : ℕ) (p : TextPiece) → i < length ps → p ≡ get_or ps i p
    → view_pieces (drop i ps) ≡ view_piece p (view_pieces (drop (i + 1) ps))
next_piece ps i p lt is = ap view_pieces (drop-cons ps i p lt ∙ (λ j. sym is j ∷ drop (suc i) ps) ∙ ap (λ n. p ∷ drop n ps) (sym (add-one i)))
