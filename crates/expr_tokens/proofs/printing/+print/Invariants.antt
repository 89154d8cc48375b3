-- What is left of a list comes behind what is there; and what falls.
use Rattle.std.proofs.Common.{◌≡◌, ◌+◌, ◌*◌, ◌++◌, ◌≤◌, drop, map}
use Rattle.py_tokens.specs.TokenView.{view_token, view_piece}
use Rattle.py_tree.specs.ExprView.{view, view_pieces}
use Rattle.py_tree.specs.ExprView.{view_piece as view_text_piece}
use Rattle.py_tree.specs.Expressions.{no_piece}
use Rattle.syntax_form.specs.Depth.{depth, piece_depth}
use Rattle.syntax_form.specs.Printing.{tokens, token_pieces}
use Rattle.expr_tokens.specs.Parts.{parts_tokens, parts_depth, part_depth}
use Rattle.expr_tokens.proofs.Pieces.{put_before}
use Rattle.expr_tokens.proofs.printing.+print.Given as goal

abbrev pub invariant-push_expr-loop-part : goal.invariant-push_expr-loop-part
invariant-push_expr-loop-part l =
    let rest = drop l.part-index l.part-items in
    record {
      tokens : map view_token l.printed.items ++ parts_tokens rest ≡ map view_token l.fn.printed.items ++ tokens (view l.expr);
      depth : parts_depth rest + 1 ≤ depth (view l.expr);
    }

abbrev pub invariant-pieces_of-loop-piece : goal.invariant-pieces_of-loop-piece
invariant-pieces_of-loop-piece l =
    let rest = view_pieces (drop l.piece-index l.pieces) in
    record {
      pieces : put_before (map view_piece l.printed.items) (token_pieces rest) ≡ token_pieces (view_pieces l.pieces);
      depth : piece_depth rest ≤ piece_depth (view_pieces l.pieces);
    }

abbrev pub decreases-tokens_of_expr : goal.decreases-tokens_of_expr
decreases-tokens_of_expr l = 5 * depth (view l.expr.now) + 1

abbrev pub decreases-push_expr : goal.decreases-push_expr
decreases-push_expr l = 5 * depth (view l.expr.now)

abbrev pub decreases-push_part : goal.decreases-push_part
decreases-push_part l = 5 * part_depth l.part + 4

abbrev pub decreases-pieces_of : goal.decreases-pieces_of
decreases-pieces_of l = 5 * piece_depth (view_pieces l.pieces.now) + 3

abbrev pub decreases-piece_of : goal.decreases-piece_of
decreases-piece_of l = 5 * piece_depth (view_text_piece l.piece.now no_piece) + 2
