-- A piece of an f-text more, and all of them.
use Rattle.std.proofs.Common.{List, ◌∙◌, ap, arith, sym, ◌+◌, drop, map}
use Rattle.std.proofs.lemmas.List.{at_drop_all}
use Rattle.py_tokens.specs.TokenView.{view_piece}
use Rattle.py_tree.specs.declared.expr.TextPiece.{TextPiece}
use Rattle.py_tree.specs.ExprView.{view_pieces}
use Rattle.syntax_form.specs.Depth.{piece_depth}
use Rattle.syntax_form.specs.Printing.{token_pieces}
use Rattle.expr_tokens.proofs.FieldDepths.{next_piece, piece_depth-view_piece}
use Rattle.expr_tokens.proofs.Pieces.{put_before, put_next, put_all}
use Rattle.expr_tokens.proofs.printing.+print.Goals as goal

pub pieces_of-loop-piece-preserved : goal.pieces_of-loop-piece-preserved
pieces_of-loop-piece-preserved t c =
    let pieces = c.args.pieces.now in
    let i = c.loop-piece.piece-index in
    let piece = c.piece-item.result in
    let rest = view_pieces (drop (i + 1) pieces) in
    let old = c.loop-piece.printed.items in
    let at = next_piece pieces i piece c.loop-piece-test.true c.piece-item.is in
    record {
      pieces =
          put_next old c.push.new.self.items c.in_ok-piece_of.field-0 (token_pieces rest) c.in_ok-push.ensures.items
          ∙ ap (put_before (map view_piece old)) (sym (c.in_ok-piece_of.ensures rest) ∙ ap token_pieces (sym at))
          ∙ c.loop-piece.invariant.pieces;
      depth = omega (arith, ap piece_depth at, piece_depth-view_piece piece rest, c.loop-piece.invariant.depth);
    }

pub pieces_of-returns : goal.pieces_of-returns
pieces_of-returns t c =
    let printed = map view_piece c.loop-piece.printed.items in
    let before = λ (ps : List TextPiece). put_before printed (token_pieces (view_pieces ps)) in
    sym (put_all printed) ∙ sym (at_drop_all before c.args.pieces.now c.loop-piece.piece-index c.loop-piece-test.false)
    ∙ c.loop-piece.invariant.pieces
