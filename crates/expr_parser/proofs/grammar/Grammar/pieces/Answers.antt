use Rattle.std.proofs.Common.{◌≡◌, ◌+◌, ◌≤◌, drop, ◌∷◌, Some, option_map, sym, ap, ◌∙◌}
use Rattle.py_tokens.specs.TokenView.{view_piece, view_piece_list}
use Rattle.syntax_reading.specs.Reading.{parts, read}
use Rattle.syntax_reading.specs.Tables.{E1}
use Rattle.expr_parser.specs.Forms.{with_piece}
use Rattle.expr_parser.specs.TextView.{seen_texts, put_all}
use Rattle.expr_parser.proofs.Walks.{dropped, on_texts, piece_on}
use Rattle.expr_parser.proofs.grammar.Grammar.pieces.Goals as goal

pub loop-piece-preserved : goal.loop-piece-preserved
loop-piece-preserved g c =
    let b = c.args.self.now.below in
    let pieces = c.args.pieces.now in
    let i = c.loop-piece.piece-index in
    let piece = c.piece-item.result in
    let before = seen_texts c.loop-piece.found.items.items in
    let after = view_piece_list (drop (i + 1) pieces) in
    let left : drop i pieces ≡ piece ∷ drop (i + 1) pieces = dropped pieces i piece c.loop-piece-test.true c.piece-item.is in
    let one : Some (seen_texts c.in-Some.longer.items.items) ≡ with_piece (read b E1) before (view_piece piece) = rw c.in-Some.is at c.in_ok-longer.ensures.value in
    let h : c.in-Some.longer.depth ≤ b = rw c.in-Some.is at c.in_ok-longer.ensures.shallow in
    record {
      value = c.loop-piece.invariant.value
          ∙ (ap (λ ps. option_map (put_all before) (parts (read b) (b + 1) (view_piece_list ps))) left
          ∙ (piece_on (read b) (b + 1) before (view_piece piece) after ∙ ap (λ o. on_texts o (parts (read b) (b + 1) after)) (sym one)));
      shallow = h;
    }
