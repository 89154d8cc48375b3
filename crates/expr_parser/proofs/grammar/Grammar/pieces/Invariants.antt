use Rattle.std.proofs.Common.{◌≡◌, ◌+◌, ◌≤◌, drop, option_map}
use Rattle.py_tokens.specs.TokenView.{view_piece_list}
use Rattle.syntax_reading.specs.Reading.{parts, read}
use Rattle.expr_parser.specs.TextView.{seen_texts, put_all}
use Rattle.expr_parser.proofs.grammar.Grammar.pieces.Given as goal

abbrev pub invariant-loop-piece : goal.invariant-loop-piece
invariant-loop-piece g l = record {
  value : parts (read l.self.below) (l.self.below + 1) (view_piece_list l.pieces) ≡
      option_map (put_all (seen_texts l.found.items.items)) (parts (read l.self.below) (l.self.below + 1) (view_piece_list (drop l.piece-index l.pieces)));
  shallow : l.found.depth ≤ l.self.below;
}
