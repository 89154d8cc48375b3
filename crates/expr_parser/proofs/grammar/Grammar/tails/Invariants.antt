use Rattle.std.proofs.Common.{◌≡◌, ◌+◌, ◌-◌, ◌≤◌}
use Rattle.py_tree.specs.ExprView.{view}
use Rattle.syntax_reading.specs.Reading.{read, tails}
use Rattle.syntax_words.specs.WordView.{words_of}
use Rattle.expr_parser.proofs.grammar.Grammar.tails.Given as goal

abbrev pub invariant-loop-turn : goal.invariant-loop-turn
invariant-loop-turn g l = record {
  value : tails (read l.self.below) (l.self.below + 1) (l.self.below + 1) (view l.fn.first.expr) (words_of l.fn.words) ≡
      tails (read l.self.below) (l.self.below + 1) (l._turn-end - l._turn) (view l.part.expr) (words_of l.rest);
  shallow : l.part.depth ≤ l.self.below + 1;
}
