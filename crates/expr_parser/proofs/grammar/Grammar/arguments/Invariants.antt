use Rattle.std.proofs.Common.{◌≡◌, ◌+◌, ◌-◌, ◌≤◌}
use Rattle.syntax_reading.specs.Items.{items}
use Rattle.syntax_reading.specs.Reading.{argument, read}
use Rattle.syntax_reading.specs.Words.{round_close}
use Rattle.syntax_reading.specs.Readers.{by}
use Rattle.syntax_words.specs.WordView.{words_of}
use Rattle.expr_parser.specs.ListView.{seen_arguments}
use Rattle.expr_parser.proofs.grammar.Grammar.arguments.Given as goal

abbrev pub invariant-loop-turn : goal.invariant-loop-turn
invariant-loop-turn g l = record {
  value : items (argument (read l.self.below) (l.self.below + 1)) (by round_close) l.fn.turns (seen_arguments l.fn.before.items.items) (words_of l.fn.words) ≡
      items (argument (read l.self.below) (l.self.below + 1)) (by round_close) (l.turns - l._turn) (seen_arguments l.found.items.items) (words_of l.rest);
  shallow : l.found.depth ≤ l.self.below;
}
