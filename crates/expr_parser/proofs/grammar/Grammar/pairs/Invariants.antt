use Rattle.std.proofs.Common.{◌≡◌, ◌+◌, ◌-◌, ◌≤◌}
use Rattle.syntax_reading.specs.Items.{items}
use Rattle.syntax_reading.specs.Reading.{key_item, read}
use Rattle.syntax_reading.specs.Words.{brace_close}
use Rattle.syntax_reading.specs.Readers.{by}
use Rattle.syntax_words.specs.WordView.{words_of}
use Rattle.expr_parser.specs.ListView.{seen_pairs}
use Rattle.expr_parser.proofs.grammar.Grammar.pairs.Given as goal

abbrev pub invariant-loop-turn : goal.invariant-loop-turn
invariant-loop-turn g l = record {
  value : items (key_item (read l.self.below) (l.self.below + 1)) (by brace_close) l.fn.turns (seen_pairs l.fn.before.items.items) (words_of l.fn.words) ≡
      items (key_item (read l.self.below) (l.self.below + 1)) (by brace_close) (l.turns - l._turn) (seen_pairs l.found.items.items) (words_of l.rest);
  shallow : l.found.depth ≤ l.self.below;
}
