use Rattle.std.proofs.Common.{◌≡◌, ◌-◌, ◌≤◌, []}
use Rattle.syntax_reading.specs.Items.{each}
use Rattle.syntax_reading.specs.Parts.{first_if}
use Rattle.syntax_reading.specs.Reading.{read}
use Rattle.syntax_reading.specs.Tables.{E2}
use Rattle.syntax_words.specs.WordView.{words_of}
use Rattle.expr_parser.specs.ListView.{trees, tests_on}
use Rattle.expr_parser.proofs.grammar.Grammar.tests.Given as goal

abbrev pub invariant-loop-turn : goal.invariant-loop-turn
invariant-loop-turn g l = record {
  value : each first_if (read l.self.below E2) l.fn.turns [] (words_of l.fn.words) ≡
      each first_if (read l.self.below E2) (l.turns - l._turn) (tests_on (trees l.found.items.items)) (words_of l.rest);
  shallow : l.found.depth ≤ l.self.below;
}
