use Rattle.std.proofs.Common.{◌≡◌, ◌-◌, ◌≤◌, []}
use Rattle.syntax_reading.specs.Items.{each}
use Rattle.syntax_reading.specs.Parts.{first_comparison}
use Rattle.syntax_reading.specs.Reading.{read}
use Rattle.syntax_reading.specs.Tables.{E6}
use Rattle.syntax_words.specs.WordView.{words_of}
use Rattle.expr_parser.specs.ListView.{seen_links}
use Rattle.expr_parser.proofs.grammar.Grammar.links.Given as goal

abbrev pub invariant-loop-turn : goal.invariant-loop-turn
invariant-loop-turn g l = record {
  value : each first_comparison (read l.self.below E6) l.fn.turns [] (words_of l.fn.words) ≡
      each first_comparison (read l.self.below E6) (l.turns - l._turn) (seen_links l.found.items.items) (words_of l.rest);
  shallow : l.found.depth ≤ l.self.below;
}
