use Rattle.std.proofs.Common.{◌≡◌, ap, ◌∙◌, arith}
use Rattle.syntax_reading.specs.Reading.{read}
use Rattle.syntax_words.specs.TableView.{view_level}
use Rattle.syntax_words.specs.WordView.{words_of}
use Rattle.expr_parser.proofs.Turns.{read_none, read_is}
use Rattle.expr_parser.proofs.grammar.+read.Goals as goal

pub returns-then-room-eq0-clause-value : goal.returns-then-room-eq0-clause-value
returns-then-room-eq0-clause-value t c =
    let none : c.args.room ≡ 0 = omega arith in
    ap (λ n. read n (view_level c.args.level) (words_of c.args.words)) none ∙ read_none (view_level c.args.level) (words_of c.args.words)

pub returns-clause-value : goal.returns-clause-value
returns-clause-value t c = rw (read_is c.args.room (view_level c.args.level) (words_of c.args.words) (omega arith)) c.at_level.ensures.value
