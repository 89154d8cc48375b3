-- Each row is computed.
use lib.Utf8.{encode}
use Rattle.std.proofs.Common.{refl}
use Rattle.std.specs.Str.{is_utf8, chars}
use Rattle.syntax_reading.specs.Words.{word_of}
use Rattle.syntax_reading.specs.Items.{items, each}
use Rattle.syntax_reading.specs.Reading.{clause, round, square, brace, parts, atom, tailed, tails, postfix, powers, prefixes, turns, operations, compared, whole, read}
use Rattle.syntax_reading.specs.LinePieces.{closed_values, piece, pieces}
use Rattle.syntax_reading.specs.LineReading.{first_form}
use Rattle.syntax_reading.specs.WorkedLines.{value_rows, assignment_rows, block_rows, other_rows, deep_rows}
use Rattle.syntax_reading.proofs.WorkedRows.{are_lines}
use Rattle.syntax_reading.proofs.worked.worked_lines.Goals as goal

pub returns-clause-values : goal.returns-clause-values
unfolding is_utf8 chars encode word_of items each clause round square brace parts atom tailed tails postfix powers prefixes turns operations compared whole read closed_values piece pieces first_form
returns-clause-values c = are_lines value_rows refl

pub returns-clause-assignments : goal.returns-clause-assignments
unfolding is_utf8 chars encode word_of items each clause round square brace parts atom tailed tails postfix powers prefixes turns operations compared whole read closed_values piece pieces first_form
returns-clause-assignments c = are_lines assignment_rows refl

pub returns-clause-blocks : goal.returns-clause-blocks
unfolding is_utf8 chars encode word_of items each clause round square brace parts atom tailed tails postfix powers prefixes turns operations compared whole read closed_values piece pieces first_form
returns-clause-blocks c = are_lines block_rows refl

pub returns-clause-others : goal.returns-clause-others
unfolding is_utf8 chars encode word_of items each clause round square brace parts atom tailed tails postfix powers prefixes turns operations compared whole read closed_values piece pieces first_form
returns-clause-others c = are_lines other_rows refl

pub returns-clause-depths : goal.returns-clause-depths
unfolding is_utf8 chars encode word_of items each clause round square brace parts atom tailed tails postfix powers prefixes turns operations compared whole read closed_values piece pieces first_form
returns-clause-depths c = are_lines deep_rows refl
