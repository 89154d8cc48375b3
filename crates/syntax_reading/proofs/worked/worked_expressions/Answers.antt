-- Each row is computed.
use lib.Utf8.{encode}
use Rattle.std.proofs.Common.{refl}
use Rattle.std.specs.Str.{is_utf8, chars}
use Rattle.syntax_reading.specs.Words.{word_of}
use Rattle.syntax_reading.specs.Items.{items, each}
use Rattle.syntax_reading.specs.Reading.{clause, round, square, brace, parts, atom, tailed, tails, postfix, powers, prefixes, turns, operations, compared, whole, read}
use Rattle.syntax_reading.specs.WorkedExpressions.{operator_rows, comparison_rows, conditional_rows, postfix_rows, leaf_rows, bracket_rows, comprehension_rows, f_text_rows, depth_rows}
use Rattle.syntax_reading.proofs.WorkedRows.{are_expressions}
use Rattle.syntax_reading.proofs.worked.worked_expressions.Goals as goal

pub returns-clause-operators : goal.returns-clause-operators
unfolding is_utf8 chars encode word_of items each clause round square brace parts atom tailed tails postfix powers prefixes turns operations compared whole read
returns-clause-operators c = are_expressions operator_rows refl

pub returns-clause-comparisons : goal.returns-clause-comparisons
unfolding is_utf8 chars encode word_of items each clause round square brace parts atom tailed tails postfix powers prefixes turns operations compared whole read
returns-clause-comparisons c = are_expressions comparison_rows refl

pub returns-clause-conditionals : goal.returns-clause-conditionals
unfolding is_utf8 chars encode word_of items each clause round square brace parts atom tailed tails postfix powers prefixes turns operations compared whole read
returns-clause-conditionals c = are_expressions conditional_rows refl

pub returns-clause-postfixes : goal.returns-clause-postfixes
unfolding is_utf8 chars encode word_of items each clause round square brace parts atom tailed tails postfix powers prefixes turns operations compared whole read
returns-clause-postfixes c = are_expressions postfix_rows refl

pub returns-clause-leaves : goal.returns-clause-leaves
unfolding is_utf8 chars encode word_of items each clause round square brace parts atom tailed tails postfix powers prefixes turns operations compared whole read
returns-clause-leaves c = are_expressions leaf_rows refl

pub returns-clause-brackets : goal.returns-clause-brackets
unfolding is_utf8 chars encode word_of items each clause round square brace parts atom tailed tails postfix powers prefixes turns operations compared whole read
returns-clause-brackets c = are_expressions bracket_rows refl

pub returns-clause-comprehensions : goal.returns-clause-comprehensions
unfolding is_utf8 chars encode word_of items each clause round square brace parts atom tailed tails postfix powers prefixes turns operations compared whole read
returns-clause-comprehensions c = are_expressions comprehension_rows refl

pub returns-clause-f_texts : goal.returns-clause-f_texts
unfolding is_utf8 chars encode word_of items each clause round square brace parts atom tailed tails postfix powers prefixes turns operations compared whole read
returns-clause-f_texts c = are_expressions f_text_rows refl

pub returns-clause-depths : goal.returns-clause-depths
unfolding is_utf8 chars encode word_of items each clause round square brace parts atom tailed tails postfix powers prefixes turns operations compared whole read
returns-clause-depths c = are_expressions depth_rows refl
