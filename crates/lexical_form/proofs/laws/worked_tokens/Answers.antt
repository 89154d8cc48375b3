-- Each row is computed.
use lib.Utf8.{encode}
use Rattle.std.proofs.Common.{refl}
use Rattle.std.specs.Str.{is_utf8, chars}
use Rattle.lexical_form.specs.WorkedTokens.{number_rows, word_rows, text_rows, f_text_rows}
use Rattle.lexical_form.proofs.WorkedRows.{all_answers}
use Rattle.lexical_form.proofs.laws.worked_tokens.Goals as goal

pub returns-clause-numbers : goal.returns-clause-numbers
unfolding is_utf8 chars encode
returns-clause-numbers c = all_answers number_rows refl refl

pub returns-clause-words : goal.returns-clause-words
unfolding is_utf8 chars encode
returns-clause-words c = all_answers word_rows refl refl

pub returns-clause-texts : goal.returns-clause-texts
unfolding is_utf8 chars encode
returns-clause-texts c = all_answers text_rows refl refl

pub returns-clause-f_texts : goal.returns-clause-f_texts
unfolding is_utf8 chars encode
returns-clause-f_texts c = all_answers f_text_rows refl refl

pub returns-clause-escapes : goal.returns-clause-escapes
returns-clause-escapes c = refl
