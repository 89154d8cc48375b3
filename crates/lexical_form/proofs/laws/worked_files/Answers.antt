-- Each row is computed.
use lib.Utf8.{encode}
use Rattle.std.proofs.Common.{refl}
use Rattle.std.specs.Str.{is_utf8, chars}
use Rattle.std.specs.Str.Lossy.{utf8_valid_len}
use Rattle.lexical_form.specs.Answer.{accepted}
use Rattle.lexical_form.specs.WorkedFiles.{line_rows, refused_rows, bytes_rows}
use Rattle.lexical_form.specs.WorkedNotebook.{notebook_file, notebook_lines}
use Rattle.lexical_form.proofs.WorkedRows.{answer_is, all_answers, all_no_utf8}
use Rattle.lexical_form.proofs.laws.worked_files.Goals as goal

pub returns-clause-notebook : goal.returns-clause-notebook
unfolding is_utf8 chars encode
returns-clause-notebook c = answer_is notebook_file (accepted notebook_lines) refl refl

pub returns-clause-lines : goal.returns-clause-lines
unfolding is_utf8 chars encode
returns-clause-lines c = all_answers line_rows refl refl

pub returns-clause-refused : goal.returns-clause-refused
unfolding is_utf8 chars encode
returns-clause-refused c = all_answers refused_rows refl refl

pub returns-clause-bytes : goal.returns-clause-bytes
unfolding is_utf8 chars encode utf8_valid_len
returns-clause-bytes c = all_no_utf8 bytes_rows refl
