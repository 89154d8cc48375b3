use Rattle.std.proofs.Common.{◌≡◌, drop}
use Rattle.lexical_form.specs.Readable.{is_readable}
use Rattle.py_lexer.proofs.file_text.is_readable.Given as goal

abbrev pub invariant-loop-i : goal.invariant-loop-i
invariant-loop-i l = is_readable (drop l.i l.bytes) ≡ is_readable l.bytes
