use Rattle.std.proofs.Common.{◌≡◌, drop}
use Rattle.py_lexer.specs.Clean.{is_clean}
use Rattle.py_lexer.proofs.file_text.holds_nothing_odd.Given as goal

abbrev pub invariant-loop-i : goal.invariant-loop-i
invariant-loop-i l = is_clean (drop l.i l.bytes) ≡ is_clean l.bytes
