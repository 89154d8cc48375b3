use Rattle.std.proofs.Common.{◌≡◌, drop}
use Rattle.std.specs.Prelude.{fold}
use Rattle.lexical_form.specs.Numbers.{number_of}
use Rattle.py_lexer.proofs.NumberLoop.{number_step}
use Rattle.py_lexer.proofs.numbers.small_number.Given as goal

abbrev pub invariant-loop-byte : goal.invariant-loop-byte
invariant-loop-byte l = fold number_step l.number (drop l.byte-index l.bytes) ≡ number_of l.bytes
