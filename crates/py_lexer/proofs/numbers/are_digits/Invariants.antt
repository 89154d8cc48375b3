use Rattle.std.proofs.Common.{◌≡◌, drop, false}
use Rattle.lexical_form.specs.Numbers.{are_digits}
use Rattle.py_lexer.proofs.numbers.are_digits.Given as goal

abbrev pub invariant-loop-byte : goal.invariant-loop-byte
invariant-loop-byte l = are_digits l.digit (drop l.byte-index l.bytes) ≡ are_digits false l.bytes
