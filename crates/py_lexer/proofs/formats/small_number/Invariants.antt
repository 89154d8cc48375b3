use Rattle.std.proofs.Common.{◌≡◌, ◌≤◌, drop}
use Rattle.std.specs.Prelude.{fold}
use Rattle.lexical_form.specs.Numbers.{number_of}
use Rattle.py_lexer.proofs.NumberLoop.{number_step}
use Rattle.py_lexer.proofs.formats.small_number.Given as goal

abbrev pub invariant-loop-digit : goal.invariant-loop-digit
invariant-loop-digit l = record {
  same : fold number_step l.number (drop l.digit-index l.digits) ≡ number_of l.digits;
  small : l.number ≤ 2255;
}
