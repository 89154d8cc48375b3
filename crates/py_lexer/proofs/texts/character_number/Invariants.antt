-- The digits that are left make the number of all, and it was small before each.
use Rattle.std.proofs.Common.{◌≡◌, ◌≤◌, drop}
use Rattle.std.specs.Prelude.{fold}
use Rattle.lexical_form.specs.Bytes.{hex_number}
use Rattle.py_lexer.proofs.HexNumbers.{hex_step}
use Rattle.py_lexer.proofs.texts.character_number.Given as goal

abbrev pub invariant-loop-digit : goal.invariant-loop-digit
invariant-loop-digit l = record {
  same : fold hex_step l.number (drop l.digit-index l.digits) ≡ hex_number l.digits;
  small : l.number ≤ 17825807;
}
