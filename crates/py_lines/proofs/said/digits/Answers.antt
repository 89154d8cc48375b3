-- The digits say the number of a character, or there is no escape.
use Rattle.std.proofs.Common.{◌∙◌, sym, arith}
use Rattle.py_lines.proofs.EscapeLaws.{digits_none, digits_some}
use Rattle.py_lines.proofs.said.digits.Goals as goal

pub returns-in_default-character : goal.returns-in_default-character
returns-in_default-character c = digits_none c.args.bytes.now c.hex_digits-n.result c.requires c.hex_digits-n.ensures (sym c.in_default-character.is ∙ c.character.ensures)

pub returns : goal.returns
returns c = digits_some c.args.bytes.now c.hex_digits-n.result c.in-Some.number c.requires c.hex_digits-n.ensures (omega (arith, c.if-rest-n.false)) (sym c.in-Some.is ∙ c.character.ensures)
