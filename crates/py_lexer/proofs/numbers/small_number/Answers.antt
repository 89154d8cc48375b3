use Rattle.std.proofs.Common.{◌∙◌, sym}
use Rattle.lexical_form.specs.Numbers.{number_of}
use Rattle.py_lexer.proofs.NumberLoop.{too_great}
use Rattle.py_lexer.proofs.numbers.small_number.Goals as goal

pub returns-in_default : goal.returns-in_default
returns-in_default c =
    too_great c.args.bytes.now c.loop-byte.byte-index c.loop-byte.number (number_of c.args.bytes.now) c.loop-byte-test.true c.loop-byte.invariant (sym c.with_digit.ensures ∙ c.in_default.is)
