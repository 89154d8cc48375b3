use Rattle.std.proofs.Common.{drop}
use Rattle.lexical_form.specs.Numbers.{number_of}
use Rattle.py_lexer.proofs.NumberLoop.{beyond}
use Rattle.py_lexer.proofs.formats.small_number.Goals as goal

pub returns-then-number-gt200 : goal.returns-then-number-gt200
returns-then-number-gt200 c =
    beyond c.loop-digit.number (drop c.loop-digit.digit-index c.args.digits.now) (number_of c.args.digits.now) c.loop-digit.invariant.same c.if-number-gt200.true
