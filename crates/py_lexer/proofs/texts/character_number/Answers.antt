-- The number of the digits read so far is too great, and it only grows.
use Rattle.std.proofs.Common.{ℕ, Option, Some, None, cond, sym, ap, drop}
use Rattle.py_lexer.proofs.HexNumbers.{too_great}
use Rattle.lexical_form.specs.Bytes.{hex_number}
use Rattle.py_lexer.proofs.texts.character_number.Goals as goal

pub returns-then-number-ge1114112 : goal.returns-then-number-ge1114112
returns-then-number-ge1114112 c =
    let great = too_great c.loop-digit.number (drop c.loop-digit.digit-index c.args.digits.now) (hex_number c.args.digits.now) c.loop-digit.invariant.same c.if-number-ge1114112.true in
    sym (ap (λ b. cond {A = Option ℕ} b (Some (hex_number c.args.digits.now)) None) great)
