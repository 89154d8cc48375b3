-- What `parse` reads is the number that digits spell.
use Rattle.std.proofs.Common.{◌≡◌, ℕ, ◌+◌, ◌-◌, ◌*◌, ◌^◌, ◌<◌, Bool, true, false, ◌&&◌, cond, ltb, List, length, None, Some, Result, Ok, Err, ℤ, pos, rules, arith, refl, ap}
use Rattle.std.proofs.lemmas.Bool.{ltb-true, ltb-false}
use Rattle.std.proofs.lemmas.Str.Parse.{IsNumeralModel, numerals_by_fold, parse_signed_digits}
use Rattle.std.specs.List.{fold, list_all}
use Rattle.std.specs.Result.{result_ok, OkIff}
use Rattle.std.specs.Str.Parse.{ParsesSigned}
use mir.Syntax.{w128}
use Rattle.py_tree.specs.Names.{is_digit}
use Rattle.py_tree.specs.Numbers.{number_of}

-- the number that digits spell behind those that spell n
abbrev read_on : ℕ → List ℕ → ℕ
read_on n ds = fold (λ n digit. 10 * n + (digit - 48)) n ds

decimal : IsNumeralModel (λ ds. list_all is_digit ds ≡ true) (read_on 0)
decimal = numerals_by_fold _ (search rules) read_on (search rules)

-- the number where it is small enough
small : {E : Type 0} (n limit : ℕ) (b : Bool) → ltb n limit ≡ b → (P : Type 0) → P → (r : Result ℤ E) → OkIff r (P × (n < limit)) (pos n)
    → result_ok r ≡ cond b (Some (pos n)) None
small n limit true e P p (Ok x) h = ap Some h.1
small n limit false e P p (Ok x) h = absurd (omega (arith, ltb-false n limit e, h.0.1))
small n limit true e P p (Err x) h = absurd (h (p, ltb-true n limit e))
small n limit false e P p (Err x) h = refl

pub parsed : {E : Type 0} (w : List ℕ) (r : Result ℤ E) → 0 < length w → list_all is_digit w ≡ true → ParsesSigned w128 10 w r →
    result_ok r ≡ cond (list_all is_digit w && ltb (number_of w) (2 ^ 127)) (Some (pos (number_of w))) None
parsed w r l a p = rw a (small (number_of w) (2 ^ 127) (ltb (number_of w) (2 ^ 127)) refl (0 < length w) l r (parse_signed_digits decimal w128 w r p a))
