-- How far a number is above another.
use Rattle.std.proofs.Common.{◌≡◌, arith}
use Rattle.std.specs.Prelude.{ℤ, pos, negsuc, nat_abs, ◌-ℤ◌, ◌≤ℤ◌}
use Rattle.std.specs.Int.{int_gap}
use Rattle.std.proofs.lemmas.Int.{ints}

pub gap : (a b : ℤ) → a ≤ℤ b → nat_abs (a -ℤ b) ≡ int_gap a b
gap (pos a) (pos b) h = grind (arith, ints)
gap (pos a) (negsuc b) h = grind (arith, ints)
gap (negsuc a) (pos b) h = grind (arith, ints)
gap (negsuc a) (negsuc b) h = grind (arith, ints)

-- what the test of a range uses
pub ruleset gaps = (gap)
