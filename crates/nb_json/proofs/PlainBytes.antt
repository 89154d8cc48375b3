-- Bytes that stand for themselves in a string.
use Rattle.std.proofs.Common.{◌≡◌, ℕ, false, [], ◌∷◌, arith}
use Rattle.std.proofs.lemmas.Bool.Decides.{nat_tests}
use Rattle.std.specs.Prelude.{◌||◌, ◌==◌, nat_lt}
use Rattle.frame_meaning.specs.FrameText.{escaped_byte}

-- a byte that needs no escape stands for itself
pub plain : (x : ℕ) → ((nat_lt x 32 || (x == 34)) || (x == 92)) ≡ false → escaped_byte x ≡ x ∷ []
plain x h = grind (arith, nat_tests)
