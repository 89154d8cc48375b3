-- The newest frames of cells, in a list.
use Rattle.std.proofs.Common.{◌≡◌, refl, ℕ, zero, suc}
use Rattle.std.specs.Prelude.{None, replicate}
use Rattle.kernel.specs.Visit.{newest_in}

-- no cell has a frame
pub none_at : (n c : ℕ) → newest_in (replicate n None) c ≡ None
none_at zero c = refl
none_at (suc n) zero = refl
none_at (suc n) (suc c) = none_at n c
