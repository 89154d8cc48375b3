-- Numbers of 32 bits.
use Rattle.std.specs.Prelude.{ℕ, ◌-◌, ◌^◌, min}

-- what a number of 32 bits shows of a number
abbrev pub capped : ℕ → ℕ
capped n = min n (2 ^ 32 - 1)
