-- A number, a digit at a time.
use Rattle.std.specs.Prelude.{ℕ, ◌+◌, ◌*◌, ◌-◌, if◌then◌else◌, ◌==◌, nat_lt, Option, Some, None}

-- the number with a byte more, unless that makes it 2^127 or greater for certain
abbrev pub with_digit : ℕ → ℕ → Option ℕ
with_digit n c =
    if c == 95 then Some n else if nat_lt 17014118346046923173168730371588410572 n then None else Some (10 * n + (c - 48))
