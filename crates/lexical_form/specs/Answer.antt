-- What bytes are: logical lines, or refused at a line.
use Rattle.std.specs.Prelude.{◌≡◌, ℕ, ◌+◌, List, take}
use Rattle.std.specs.Str.{IsUtf8}
use Rattle.std.specs.Str.Lossy.{utf8_valid_len}
use Rattle.lexical_form.specs.Pieces.{line_ends}
use Rattle.lexical_form.specs.LogicalLines.{Line, Spelled, Refused}

-- these lines; no UTF-8, at this line; or no token, at this line
pub data Answer : Type 0 where
  accepted : List Line → Answer
  no_utf8 : (line : ℕ) → Answer
  no_token : (line : ℕ) → Answer

-- the line, from 1, of the first byte at which the bytes stop being UTF-8: that behind their longest front that is UTF-8
abbrev pub utf8_line : List ℕ → ℕ
utf8_line bytes = 1 + line_ends (take (utf8_valid_len bytes) bytes)

-- Bytes that aren't UTF-8 are refused so, whatever else they hold; others are logical lines, or are refused where no token is.
abbrev pub IsAnswer : List ℕ → Answer → Type 0
IsAnswer bytes (accepted lines) = IsUtf8 bytes × Spelled bytes lines
IsAnswer bytes (no_utf8 n) = (IsUtf8 bytes → ⊥) × (n ≡ utf8_line bytes)
IsAnswer bytes (no_token n) = IsUtf8 bytes × Refused bytes n
