-- A token cut off a text.
use Rattle.std.specs.Prelude.{◌≡◌, ℕ, ◌≤◌, List, length, take, drop, Some}
use Rattle.std.specs.Str.{IsCharBoundary}
use Rattle.lexical_form.specs.Plain.{PlainKind}
use Rattle.lexical_form.specs.PlainReader.{next_plain}

-- the first `n` bytes are the token at the front, of this kind, and the text may be cut behind them
pub record PlainCut (ts : List ℕ) (n : ℕ) (k : PlainKind) : Type 0 where
  pub in_range : n ≤ length ts
  pub boundary : IsCharBoundary ts n
  pub read : next_plain ts ≡ Some (record { kind = k; spelling = take n ts }, drop n ts)
