-- What the calls of the outside answer.
use Rattle.std.specs.Prelude.{◌≡◌, ℕ, ◌+◌, ◌-◌, ◌^◌, ◌<◌, ◌≤◌, min, List, ◌++◌, length, take, drop, Option, Some, IfSome}

-- a count of faults rose, or stands at its end
abbrev pub Rose : ℕ → ℕ → Type 0
Rose before now = min (before + 1) (2 ^ 64 - 1) ≤ now

-- n bytes of the file, from a place on, stand at the beginning of the buffer; there are 0 exactly at the file's end, where the
-- buffer isn't empty
pub record ReadsAt (bytes : List ℕ) (at : ℕ) (before now : List ℕ) (n : ℕ) : Type 0 where
  pub there : n ≤ length bytes - at
  pub filled : now ≡ take n (drop at bytes) ++ drop n before
  pub at_end : 0 < length before → n ≡ 0 → length bytes ≤ at

-- where what a sink took is told, it took this text and nothing else
abbrev pub Took : Option (List ℕ) → Option (List ℕ) → List ℕ → Type 0
Took before now text = IfSome before (λ old. now ≡ Some (old ++ text))

-- it took a beginning of this text, but not all of it, and nothing else
abbrev pub TookLess : Option (List ℕ) → Option (List ℕ) → List ℕ → Type 0
TookLess before now text = (part rest : List ℕ) × (0 < length rest) × (part ++ rest ≡ text) × Took before now part

-- n bytes of the file, from where `before` ends, were appended to it; there are 0 only at the file's end
pub record HasNext (all before now : List ℕ) (n : ℕ) : Type 0 where
  pub appended : now ≡ before ++ take n (drop (length before) all)
  pub there : n ≤ length all - length before
  pub at_end : n ≡ 0 → length all ≤ length before
