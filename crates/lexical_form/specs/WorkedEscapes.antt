-- Worked examples of escapes: what stands behind a backslash, and the bytes that this means.
use Rattle.std.specs.Prelude.{◌≡◌, true, false, map, ℕ, List, [], ◌∷◌, codes}
use Rattle.lexical_form.specs.Texts.{escape, Quotes}
use Rattle.lexical_form.specs.Meaning.{part_meaning}

abbrev quoted : Quotes
quoted = record { mark = 39; three = true; raw = false }

abbrev pub escapes : List (List ℕ × List ℕ)
escapes =
    (codes "n", 10 ∷ []) ∷ (codes "r", 13 ∷ []) ∷ (codes "t", 9 ∷ []) ∷ (codes "a", 7 ∷ []) ∷ (codes "b", 8 ∷ []) ∷ (codes "f", 12 ∷ [])
    ∷ (codes "v", 11 ∷ []) ∷ (codes "\\", codes "\\") ∷ (codes "'", codes "'") ∷ (codes "\"", codes "\"") ∷ (codes "\n", [])
    ∷ (codes "q", codes "\\q") ∷ (codes "x41", codes "A") ∷ (codes "xe9", 195 ∷ 169 ∷ []) ∷ (codes "u20ac", 226 ∷ 130 ∷ 172 ∷ [])
    ∷ (codes "U0001f600", 240 ∷ 159 ∷ 152 ∷ 128 ∷ []) ∷ []

abbrev pub Mean : List (List ℕ × List ℕ) → Type 0
Mean rows = map (λ (row : List ℕ × List ℕ). part_meaning quoted (escape row.0)) rows ≡ map (λ (row : List ℕ × List ℕ). row.1) rows
