-- Texts that are made of pieces, one after the other.
use Rattle.std.specs.Prelude.{◌≡◌, ℕ, List, [], ◌∷◌, ◌++◌}

-- From the state `s` on, the text `ts` is these pieces and then `rest`. `spell` says how a piece is spelled, `Fits` in which state and
-- directly before which text it may stand, `after` the state behind it.
abbrev pub Cuts : {S P : Type 0} → (P → List ℕ) → (S → P → List ℕ → Type 0) → (S → P → S) → S → List ℕ → List P → List ℕ → Type 0
Cuts spell Fits after s ts [] rest = ts ≡ rest
Cuts spell Fits after s ts (p ∷ ps) rest =
    (more : List ℕ) × Fits s p more × (ts ≡ spell p ++ more) × Cuts spell Fits after (after s p) more ps rest

-- the state behind the pieces
abbrev pub state_after : {S P : Type 0} → (S → P → S) → S → List P → S
state_after after s [] = s
state_after after s (p ∷ ps) = state_after after (after s p) ps
