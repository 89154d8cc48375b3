-- Brackets that are open, the innermost first, each as the byte that closes it (Python language reference, section 2.1.6).
use Rattle.std.specs.Prelude.{ℕ, Bool, true, if◌then◌else◌, ◌||◌, ◌==◌, List, [], ◌∷◌, drop}
use Rattle.lexical_form.specs.Bytes.{starts}

-- the byte of a spelling of one byte, else 0
abbrev pub single : List ℕ → ℕ
single [] = 0
single (c ∷ []) = c
single (c ∷ d ∷ ds) = 0

-- the byte that closes the bracket which this one opens; 0 where it opens none
abbrev pub closing_of : ℕ → ℕ
closing_of c = if c == 40 then 41 else if c == 91 then 93 else if c == 123 then 125 else 0

-- `)`, `]` or `}`
abbrev pub is_closing : ℕ → Bool
is_closing c = (c == 41) || (c == 93) || (c == 125)

-- a token that closes a bracket closes the innermost one
abbrev pub matches : List ℕ → List ℕ → Bool
matches opened spelling = if is_closing (single spelling) then starts (λ c. c == single spelling) opened else true

abbrev pub open_after : List ℕ → List ℕ → List ℕ
open_after opened spelling =
    if is_closing (single spelling) then drop 1 opened
    else if closing_of (single spelling) == 0 then opened
    else (closing_of (single spelling) ∷ opened)
