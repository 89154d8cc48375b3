-- Whole numbers in decimal digits, with `_` between digits (Python language reference, section 2.4.5).
use Rattle.std.specs.Prelude.{ℕ, ◌+◌, ◌*◌, ◌-◌, ◌^◌, Bool, true, false, if◌then◌else◌, not, ◌&&◌, ◌==◌, nat_lt, List, [], ◌∷◌, fold}
use Rattle.py_tree.specs.Names.{is_digit}

-- the number that digits spell; a `_` between them says nothing
abbrev pub number_of : List ℕ → ℕ
number_of cs = fold (λ n c. if c == 95 then n else 10 * n + (c - 48)) 0 cs

-- Digits with single `_` between them: a digit behind a digit (`true`) or not, and from there on to the end. A `_` stands behind a digit,
-- and a digit comes last.
abbrev pub are_digits : Bool → List ℕ → Bool
are_digits behind_digit [] = behind_digit
are_digits behind_digit (c ∷ cs) = if is_digit c then are_digits true cs else (c == 95) && behind_digit && are_digits false cs

-- one digit, or digits that don't begin with 0; at most 2^127 - 1, which is the greatest number of the language
abbrev pub is_number : List ℕ → Bool
is_number [] = false
is_number (c ∷ []) = is_digit c
is_number (c ∷ d ∷ ds) = are_digits false (c ∷ d ∷ ds) && not (c == 48) && nat_lt (number_of (c ∷ d ∷ ds)) (2 ^ 127)
