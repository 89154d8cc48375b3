-- Lines of bytes.
use Rattle.std.specs.Prelude.{ℕ, Bool, not, ◌==◌, List, [], ◌∷◌, ◌++◌, flat_map}
use Rattle.std.specs.List.{list_all}

-- no byte is a `\n`
abbrev pub is_unbroken : List ℕ → Bool
is_unbroken = list_all (λ b. not (b == 10))

-- lines, each with its `\n`
abbrev pub text_of : List (List ℕ) → List ℕ
text_of = flat_map (λ l. l ++ 10 ∷ [])

-- the greatest number of bytes that a notebook's file, and a script, may have
abbrev pub byte_limit : ℕ
byte_limit = 1048576
