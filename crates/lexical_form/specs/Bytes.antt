-- Kinds of bytes, characters, and what a text begins with. A text is the list of its bytes.
use Rattle.std.specs.Prelude.{ℕ, ◌+◌, ◌*◌, ◌-◌, Bool, true, false, if◌then◌else◌, ◌&&◌, ◌||◌, ◌==◌, nat_le, nat_lt, List, [], ◌∷◌, fold}
use Rattle.py_tree.specs.Names.{is_digit}

abbrev pub is_empty : {P : Type 0} → List P → Bool
is_empty [] = true
is_empty (p ∷ ps) = false

-- a byte that passes the test stands in front
abbrev pub starts : (ℕ → Bool) → List ℕ → Bool
starts p [] = false
starts p (c ∷ cs) = p c

-- this byte stands in front twice
abbrev pub starts_two : ℕ → List ℕ → Bool
starts_two m [] = false
starts_two m (c ∷ []) = false
starts_two m (c ∷ d ∷ ds) = (c == m) && (d == m)

-- `'` or `"`
abbrev pub is_quote : ℕ → Bool
is_quote c = (c == 39) || (c == 34)

-- `{` or `}`
abbrev pub is_brace : ℕ → Bool
is_brace c = (c == 123) || (c == 125)

-- `0` to `9`, `A` to `F` or `a` to `f`
abbrev pub is_hex : ℕ → Bool
is_hex c = is_digit c || nat_le 65 c && nat_le c 70 || nat_le 97 c && nat_le c 102

abbrev pub hex_digit : ℕ → ℕ
hex_digit c = if is_digit c then c - 48 else if nat_le c 70 then c - 55 else c - 87

-- the number that hexadecimal digits spell
abbrev pub hex_number : List ℕ → ℕ
hex_number cs = fold (λ n c. 16 * n + hex_digit c) 0 cs

-- the number of a character: a Unicode scalar value (Unicode Standard, section 3.9)
abbrev pub is_character : ℕ → Bool
is_character n = nat_lt n 55296 || nat_le 57344 n && nat_lt n 1114112
