-- The `repr` of a text: a literal that stands for it (Python language reference, section 2.4.1, "Escape sequences").
use Rattle.std.specs.Prelude.{ℕ, ◌/◌, ◌%◌, Bool, false, if◌then◌else◌, not, ◌==◌, ◌&&◌, ◌||◌, nat_lt, List, [], ◌∷◌, ◌++◌, codes, flat_map}
use Rattle.std.specs.List.{list_any}
use Rattle.std.specs.Fmt.{digit_glyph}

-- the text holds the byte
abbrev pub holds : ℕ → List ℕ → Bool
holds b text = list_any (λ x. x == b) text

-- the quote that a text stands in: `'`, or `"` where the text holds `'` and no `"`
abbrev pub quote_of : List ℕ → ℕ
quote_of text = if holds 39 text && not (holds 34 text) then 34 else 39

-- a byte that doesn't stand for itself between quotes: the quote, the backslash, and control characters
abbrev pub is_escaped : ℕ → ℕ → Bool
is_escaped quote b = ((b == quote) || (b == 92)) || (nat_lt b 32 || (b == 127))

-- a byte by its number: `\x` and two digits
abbrev pub hex_escape : ℕ → List ℕ
hex_escape b = codes "\\x" ++ digit_glyph false (b / 16) ∷ digit_glyph false (b % 16) ∷ []

-- what stands for a byte that doesn't stand for itself
abbrev pub escape_of : ℕ → List ℕ
escape_of b =
    if b == 9 then codes "\\t"
    else if b == 10 then codes "\\n"
    else if b == 13 then codes "\\r"
    else if nat_lt b 32 || (b == 127) then hex_escape b
    else 92 ∷ b ∷ []

-- what stands between quotes for a byte. Texts are UTF-8, and all bytes of a character past ASCII are above 127
abbrev pub escaped_byte : ℕ → ℕ → List ℕ
escaped_byte quote b = if is_escaped quote b then escape_of b else b ∷ []

-- the text as a literal
abbrev pub text_literal : List ℕ → List ℕ
text_literal text = quote_of text ∷ flat_map (escaped_byte (quote_of text)) text ++ quote_of text ∷ []
