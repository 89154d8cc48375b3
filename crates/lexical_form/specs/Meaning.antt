-- The characters that the items of a text stand for, as the bytes of their UTF-8 (Python language reference, section 2.4.1.1).
use Rattle.std.specs.Prelude.{ℕ, ◌+◌, ◌/◌, ◌%◌, if◌then◌else◌, ◌==◌, nat_lt, List, [], ◌∷◌, ◌++◌}
use Rattle.std.specs.List.{flat_map}
use Rattle.lexical_form.specs.Bytes.{hex_number}
use Rattle.lexical_form.specs.Texts.{Quotes, Part, plain, escape, Item, Text, repeated, hex_digits}

-- the bytes of the character with this number (RFC 3629, section 3)
abbrev pub utf8 : ℕ → List ℕ
utf8 n =
    if nat_lt n 128 then n ∷ []
    else if nat_lt n 2048 then (192 + n / 64) ∷ (128 + n % 64) ∷ []
    else if nat_lt n 65536 then (224 + n / 4096) ∷ (128 + (n / 64) % 64) ∷ (128 + n % 64) ∷ []
    else (240 + n / 262144) ∷ (128 + (n / 4096) % 64) ∷ (128 + (n / 64) % 64) ∷ (128 + n % 64) ∷ []

-- What a backslash and this byte stand for: `\n`, `\r`, `\t`, `\a`, `\b`, `\f` and `\v` for the line feed, the carriage return, the tab, the
-- bell, the backspace, the form feed and the vertical tab; a backslash and a quote for themselves; a line end for nothing. Before another
-- byte the backslash stays.
abbrev pub meant_byte : ℕ → List ℕ
meant_byte c =
    if c == 110 then 10 ∷ []
    else if c == 114 then 13 ∷ []
    else if c == 116 then 9 ∷ []
    else if c == 97 then 7 ∷ []
    else if c == 98 then 8 ∷ []
    else if c == 102 then 12 ∷ []
    else if c == 118 then 11 ∷ []
    else if c == 92 then 92 ∷ []
    else if c == 39 then 39 ∷ []
    else if c == 34 then 34 ∷ []
    else if c == 10 then []
    else 92 ∷ c ∷ []

abbrev pub meant : List ℕ → List ℕ
meant [] = 92 ∷ []
meant (c ∷ cs) = if hex_digits c == 0 then meant_byte c else utf8 (hex_number cs)

-- in a raw text a backslash stands for itself
abbrev pub part_meaning : Quotes → Part → List ℕ
part_meaning q (plain c) = c ∷ []
part_meaning q (escape cs) = if q.raw then 92 ∷ cs else meant cs

abbrev pub item_meaning : {P : Type 0} → (Quotes → P → List ℕ) → Quotes → Item P → List ℕ
item_meaning mean q i = repeated i.before q.mark ++ mean q i.part

abbrev pub text_meaning : Text → List ℕ
text_meaning t = flat_map (item_meaning part_meaning t.quotes) t.items
