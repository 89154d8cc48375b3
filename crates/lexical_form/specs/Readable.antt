-- The text of a file, before it is cut into lines.
use Rattle.std.specs.Prelude.{ℕ, Bool, true, false, if◌then◌else◌, not, ◌&&◌, ◌||◌, ◌==◌, List, [], ◌∷◌}
use Rattle.lexical_form.specs.Bytes.{starts}

-- a byte order mark stands here, of which the first byte is taken
abbrev pub ends_mark : List ℕ → Bool
ends_mark [] = false
ends_mark (c ∷ []) = false
ends_mark (c ∷ d ∷ ds) = (c == 187) && (d == 191)

abbrev pub starts_end : List ℕ → Bool
starts_end cs = starts (λ d. d == 10) cs

-- a character that stands in no file: a `\r` that no `\n` follows, a form feed, a byte order mark
abbrev pub is_barred : ℕ → List ℕ → Bool
is_barred c cs = (c == 13) && not (starts_end cs) || (c == 12) || (c == 239) && ends_mark cs

-- the text up to the first such character, with a `\n` for each `\r\n` (Python language reference, section 2.1.2)
abbrev pub readable : List ℕ → List ℕ
readable [] = []
readable (c ∷ cs) = if is_barred c cs then [] else if c == 13 then readable cs else (c ∷ readable cs)

-- there is no such character
abbrev pub is_readable : List ℕ → Bool
is_readable [] = true
is_readable (c ∷ cs) = not (is_barred c cs) && is_readable cs
