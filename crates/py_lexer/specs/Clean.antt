-- Bytes that are readable as they stand.
use Rattle.std.specs.Prelude.{ℕ, suc, if◌then◌else◌, take, Bool, true, false, not, ◌&&◌, ◌||◌, ◌==◌, List, [], ◌∷◌}
use Rattle.lexical_form.specs.Readable.{ends_mark, starts_end}

-- a `\r`, a form feed, a byte order mark
abbrev pub is_odd : ℕ → List ℕ → Bool
is_odd c cs = (c == 13) || (c == 12) || (c == 239) && ends_mark cs

abbrev pub is_clean : List ℕ → Bool
is_clean [] = true
is_clean (c ∷ cs) = not (is_odd c cs) && is_clean cs

-- how many bytes stand before the first of these
abbrev pub even_len : List ℕ → ℕ
even_len [] = 0
even_len (c ∷ cs) = if is_odd c cs then 0 else suc (even_len cs)

abbrev pub even_front : List ℕ → List ℕ
even_front ts = take (even_len ts) ts

-- a `\r\n` stands in front
abbrev pub starts_return : List ℕ → Bool
starts_return [] = false
starts_return (c ∷ cs) = (c == 13) && starts_end cs
