-- Reading a format.
use Rattle.std.specs.Prelude.{ℕ, Bool, true, false, if◌then◌else◌, ◌==◌, List, [], ◌∷◌, Option, Some, None}
use Rattle.py_tree.specs.Names.{is_digit}
use Rattle.lexical_form.specs.Reading.{Read, span}
use Rattle.lexical_form.specs.Formats.{Format, align_width_form, zero_width, only_comma, is_align, is_form, is_format}

-- a byte that passes a test, or none
abbrev pub byte_if : (ℕ → Bool) → List ℕ → Option ℕ × List ℕ
byte_if p [] = (None, [])
byte_if p (c ∷ cs) = if p c then (Some c, cs) else (None, c ∷ cs)

abbrev pub is_some_byte : Option ℕ → Bool
is_some_byte None = false
is_some_byte (Some c) = true

abbrev pub checked_format : Format → List ℕ → Read Format
checked_format f rest = if is_format f then Some (f, rest) else None

abbrev pub aligned_at : List ℕ → Read Format
aligned_at ts =
    let a = byte_if is_align ts in
    let w = span is_digit a.1 in
    let f = byte_if is_form w.1 in
    checked_format (align_width_form a.0 w.0 f.0) f.1

abbrev pub zeros_at : List ℕ → Read Format
zeros_at ts = let w = span is_digit ts in let d = byte_if (λ c. c == 100) w.1 in checked_format (zero_width w.0 (is_some_byte d.0)) d.1

abbrev pub comma_at : List ℕ → Read Format
comma_at ts = let d = byte_if (λ c. c == 100) ts in Some (only_comma (is_some_byte d.0), d.1)

abbrev pub format_at : List ℕ → Read Format
format_at [] = aligned_at []
format_at (c ∷ cs) = if c == 48 then zeros_at cs else if c == 44 then comma_at cs else aligned_at (c ∷ cs)
