-- What the parts of an f-text say, by their first bytes: the code's way of reading them. Bytes that stand for themselves are taken in runs,
-- and a character outside ASCII is taken whole, also behind a backslash.
use Rattle.std.specs.Prelude.{ℕ, ◌-◌, ◌≤◌, ◌<◌, get_or, Bool, cond, not, ◌&&◌, ◌||◌, ◌==◌, nat_le, List, [], ◌∷◌, ◌++◌, length, take, drop, Option, Some, None}
use Rattle.lexical_form.specs.Bytes.{is_brace, is_empty, starts}
use Rattle.lexical_form.specs.Reading.{span}
use Rattle.lexical_form.specs.Tokens.{Piece}
use Rattle.lexical_form.specs.Texts.{Quotes, is_plain, is_meant, hex_digits}
use Rattle.lexical_form.specs.TextReader.{lead}
use Rattle.lexical_form.specs.Meaning.{meant}
use Rattle.lexical_form.specs.FieldReader.{field_at}
use Rattle.lexical_form.specs.FTexts.{characters_piece}
use Rattle.py_lines.specs.FieldEnds.{piece_read}

-- a byte that stands for itself
abbrev pub is_run_byte : Quotes → ℕ → Bool
is_run_byte q c = is_plain q c && not (is_brace c)

-- ---- escapes, of which the backslash is read: what they stand for, and what is behind them
abbrev pub meant_says : ℕ → List ℕ → Option (List ℕ × List ℕ)
meant_says c cs =
    cond {A = Option (List ℕ × List ℕ)} (nat_le (hex_digits c) (length cs) && is_meant c (take (hex_digits c) cs))
    (Some (meant (c ∷ take (hex_digits c) cs), drop (hex_digits c) cs)) None

abbrev pub first_meant : List ℕ → Option (List ℕ × List ℕ)
first_meant [] = None
first_meant (c ∷ cs) = meant_says c cs

-- the first `n` bytes are an escape behind its backslash, whose last byte is ASCII
pub record IsEscape (ts : List ℕ) (n : ℕ) : Type 0 where
  pub in_range : n ≤ length ts
  pub some : 0 < n
  pub ascii : get_or ts (n - 1) 0 < 128

abbrev pub raw_says : Quotes → ℕ → List ℕ → Option (List ℕ × List ℕ)
raw_says q c cs = cond {A = Option (List ℕ × List ℕ)} q.raw (Some (92 ∷ c ∷ [], cs)) (meant_says c cs)

abbrev pub wide_says : List ℕ × List ℕ → Option (List ℕ × List ℕ)
wide_says r = Some (92 ∷ r.0, r.1)

abbrev pub escape_says : Quotes → List ℕ → Option (List ℕ × List ℕ)
escape_says q [] = None
escape_says q (c ∷ cs) =
    cond {A = Option (List ℕ × List ℕ)} (nat_le 128 c) (wide_says (span (is_run_byte q) (c ∷ cs)))
    (cond {A = Option (List ℕ × List ℕ)} (q.three || not (c == 10)) (raw_says q c cs) None)

-- ---- parts: the pieces that are done and the characters since the last field, with what the part says, and what is behind it
abbrev pub say : List Piece × List ℕ → List ℕ → List Piece × List ℕ
say s cs = (s.0, s.1 ++ cs)

abbrev pub with_piece : List Piece × List ℕ → Piece → List Piece × List ℕ
with_piece s p = (s.0 ++ (characters_piece s.1 ++ p ∷ []), [])

abbrev pub Said : Type 0
Said = Option ((List Piece × List ℕ) × List ℕ)

abbrev pub said : List Piece × List ℕ → Option (List ℕ × List ℕ) → Said
said s None = None
said s (Some p) = Some (say s p.0, p.1)

abbrev pub field_said : List Piece × List ℕ → Option (Piece × List ℕ) → Said
field_said s None = None
field_said s (Some p) = Some (with_piece s p.0, p.1)

abbrev pub braced_says : Quotes → List Piece × List ℕ → List ℕ → Said
braced_says q s [] = None
braced_says q s (c ∷ cs) =
    cond {A = Said} (starts (λ d. d == c) cs) (Some (say s (c ∷ []), drop 1 cs)) (cond {A = Said} (c == 123) (field_said s (piece_read (field_at q cs))) None)

abbrev pub slashed_says : Quotes → List Piece × List ℕ → List ℕ → Said
slashed_says q s ts = cond {A = Said} (starts is_brace ts) (braced_says q (say s (92 ∷ [])) ts) (said s (escape_says q ts))

abbrev pub run_said : List Piece × List ℕ → List ℕ × List ℕ → Said
run_said s r = cond {A = Said} (is_empty r.0) None (Some (say s r.0, r.1))

abbrev pub part_says : Quotes → List Piece × List ℕ → List ℕ → Said
part_says q s [] = None
part_says q s (c ∷ cs) =
    cond {A = Said} (is_brace c) (braced_says q s (c ∷ cs))
    (cond {A = Said} (c == 92) (slashed_says q s cs) (run_said s (span (is_run_byte q) (c ∷ cs))))

abbrev pub item_says : Quotes → List Piece × List ℕ → List ℕ → Said
item_says q s ts = part_says q (say s (take (lead q ts) ts)) (drop (lead q ts) ts)

-- ---- the same of texts without fields
abbrev pub text_part_says : Quotes → List Piece × List ℕ → List ℕ → Said
text_part_says q s [] = None
text_part_says q s (c ∷ cs) =
    cond {A = Said} (is_brace c) (Some (say s (c ∷ []), cs)) (cond {A = Said} (c == 92) (said s (escape_says q cs)) (run_said s (span (is_run_byte q) (c ∷ cs))))

abbrev pub text_item_says : Quotes → List Piece × List ℕ → List ℕ → Said
text_item_says q s ts = text_part_says q (say s (take (lead q ts) ts)) (drop (lead q ts) ts)
