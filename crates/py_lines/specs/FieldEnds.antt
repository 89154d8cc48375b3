-- What stands behind a field's tokens, and the field whole.
use Rattle.std.specs.Prelude.{◌≡◌, ℕ, Bool, cond, not, ◌&&◌, ◌==◌, ◌≤◌, List, [], ◌∷◌, length, drop, Option, Some, None}
use Rattle.std.specs.Str.{IsCharBoundary}
use Rattle.lexical_form.specs.Bytes.{is_empty, starts}
use Rattle.lexical_form.specs.Reading.{Read}
use Rattle.lexical_form.specs.Tokens.{Token, Piece, Convert, Spec}
use Rattle.lexical_form.specs.Texts.{Quotes}
use Rattle.lexical_form.specs.FormatReader.{format_at}
use Rattle.lexical_form.specs.Fields.{Field, is_inside}
use Rattle.lexical_form.specs.FieldReader.{convert_at, field_at}
use Rattle.lexical_form.specs.FTexts.{field_piece}
use Rattle.py_lexer.specs.FormatParts.{some_spec}

abbrev pub optional : Option (Spec × List ℕ) → Option (Option Spec × List ℕ)
optional None = None
optional (Some p) = Some (Some p.0, p.1)

-- what the format says, if there is one, and what is behind it
abbrev pub format_part : List ℕ → Option (Option Spec × List ℕ)
format_part [] = Some (None, [])
format_part (c ∷ cs) = cond {A = Option (Option Spec × List ℕ)} (c == 58) (optional (some_spec (format_at cs))) (Some (None, c ∷ cs))

-- behind the `}`
abbrev pub closed : Convert → Option Spec → List ℕ → Option ((Convert × Option Spec) × List ℕ)
closed convert spec [] = None
closed convert spec (c ∷ cs) = cond {A = Option ((Convert × Option Spec) × List ℕ)} (c == 125) (Some ((convert, spec), cs)) None

abbrev pub behind_format : Convert → Option (Option Spec × List ℕ) → Option ((Convert × Option Spec) × List ℕ)
behind_format convert None = None
behind_format convert (Some p) = closed convert p.0 p.1

-- the conversion and the format, and what is behind the `}`
abbrev pub tail_says : List ℕ → Option ((Convert × Option Spec) × List ℕ)
tail_says ts = let c = convert_at ts in behind_format c.0 (format_part c.1)

-- the field has a token, its brackets match, nothing in it ends the f-text, and it doesn't begin with a brace
abbrev pub is_whole : Quotes → List ℕ × List Token → List ℕ → Bool
is_whole q s field = not (is_empty s.1) && is_empty s.0 && is_inside q field && not (starts (λ c. c == 123) field)

-- the first `n` bytes are a field, which is this piece, and the text may be cut behind them
pub record FieldRead (q : Quotes) (ts : List ℕ) (n : ℕ) (p : Piece) : Type 0 where
  pub field : Field
  pub read : field_at q ts ≡ Some (field, drop n ts)
  pub same : p ≡ field_piece field
  pub in_range : n ≤ length ts
  pub boundary : IsCharBoundary ts n

-- the piece that a field is, and what is behind it
abbrev pub piece_read : Read Field → Option (Piece × List ℕ)
piece_read None = None
piece_read (Some p) = Some (field_piece p.0, p.1)
