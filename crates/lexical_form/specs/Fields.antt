-- Fields of f-texts, without the `{` that opens them (Python language reference, section 2.4.3).
use Rattle.std.specs.Prelude.{ℕ, Bool, true, false, not, ◌&&◌, ◌||◌, ◌==◌, IsTrue, List, [], ◌∷◌, ◌++◌, Option, Some, None}
use Rattle.std.specs.List.{list_all, list_any, flat_map}
use Rattle.lexical_form.specs.Bytes.{is_empty, starts, starts_two}
use Rattle.lexical_form.specs.Brackets.{single, matches, open_after}
use Rattle.lexical_form.specs.Cuts.{Cuts, state_after}
use Rattle.lexical_form.specs.Tokens.{Convert, as_is, repr, str}
use Rattle.lexical_form.specs.Texts.{Quotes}
use Rattle.lexical_form.specs.Plain.{Plain, LongestPlain}
use Rattle.lexical_form.specs.Formats.{Format, is_format, format_spelling}

-- a token, or a space or tab
pub data FieldItem : Type 0 where
  plain_token : Plain → FieldItem
  blank : ℕ → FieldItem

-- tokens with blanks around them, the conversion, and the format
pub record Field : Type 0 where
  pub items : List FieldItem
  pub convert : Convert
  pub format : Option Format

-- a space or a tab
abbrev pub is_blank : ℕ → Bool
is_blank c = (c == 32) || (c == 9)

abbrev pub field_item_spelling : FieldItem → List ℕ
field_item_spelling (plain_token t) = t.spelling
field_item_spelling (blank c) = c ∷ []

-- nothing, `!r` or `!s`
abbrev pub convert_spelling : Convert → List ℕ
convert_spelling as_is = []
convert_spelling repr = 33 ∷ 114 ∷ []
convert_spelling str = 33 ∷ 115 ∷ []

-- nothing, or `:` and the format
abbrev pub optional_format : Option Format → List ℕ
optional_format None = []
optional_format (Some f) = 58 ∷ format_spelling f

-- what stands behind the tokens, with the `}`
abbrev pub field_tail : Field → List ℕ
field_tail f = convert_spelling f.convert ++ optional_format f.format ++ 125 ∷ []

-- what stands behind the `{`
abbrev pub field_text : Field → List ℕ
field_text f = flat_map field_item_spelling f.items ++ field_tail f

-- the token closes no bracket but the innermost, and is no `:` outside all brackets
abbrev pub may_come : List ℕ → List ℕ → Bool
may_come opened spelling = matches opened spelling && not (is_empty opened && (single spelling == 58))

-- where the brackets `opened` are open, and directly before this text: the token is the longest one there
abbrev pub FieldFits : List ℕ → FieldItem → List ℕ → Type 0
FieldFits opened (plain_token t) more = LongestPlain (t.spelling ++ more) t more × IsTrue (may_come opened t.spelling)
FieldFits opened (blank c) more = IsTrue (is_blank c)

abbrev pub open_behind : List ℕ → FieldItem → List ℕ
open_behind opened (plain_token t) = open_after opened t.spelling
open_behind opened (blank c) = opened

abbrev pub is_plain_token : FieldItem → Bool
is_plain_token (plain_token t) = true
is_plain_token (blank c) = false

-- three of these quotes stand somewhere, one behind the other
abbrev pub has_three : ℕ → List ℕ → Bool
has_three m [] = false
has_three m (c ∷ cs) = (c == m) && starts_two m cs || has_three m cs

-- neither a backslash, nor a line end, nor `#`, nor the quote of an f-text of one quote
abbrev pub is_field_byte : Quotes → ℕ → Bool
is_field_byte q c = not (c == 92) && not (c == 10) && not (c == 35) && (q.three || not (c == q.mark))

-- and no three quotes that end the f-text
abbrev pub is_inside : Quotes → List ℕ → Bool
is_inside q cs = list_all (is_field_byte q) cs && not (q.three && has_three q.mark cs)

abbrev pub if_format : Option Format → Bool
if_format None = true
if_format (Some f) = is_format f

-- It has a token, its brackets match, its format is one, and nothing in it ends the f-text. No brace stands directly behind its `{`, since
-- two braces stand for one.
abbrev pub is_field : Quotes → Field → Bool
is_field q f =
    list_any is_plain_token f.items && is_empty (state_after open_behind [] f.items) && if_format f.format && is_inside q (field_text f)
    && not (starts (λ c. c == 123) (field_text f))

abbrev pub IsField : Quotes → Field → Type 0
IsField q f = IsTrue (is_field q f) × Cuts field_item_spelling FieldFits open_behind [] (field_text f) f.items (field_tail f)
