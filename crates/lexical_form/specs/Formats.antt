-- Formats of fields (Python library reference, "Format Specification Mini-Language", the part that this language has).
use Rattle.std.specs.Prelude.{ℕ, Bool, true, false, if◌then◌else◌, not, ◌&&◌, ◌||◌, ◌==◌, nat_le, List, [], ◌∷◌, ◌++◌, Option, Some, None}
use Rattle.std.specs.List.{list_all}
use Rattle.py_tree.specs.Names.{is_digit}
use Rattle.lexical_form.specs.Bytes.{starts}
use Rattle.lexical_form.specs.Numbers.{number_of}
use Rattle.lexical_form.specs.Tokens.{Spec, aligned, zeros, comma, Align, left, right, center, Form, decimal, string}

-- a format as it is spelled: the byte of its alignment, the digits of its width, of which there may be none, the byte of its type;
-- `0`, a width, and whether a `d` follows; `,`, and whether a `d` follows
pub data Format : Type 0 where
  align_width_form : Option ℕ → List ℕ → Option ℕ → Format
  zero_width : List ℕ → Bool → Format
  only_comma : Bool → Format

-- `<`, `>` or `^`
abbrev pub is_align : ℕ → Bool
is_align c = (c == 60) || (c == 62) || (c == 94)

-- `d` or `s`
abbrev pub is_form : ℕ → Bool
is_form c = (c == 100) || (c == 115)

-- 1 to 200, not beginning with 0
abbrev pub is_width : List ℕ → Bool
is_width ds = list_all is_digit ds && not (starts (λ c. c == 48) ds) && nat_le 1 (number_of ds) && nat_le (number_of ds) 200

abbrev pub no_width : List ℕ → Bool
no_width [] = true
no_width (d ∷ ds) = false

abbrev pub if_any : (ℕ → Bool) → Option ℕ → Bool
if_any p None = true
if_any p (Some c) = p c

abbrev pub is_format : Format → Bool
is_format (align_width_form a w f) = if_any is_align a && (no_width w || is_width w) && if_any is_form f
is_format (zero_width w d) = is_width w
is_format (only_comma d) = true

abbrev pub byte_of : Option ℕ → List ℕ
byte_of None = []
byte_of (Some c) = c ∷ []

abbrev pub d_if : Bool → List ℕ
d_if true = 100 ∷ []
d_if false = []

abbrev pub format_spelling : Format → List ℕ
format_spelling (align_width_form a w f) = byte_of a ++ w ++ byte_of f
format_spelling (zero_width w d) = 48 ∷ w ++ d_if d
format_spelling (only_comma d) = 44 ∷ d_if d

-- what it says
abbrev pub align_of : Option ℕ → Option Align
align_of None = None
align_of (Some c) = Some (if c == 60 then left else if c == 62 then right else center)

abbrev pub form_of : Option ℕ → Option Form
form_of None = None
form_of (Some c) = Some (if c == 100 then decimal else string)

abbrev pub width_of : List ℕ → Option ℕ
width_of [] = None
width_of (d ∷ ds) = Some (number_of (d ∷ ds))

abbrev pub spec_of : Format → Spec
spec_of (align_width_form a w f) = aligned (align_of a) (width_of w) (form_of f)
spec_of (zero_width w d) = zeros (number_of w) d
spec_of (only_comma d) = comma d
