-- Reading an f-text.
use Rattle.std.specs.Prelude.{ℕ, Bool, true, false, if◌then◌else◌, ◌==◌, List, [], ◌∷◌, drop, Some, None}
use Rattle.lexical_form.specs.Bytes.{is_brace, starts}
use Rattle.lexical_form.specs.Reading.{Read}
use Rattle.lexical_form.specs.Tokens as tokens
use Rattle.lexical_form.specs.Tokens.{Token}
use Rattle.lexical_form.specs.Texts.{Quotes, Part, plain, Item, is_plain}
use Rattle.lexical_form.specs.TextReader.{escape_at, items_at, opening, behind_opening}
use Rattle.lexical_form.specs.Fields.{Field}
use Rattle.lexical_form.specs.FieldReader.{field_at}
use Rattle.lexical_form.specs.FTexts.{FPart, of_text, brace, a_field, FText, has_r, f_text_spelling, f_text_pieces}

abbrev pub some_field : Bool → Read Field → Read FPart
some_field slash None = None
some_field slash (Some p) = Some (a_field slash p.0, p.1)

-- a brace or a field, of which a backslash may be read
abbrev pub braced : Quotes → Bool → List ℕ → Read FPart
braced q slash [] = None
braced q slash (c ∷ cs) =
    if starts (λ d. d == c) cs then Some (brace slash c, drop 1 cs) else if c == 123 then some_field slash (field_at q cs) else None

abbrev pub some_part : Read Part → Read FPart
some_part None = None
some_part (Some p) = Some (of_text p.0, p.1)

abbrev pub f_part_at : Quotes → List ℕ → Read FPart
f_part_at q [] = None
f_part_at q (c ∷ cs) =
    if is_brace c then braced q false (c ∷ cs)
    else if c == 92 then (if starts is_brace cs then braced q true cs else some_part (escape_at q cs))
    else if is_plain q c then Some (of_text (plain c), cs)
    else None

abbrev pub f_text_of : List ℕ → Quotes → Read (List (Item FPart)) → Read Token
f_text_of prefix q None = None
f_text_of prefix q (Some p) =
    let t : FText = record { prefix = prefix; quotes = q; items = p.0 } in
    Some (tokens.token (tokens.f_text (tokens.pieces_of (f_text_pieces t))) (f_text_spelling t), p.1)

-- behind its prefix
abbrev pub f_text_at : List ℕ → List ℕ → Read Token
f_text_at prefix [] = None
f_text_at prefix (c ∷ cs) = let q = opening (has_r prefix) c cs in f_text_of prefix q (items_at f_part_at q (behind_opening q cs))
