-- Reading a field.
use Rattle.std.specs.Prelude.{ℕ, if◌then◌else◌, ◌==◌, List, [], ◌∷◌, Option, Some, None}
use Rattle.lexical_form.specs.Reading.{Read, read_all}
use Rattle.lexical_form.specs.Tokens.{Convert, as_is, repr, str}
use Rattle.lexical_form.specs.Texts.{Quotes}
use Rattle.lexical_form.specs.Plain.{Plain}
use Rattle.lexical_form.specs.PlainReader.{next_plain}
use Rattle.lexical_form.specs.Formats.{Format}
use Rattle.lexical_form.specs.FormatReader.{format_at}
use Rattle.lexical_form.specs.Fields.{FieldItem, plain_token, blank, Field, is_blank, may_come, open_behind, is_field}

abbrev pub field_token : List ℕ → Read Plain → Read FieldItem
field_token opened None = None
field_token opened (Some p) = if may_come opened (Plain.spelling p.0) then Some (plain_token p.0, p.1) else None

abbrev pub field_item_at : List ℕ → List ℕ → Read FieldItem
field_item_at opened [] = None
field_item_at opened (c ∷ cs) = if is_blank c then Some (blank c, cs) else field_token opened (next_plain (c ∷ cs))

abbrev pub convert_in : List ℕ → List ℕ → Convert × List ℕ
convert_in all [] = (as_is, all)
convert_in all (c ∷ cs) = if c == 114 then (repr, cs) else if c == 115 then (str, cs) else (as_is, all)

abbrev pub convert_at : List ℕ → Convert × List ℕ
convert_at [] = (as_is, [])
convert_at (c ∷ cs) = if c == 33 then convert_in (c ∷ cs) cs else (as_is, c ∷ cs)

abbrev pub some_format : Read Format → Read (Option Format)
some_format None = None
some_format (Some p) = Some (Some p.0, p.1)

abbrev pub format_in : List ℕ → Read (Option Format)
format_in [] = Some (None, [])
format_in (c ∷ cs) = if c == 58 then some_format (format_at cs) else Some (None, c ∷ cs)

abbrev pub checked_field : Quotes → Field → List ℕ → Read Field
checked_field q f rest = if is_field q f then Some (f, rest) else None

abbrev pub closed_field : Quotes → Field → List ℕ → Read Field
closed_field q f [] = None
closed_field q f (c ∷ cs) = if c == 125 then checked_field q f cs else None

abbrev pub with_format : Quotes → List FieldItem → Convert → Read (Option Format) → Read Field
with_format q items convert None = None
with_format q items convert (Some p) = closed_field q (record { items = items; convert = convert; format = p.0 }) p.1

-- behind the `{`
abbrev pub field_at : Quotes → List ℕ → Read Field
field_at q ts =
    let r = read_all field_item_at open_behind [] ts in
    let c = convert_at r.1 in
    with_format q r.0 c.0 (format_in c.1)
