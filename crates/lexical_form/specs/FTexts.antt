-- f-texts: texts with fields (Python language reference, section 2.4.3).
use Rattle.std.specs.Prelude.{ℕ, Bool, true, false, not, ◌&&◌, ◌||◌, ◌==◌, IsTrue, List, [], ◌∷◌, ◌++◌, Option, Some, None}
use Rattle.std.specs.List.{list_any, flat_map}
use Rattle.py_tree.specs.Names.{is_among}
use Rattle.lexical_form.specs.Bytes.{is_quote, is_brace, starts}
use Rattle.lexical_form.specs.Tokens as tokens
use Rattle.lexical_form.specs.Tokens.{Token, Kind, Piece, characters, tokens_of, Spec}
use Rattle.lexical_form.specs.Texts.{Quotes, AreItems, Part, plain, escape, Item, is_part, part_spelling, item_spelling, side, repeated}
use Rattle.lexical_form.specs.Meaning.{part_meaning}
use Rattle.lexical_form.specs.Plain as plains
use Rattle.lexical_form.specs.Plain.{Plain, f_text_prefixes}
use Rattle.lexical_form.specs.Formats.{Format, spec_of}
use Rattle.lexical_form.specs.Fields.{Field, FieldItem, plain_token, blank, IsField, field_text}

-- A part as in a text; a brace, spelled twice; a field. A backslash directly before a brace or a field stands for itself.
pub data FPart : Type 0 where
  of_text : Part → FPart
  brace : (slash : Bool) → ℕ → FPart
  a_field : (slash : Bool) → Field → FPart

pub record FText : Type 0 where
  pub prefix : List ℕ
  pub quotes : Quotes
  pub items : List (Item FPart)

abbrev pub is_unbraced : Part → Bool
is_unbraced (plain c) = not (is_brace c)
is_unbraced (escape cs) = not (starts is_brace cs)

abbrev pub IsFPart : Quotes → FPart → Type 0
IsFPart q (of_text p) = IsTrue (is_part q p && is_unbraced p)
IsFPart q (brace slash c) = IsTrue (is_brace c)
IsFPart q (a_field slash f) = IsField q f

abbrev pub slash_if : Bool → List ℕ
slash_if true = 92 ∷ []
slash_if false = []

abbrev pub f_part_spelling : FPart → List ℕ
f_part_spelling (of_text p) = part_spelling p
f_part_spelling (brace slash c) = slash_if slash ++ c ∷ c ∷ []
f_part_spelling (a_field slash f) = slash_if slash ++ 123 ∷ field_text f

-- the prefix has an `r` or an `R`, so the f-text is raw
abbrev pub has_r : List ℕ → Bool
has_r cs = list_any (λ c. (c == 114) || (c == 82)) cs

abbrev pub same_bool : Bool → Bool → Bool
same_bool true b = b
same_bool false b = not b

abbrev pub IsFText : FText → Type 0
IsFText t =
    IsTrue (is_among t.prefix f_text_prefixes && same_bool t.quotes.raw (has_r t.prefix) && is_quote t.quotes.mark)
    × AreItems t.quotes (IsFPart t.quotes) t.items

abbrev pub f_text_spelling : FText → List ℕ
f_text_spelling t = t.prefix ++ side t.quotes ++ flat_map (item_spelling f_part_spelling t.quotes) t.items ++ side t.quotes

-- ---- what it says: the characters up to the next field, where there are any, and the field
abbrev pub kind_of : plains.PlainKind → Kind
kind_of plains.name = tokens.name
kind_of plains.number = tokens.number
kind_of plains.text = tokens.text
kind_of plains.mark = tokens.mark

abbrev pub token_of : Plain → Token
token_of t = tokens.token (kind_of t.kind) t.spelling

abbrev pub field_tokens : List FieldItem → List Token
field_tokens [] = []
field_tokens (plain_token t ∷ is) = token_of t ∷ field_tokens is
field_tokens (blank c ∷ is) = field_tokens is

abbrev pub optional_spec : Option Format → Option Spec
optional_spec None = None
optional_spec (Some f) = Some (spec_of f)

abbrev pub field_piece : Field → Piece
field_piece f = tokens.field (tokens_of (field_tokens f.items)) f.convert (optional_spec f.format)

abbrev pub characters_piece : List ℕ → List Piece
characters_piece [] = []
characters_piece (c ∷ cs) = characters (c ∷ cs) ∷ []

-- the characters that a part stands for, and the field that ends them, if it is one
abbrev pub f_part_characters : Quotes → FPart → List ℕ
f_part_characters q (of_text p) = part_meaning q p
f_part_characters q (brace slash c) = slash_if slash ++ c ∷ []
f_part_characters q (a_field slash f) = slash_if slash

abbrev pub field_of : FPart → Option Field
field_of (of_text p) = None
field_of (brace slash c) = None
field_of (a_field slash f) = Some f

abbrev pub cut_at_field : List ℕ → (List ℕ → List Piece) → Option Field → List Piece
cut_at_field front further None = further front
cut_at_field front further (Some f) = characters_piece front ++ field_piece f ∷ further []

-- the pieces of these items, of which some characters stand in front
abbrev pub pieces_behind : Quotes → List (Item FPart) → List ℕ → List Piece
pieces_behind q [] front = characters_piece front
pieces_behind q (i ∷ is) front =
    cut_at_field (front ++ repeated i.before q.mark ++ f_part_characters q i.part) (pieces_behind q is) (field_of i.part)

abbrev pub f_text_pieces : FText → List Piece
f_text_pieces t = pieces_behind t.quotes t.items []
