-- The tokens in the fields of f-texts, as lists; and that they are spelled as tokens.
use Rattle.std.proofs.Common.{◌≡◌, ℕ, List, [], ◌∷◌, ◌++◌, refl, sym, ap, subst}
use Rattle.std.specs.Prelude.{⊤}
use Rattle.lexical_form.specs.Tokens as kind
use Rattle.lexical_form.specs.Tokens.{Token, token, tokens_of, Piece, pieces_of}
use Rattle.lexical_form.specs.Texts.{Quotes, Item, AreItems, repeated}
use Rattle.lexical_form.specs.Plain as plains
use Rattle.lexical_form.specs.Plain.{PlainKind, CanStandAs}
use Rattle.lexical_form.specs.Cuts.{Cuts}
use Rattle.lexical_form.specs.Fields.{Field, FieldItem, plain_token, blank, field_item_spelling, FieldFits, open_behind, IsField, field_text, field_tail}
use Rattle.lexical_form.specs.FTexts.{FText, FPart, of_text, brace, a_field, IsFPart, kind_of, field_tokens, field_piece, characters_piece, f_part_characters, field_of, cut_at_field, pieces_behind}
use Rattle.lexical_form.specs.Longest.{Stands}
use Rattle.syntax_form.specs.SpelledTokens.{AreTokens}
use Rattle.syntax_form.proofs.TokenLaws.{alone_as}
use Rattle.syntax_reading.specs.Words.{token_list}

pub list_of_tokens : (ts : List Token) → token_list (tokens_of ts) ≡ ts
list_of_tokens [] = refl
list_of_tokens (t ∷ ts) = ap (λ us. t ∷ us) (list_of_tokens ts)

pub tokens_of_list : (ts : kind.Tokens) → tokens_of (token_list ts) ≡ ts
tokens_of_list kind.no_token = refl
tokens_of_list (kind.then_token t ts) = ap (kind.then_token t) (tokens_of_list ts)

-- ---- they are spelled as tokens

stands_as : (k : PlainKind) (cs : List ℕ) → CanStandAs k cs [] → Stands (token (kind_of k) cs) []
stands_as plains.name cs h = h
stands_as plains.number cs h = h
stands_as plains.text cs h = h
stands_as plains.mark cs h = h

items_are_tokens : (opened ts rest : List ℕ) (is : List FieldItem) → Cuts field_item_spelling FieldFits open_behind opened ts is rest → AreTokens (field_tokens is)
items_are_tokens opened ts rest [] h = tt
items_are_tokens opened ts rest (plain_token t ∷ is) h =
    let longest = h.1.0 in
    (stands_as t.kind t.spelling (alone_as t.kind t.spelling h.0 longest.stands), items_are_tokens (open_behind opened (plain_token t)) h.0 rest is h.3)
items_are_tokens opened ts rest (blank c ∷ is) h = items_are_tokens opened h.0 rest is h.3

-- of each field
abbrev pub FieldsAreTokens : kind.Pieces → Type 0
FieldsAreTokens kind.no_piece = ⊤
FieldsAreTokens (kind.piece (kind.characters cs) ps) = FieldsAreTokens ps
FieldsAreTokens (kind.piece (kind.field ts convert spec) ps) = AreTokens (token_list ts) × FieldsAreTokens ps

characters_first : (cs : List ℕ) (ps : List Piece) → FieldsAreTokens (pieces_of ps) → FieldsAreTokens (pieces_of (characters_piece cs ++ ps))
characters_first [] ps h = h
characters_first (c ∷ cs) ps h = h

characters_alone : (cs : List ℕ) → FieldsAreTokens (pieces_of (characters_piece cs))
characters_alone [] = tt
characters_alone (c ∷ cs) = tt

field_is_tokens : (q : Quotes) (f : Field) → IsField q f → AreTokens (token_list (tokens_of (field_tokens f.items)))
field_is_tokens q f h = subst AreTokens (sym (list_of_tokens (field_tokens f.items))) (items_are_tokens [] (field_text f) (field_tail f) f.items h.1)

first_part : (q : Quotes) (p : FPart) (front : List ℕ) (further : List ℕ → List Piece) → IsFPart q p → ((cs : List ℕ) → FieldsAreTokens (pieces_of (further cs))) →
    FieldsAreTokens (pieces_of (cut_at_field front further (field_of p)))
first_part q (of_text p) front further h k = k front
first_part q (brace slash c) front further h k = k front
first_part q (a_field slash f) front further h k = characters_first front (field_piece f ∷ further []) (field_is_tokens q f h, k [])

parts_are_tokens : (q : Quotes) (is : List (Item FPart)) (front : List ℕ) → AreItems q (IsFPart q) is → FieldsAreTokens (pieces_of (pieces_behind q is front))
parts_are_tokens q [] front h = characters_alone front
parts_are_tokens q (i ∷ is) front h =
    first_part q i.part (front ++ repeated i.before q.mark ++ f_part_characters q i.part) (pieces_behind q is) (h.0).1 (λ cs. parts_are_tokens q is cs h.1)

-- an f-text that stands somewhere has tokens in its fields
pub fields_are_tokens : (cs rest : List ℕ) (ps : kind.Pieces) → Stands (token (kind.f_text ps) cs) rest → FieldsAreTokens ps
fields_are_tokens cs rest ps h =
    let t = h.0 in subst FieldsAreTokens (sym h.3) (parts_are_tokens (FText.quotes t) (FText.items t) [] (h.1).1)
