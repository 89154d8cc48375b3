-- A levelled expression is shaped; and one that is shaped, and whose tokens are spelled as tokens, is levelled.
use Rattle.std.proofs.Common.{ℕ, List, [], refl, subst}
use Rattle.std.specs.Prelude.{not, ◌&&◌, ⊤}
use Rattle.py_tree.specs.Names.{Name, is_among, is_spelled_name, keywords, unused_keywords, continues_name}
use Rattle.py_tree.specs.declared.token.TokenKind.{TokenKind}
use Rattle.py_tree.specs.declared.token.TokenKind.TheVariants as literal_kind
use Rattle.py_tree.specs.Expressions.{Tree, Pieces, no_piece, characters, field}
use Rattle.lexical_form.specs.Bytes.{is_quote, starts}
use Rattle.lexical_form.specs.Numbers.{is_number}
use Rattle.lexical_form.specs.Plain.{is_prefix}
use Rattle.lexical_form.specs.Tokens as token
use Rattle.lexical_form.specs.Tokens.{Token}
use Rattle.lexical_form.specs.Longest.{Stands}
use Rattle.lexical_form.proofs.Basics.{and_left, and_right, both}
use Rattle.syntax_form.specs.Literals.{IsName, IsLiteral, IsFTextSpelling}
use Rattle.syntax_form.specs.Levelled.{Levelled}
use Rattle.syntax_form.specs.Printing.{name_token, kind_of, tokens, token_pieces}
use Rattle.syntax_form.specs.SpelledTokens.{AreTokens}
use Rattle.syntax_form.proofs.TokenLaws.{tokens_before, tokens_behind}
use Rattle.syntax_reading.proofs.FieldTokens.{list_of_tokens, FieldsAreTokens, fields_are_tokens}
use Rattle.syntax_reading.proofs.Shaped.{IsFree, MayBeLiteral, AnyFText, Shaped}
use Rattle.syntax_reading.proofs.Regrouping.{Fields, Change, regrouped}

-- ---- levelled expressions are shaped

abbrev AnyTokens : List Token → Type 0
AnyTokens ts = ⊤

any_fields : (ps : Pieces) → Fields AnyTokens ps
any_fields no_piece = tt
any_fields (characters cs ps) = any_fields ps
any_fields (field t convert spec ps) = (tt, any_fields ps)

name_is_free : (x : Name) → IsName x → IsFree x
name_is_free x h =
    let kept = and_left (is_spelled_name x && not (is_among x keywords)) (not (is_among x unused_keywords)) h in
    both (not (is_among x keywords)) (not (is_among x unused_keywords)) (and_right (is_spelled_name x) (not (is_among x keywords)) kept)
    (and_right (is_spelled_name x && not (is_among x keywords)) (not (is_among x unused_keywords)) h)

literal_may_be : (k : TokenKind) (cs : List ℕ) → IsLiteral k cs → MayBeLiteral k cs
literal_may_be literal_kind.Name cs h = h
literal_may_be literal_kind.Number cs h = refl
literal_may_be literal_kind.Text cs h = refl
literal_may_be literal_kind.Mark cs h = absurd h

pub shaping : Change IsName IsFree IsLiteral MayBeLiteral IsFTextSpelling AnyFText AnyTokens
shaping = record {
  before = λ us vs h. tt;
  behind = λ us vs h. tt;
  rest = λ t ts h. tt;
  named = λ x ts h n. name_is_free x n;
  literally = λ t h l. literal_may_be t.kind t.spelling l;
  texts = λ cs ps h f. tt;
  fields = λ cs ps h. any_fields ps;
}

pub levelled_is_shaped : (t : Tree) → Levelled t → Shaped t
levelled_is_shaped t l = regrouped shaping t tt l

-- ---- and shaped ones are levelled, if their tokens are spelled

spelled_name : (x : Name) → Stands (name_token x) [] → IsFree x → IsName x
spelled_name x h f =
    let stood = and_left (is_spelled_name x && not (starts continues_name [])) (not (is_prefix x && starts is_quote [])) h in
    let spelled = and_left (is_spelled_name x) (not (starts continues_name [])) stood in
    both (is_spelled_name x && not (is_among x keywords)) (not (is_among x unused_keywords))
    (both (is_spelled_name x) (not (is_among x keywords)) spelled (and_left (not (is_among x keywords)) (not (is_among x unused_keywords)) f))
    (and_right (not (is_among x keywords)) (not (is_among x unused_keywords)) f)

spelled_literal : (k : TokenKind) (cs : List ℕ) → Stands (token.token (kind_of k) cs) [] → MayBeLiteral k cs → IsLiteral k cs
spelled_literal literal_kind.Name cs h m = m
spelled_literal literal_kind.Number cs h m = and_left (is_number cs) (not (starts continues_name [])) h
spelled_literal literal_kind.Text cs h m = (h.0, h.1, h.2)
spelled_literal literal_kind.Mark cs h m = absurd (cc)

spelled_fields : (ps : Pieces) → FieldsAreTokens (token_pieces ps) → Fields AreTokens ps
spelled_fields no_piece h = tt
spelled_fields (characters cs ps) h = spelled_fields ps h
spelled_fields (field t convert spec ps) h = (subst AreTokens (list_of_tokens (tokens t)) h.0, spelled_fields ps h.1)

pub levelling : Change IsFree IsName MayBeLiteral IsLiteral AnyFText IsFTextSpelling AreTokens
levelling = record {
  before = tokens_before;
  behind = tokens_behind;
  rest = λ t ts h. h.1;
  named = λ x ts h f. spelled_name x h.0 f;
  literally = λ t h m. spelled_literal t.kind t.spelling h.0 m;
  texts = λ cs ps h f. let s = h.0 in (s.0, s.1, s.2, s.3);
  fields = λ cs ps h. spelled_fields ps (fields_are_tokens cs [] (token_pieces ps) h.0);
}

pub shaped_is_levelled : (t : Tree) → Shaped t → AreTokens (tokens t) → Levelled t
shaped_is_levelled t s h = regrouped levelling t h s
