-- Words and the tokens that they stand for.
use Rattle.std.proofs.Common.{◌≡◌, ℕ, zero, suc, Bool, true, false, List, [], ◌∷◌, map, ◌++◌, refl, sym, ap, ◌∙◌, Option, Some, None, subst, arith}
use Rattle.std.proofs.lemmas.Bool.Decides.{nat_tests}
use Rattle.std.specs.Prelude.{if◌then◌else◌}
use Rattle.std.specs.Str.{bytes_eq}
use Rattle.std.proofs.lemmas.Slice.Eq.{bytes_eq-Decides}
use Rattle.lexical_form.specs.Tokens as kind
use Rattle.syntax_reading.specs.Words as is
use Rattle.py_tree.specs.Names.{Name, is_among}
use Rattle.py_tree.specs.declared.token.TokenKind.TheVariants as literal_kind
use Rattle.lexical_form.specs.Tokens.{Token, token, Kind, spelling}
use Rattle.syntax_form.specs.Literals.{constants}
use Rattle.syntax_form.specs.Printing.{literal_token}
use Rattle.py_tree.specs.declared.token.Token as literals
use Rattle.syntax_reading.specs.Words.{may_be_literal, is_free, literal_of, Fixed, find, fixed_or, keyword_words, mark_words, code, same, fixed_token, Word, name, literal, f_text, fixed, word_of, words}

pub words_append : (ts us : List Token) → words (ts ++ us) ≡ words ts ++ words us
words_append [] us = refl
words_append (t ∷ ts) us = ap (λ ws. word_of t ∷ ws) (words_append ts us)

-- the words of tokens, before other words
abbrev pub before : List Token → List Word → List Word
before [] r = r
before (t ∷ ts) r = word_of t ∷ before ts r

pub before_append : (ts us : List Token) (r : List Word) → before (ts ++ us) r ≡ before ts (before us r)
before_append [] us r = refl
before_append (t ∷ ts) us r = ap (λ ws. word_of t ∷ ws) (before_append ts us r)

pub before_nil : (ts : List Token) → before ts [] ≡ words ts
before_nil [] = refl
before_nil (t ∷ ts) = ap (λ ws. word_of t ∷ ws) (before_nil ts)

-- all of them, in the order of their numbers
abbrev all_fixed : List Fixed
all_fixed =
    is.if_ ∷ is.else_ ∷ is.or_ ∷ is.and_ ∷ is.not_ ∷ is.in_ ∷ is.is_ ∷ is.for_ ∷ is.elif_ ∷ is.while_ ∷ is.def_ ∷ is.return_ ∷ is.pass_ ∷ is.break_ ∷ is.continue_ ∷ is.import_ ∷ is.as_ ∷ is.with_ ∷ is.plus ∷
    is.minus ∷ is.star ∷ is.stars ∷ is.slashes ∷ is.percent ∷ is.equal ∷ is.unequal ∷ is.less ∷ is.at_most ∷ is.greater ∷ is.at_least ∷ is.assign ∷ is.add_to ∷ is.subtract_from ∷
    is.multiply_by ∷ is.floor_by ∷ is.remainder_by ∷ is.round_open ∷ is.round_close ∷ is.square_open ∷ is.square_close ∷ is.brace_open ∷ is.brace_close ∷ is.comma ∷ is.colon ∷ is.dot ∷
    is.at_sign ∷ []

abbrev at_place : List Fixed → ℕ → Fixed
at_place [] n = is.if_
at_place (f ∷ fs) zero = f
at_place (f ∷ fs) (suc n) = at_place fs n

abbrev decode : ℕ → Fixed
decode n = at_place all_fixed n

decoded : (f : Fixed) → decode (code f) ≡ f
decoded is.if_ = refl
decoded is.else_ = refl
decoded is.or_ = refl
decoded is.and_ = refl
decoded is.not_ = refl
decoded is.in_ = refl
decoded is.is_ = refl
decoded is.for_ = refl
decoded is.elif_ = refl
decoded is.while_ = refl
decoded is.def_ = refl
decoded is.return_ = refl
decoded is.pass_ = refl
decoded is.break_ = refl
decoded is.continue_ = refl
decoded is.import_ = refl
decoded is.as_ = refl
decoded is.with_ = refl
decoded is.plus = refl
decoded is.minus = refl
decoded is.star = refl
decoded is.stars = refl
decoded is.slashes = refl
decoded is.percent = refl
decoded is.equal = refl
decoded is.unequal = refl
decoded is.less = refl
decoded is.at_most = refl
decoded is.greater = refl
decoded is.at_least = refl
decoded is.assign = refl
decoded is.add_to = refl
decoded is.subtract_from = refl
decoded is.multiply_by = refl
decoded is.floor_by = refl
decoded is.remainder_by = refl
decoded is.round_open = refl
decoded is.round_close = refl
decoded is.square_open = refl
decoded is.square_close = refl
decoded is.brace_open = refl
decoded is.brace_close = refl
decoded is.comma = refl
decoded is.colon = refl
decoded is.dot = refl
decoded is.at_sign = refl

pub same_is : (f g : Fixed) → same f g ≡ true → f ≡ g
same_is f g e = let codes_are : code f ≡ code g = grind (arith, nat_tests) in sym (decoded f) ∙ (ap decode codes_are ∙ decoded g)

pub word_of_fixed : (f : Fixed) → word_of (fixed_token f) ≡ fixed f
unfolding word_of
word_of_fixed is.if_ = refl
word_of_fixed is.else_ = refl
word_of_fixed is.or_ = refl
word_of_fixed is.and_ = refl
word_of_fixed is.not_ = refl
word_of_fixed is.in_ = refl
word_of_fixed is.is_ = refl
word_of_fixed is.for_ = refl
word_of_fixed is.elif_ = refl
word_of_fixed is.while_ = refl
word_of_fixed is.def_ = refl
word_of_fixed is.return_ = refl
word_of_fixed is.pass_ = refl
word_of_fixed is.break_ = refl
word_of_fixed is.continue_ = refl
word_of_fixed is.import_ = refl
word_of_fixed is.as_ = refl
word_of_fixed is.with_ = refl
word_of_fixed is.plus = refl
word_of_fixed is.minus = refl
word_of_fixed is.star = refl
word_of_fixed is.stars = refl
word_of_fixed is.slashes = refl
word_of_fixed is.percent = refl
word_of_fixed is.equal = refl
word_of_fixed is.unequal = refl
word_of_fixed is.less = refl
word_of_fixed is.at_most = refl
word_of_fixed is.greater = refl
word_of_fixed is.at_least = refl
word_of_fixed is.assign = refl
word_of_fixed is.add_to = refl
word_of_fixed is.subtract_from = refl
word_of_fixed is.multiply_by = refl
word_of_fixed is.floor_by = refl
word_of_fixed is.remainder_by = refl
word_of_fixed is.round_open = refl
word_of_fixed is.round_close = refl
word_of_fixed is.square_open = refl
word_of_fixed is.square_close = refl
word_of_fixed is.brace_open = refl
word_of_fixed is.brace_close = refl
word_of_fixed is.comma = refl
word_of_fixed is.colon = refl
word_of_fixed is.dot = refl
word_of_fixed is.at_sign = refl

-- the token that a word stands for
abbrev token_of : Word → Token
token_of (name x) = token kind.name x
token_of (literal t) = literal_token t
token_of (f_text cs ps) = token (kind.f_text ps) cs
token_of (fixed f) = fixed_token f
token_of (is.other t) = t

abbrev AllOfKind : Kind → List Fixed → Type 0
AllOfKind k [] = Unit {0}
AllOfKind k (f ∷ fs) = (fixed_token f ≡ token k (spelling (fixed_token f))) × AllOfKind k fs

looked_up : (k : Kind) (s : List ℕ) (fs : List Fixed) → AllOfKind k fs → token_of (fixed_or (is.other (token k s)) (find fs s)) ≡ token k s
looked_up k s [] h = refl
looked_up k s (f ∷ fs) h = by_test (bytes_eq s (spelling (fixed_token f))) refl (looked_up k s fs h.1)
  where
    by_test : (b : Bool) → bytes_eq s (spelling (fixed_token f)) ≡ b → token_of (fixed_or (is.other (token k s)) (find fs s)) ≡ token k s →
        token_of (fixed_or (is.other (token k s)) (if b then Some f else find fs s)) ≡ token k s
    by_test true e later = h.0 ∙ ap (token k) (sym ((bytes_eq-Decides s (spelling (fixed_token f))).0 e))
    by_test false e later = later

token_if : (b : Bool) (v w : Word) (t : Token) → token_of v ≡ t → token_of w ≡ t → token_of (if b then v else w) ≡ t
token_if true v w t e f = e
token_if false v w t e f = f

keywords_kind : AllOfKind kind.name keyword_words
keywords_kind = (refl, (refl, (refl, (refl, (refl, (refl, (refl, (refl, (refl, (refl, (refl, (refl, (refl, (refl, (refl, (refl, (refl, (refl, tt))))))))))))))))))

marks_kind : AllOfKind kind.mark mark_words
marks_kind = (refl, (refl, (refl, (refl, (refl, (refl, (refl, (refl, (refl, (refl, (refl, (refl, (refl, (refl, (refl, (refl, (refl, (refl, (refl, (refl, (refl, (refl, (refl, (refl, (refl, (refl, (refl, (refl, tt))))))))))))))))))))))))))))

token_of_word : (t : Token) → token_of (word_of t) ≡ t
unfolding word_of
token_of_word (token kind.name s) =
    token_if (is_free s) (name s) _ (token kind.name s) refl
    (token_if (is_among s constants) (literal (literal_of literal_kind.Name s)) _ (token kind.name s) refl (looked_up kind.name s keyword_words keywords_kind))
token_of_word (token kind.number s) = refl
token_of_word (token kind.text s) = refl
token_of_word (token (kind.f_text ps) s) = refl
token_of_word (token kind.mark s) = looked_up kind.mark s mark_words marks_kind

tokens_of_words : (ts : List Token) → map token_of (words ts) ≡ ts
tokens_of_words [] = refl
tokens_of_words (t ∷ ts) = rw (token_of_word t) (ap (λ us. t ∷ us) (tokens_of_words ts))

-- tokens with the same words are the same
pub words_same : (ts us : List Token) → words ts ≡ words us → ts ≡ us
words_same ts us e = sym (tokens_of_words ts) ∙ (ap (λ ws. map token_of ws) e ∙ tokens_of_words us)

-- ---- what a word says of its token: the guards of the reader hold of it

pub name_is_free : (t : Token) (x : Name) → word_of t ≡ name x → is_free x ≡ true
unfolding word_of
name_is_free (token kind.name s) x e = by_free (is_free s) refl (is_among s constants) e
  where
    by_found : (o : Option Fixed) → fixed_or (is.other (token kind.name s)) o ≡ name x → is_free x ≡ true
    by_found None g = absurd (cc)
    by_found (Some f) g = absurd (cc)

    by_free : (b : Bool) → is_free s ≡ b → (k : Bool) →
        (if b then name s else (if k then literal (literal_of literal_kind.Name s) else fixed_or (is.other (token kind.name s)) (find keyword_words s))) ≡ name x → is_free x ≡ true
    by_free true h k g = let same_name : s ≡ x = cc (g) in ap is_free (sym same_name) ∙ h
    by_free false h true g = absurd (cc)
    by_free false h false g = by_found (find keyword_words s) g
name_is_free (token kind.number s) x e = absurd (cc)
name_is_free (token kind.text s) x e = absurd (cc)
name_is_free (token (kind.f_text ps) s) x e = absurd (cc)
name_is_free (token kind.mark s) x e = by_found (find mark_words s) e
  where
    by_found : (o : Option Fixed) → fixed_or (is.other (token kind.mark s)) o ≡ name x → is_free x ≡ true
    by_found None g = absurd (cc)
    by_found (Some f) g = absurd (cc)

pub literal_may_be : (t : Token) (u : literals.Token) → word_of t ≡ literal u → may_be_literal u.kind u.spelling ≡ true
unfolding word_of
literal_may_be (token kind.name s) u e = by_free (is_free s) (is_among s constants) refl e
  where
    by_found : (o : Option Fixed) → fixed_or (is.other (token kind.name s)) o ≡ literal u → may_be_literal u.kind u.spelling ≡ true
    by_found None g = absurd (cc)
    by_found (Some f) g = absurd (cc)

    by_free : (b k : Bool) → is_among s constants ≡ k →
        (if b then name s else (if k then literal (literal_of literal_kind.Name s) else fixed_or (is.other (token kind.name s)) (find keyword_words s))) ≡ literal u →
        may_be_literal u.kind u.spelling ≡ true
    by_free true k h g = absurd (cc)
    by_free false true h g = let same_literal : literal_of literal_kind.Name s ≡ u = cc (g) in subst (λ v. may_be_literal v.kind v.spelling ≡ true) same_literal h
    by_free false false h g = by_found (find keyword_words s) g
literal_may_be (token kind.number s) u e =
    let same_literal : literal_of literal_kind.Number s ≡ u = cc (e) in subst (λ v. may_be_literal v.kind v.spelling ≡ true) same_literal refl
literal_may_be (token kind.text s) u e =
    let same_literal : literal_of literal_kind.Text s ≡ u = cc (e) in subst (λ v. may_be_literal v.kind v.spelling ≡ true) same_literal refl
literal_may_be (token (kind.f_text ps) s) u e = absurd (cc)
literal_may_be (token kind.mark s) u e = by_found (find mark_words s) e
  where
    by_found : (o : Option Fixed) → fixed_or (is.other (token kind.mark s)) o ≡ literal u → may_be_literal u.kind u.spelling ≡ true
    by_found None g = absurd (cc)
    by_found (Some f) g = absurd (cc)
