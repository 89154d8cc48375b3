-- The words of tokens of the code, a kind at a time.
use Rattle.std.proofs.Common.{◌≡◌, ℕ, true, false, ◌∷◌, [], List, map, Option, refl, sym, ap, subst, ◌∙◌}
use Rattle.std.specs.Prelude.{IsTrue}
use Rattle.lexical_form.specs.Tokens as pure
use Rattle.py_tokens.specs.TokenView.{view_token, view_kind, view_pieces, piece_step, kind_step, pieces_step, token_step, tokens_step}
use Rattle.py_tokens.specs.declared.token.Pieces.{Pieces}
use Rattle.py_tokens.specs.declared.token.Token.{Token, out-Token, roll-out-Token, fold-roll-Token}
use Rattle.py_tokens.specs.declared.token.TokenKind.{fold-roll-TokenKind}
use Rattle.py_tokens.specs.declared.token.TokenKind.TheVariants as code
use Rattle.py_tokens.specs.declared.token.Piece.TheOpen.{TokenKind-F}
use Rattle.py_tree.specs.Names.{is_among}
use Rattle.py_tree.specs.declared.token.TokenKind.TheVariants as literal_kind
use Rattle.syntax_form.specs.Literals.{constants}
use Rattle.syntax_reading.specs.Words.{Fixed, Word, name, literal, f_text, fixed, other}
use Rattle.syntax_reading.specs.Words.{find, fixed_or, keyword_words, mark_words, is_free, literal_of, word_of}
use Rattle.syntax_reading.proofs.WordLaws.{name_is_free, literal_may_be}
use Rattle.syntax_words.specs.SenseView.{is_sound}

-- ---- kinds

name_kind : view_kind code.Name ≡ pure.name
name_kind =
    ap view_kind (sym code.rolls-Name) ∙
    fold-roll-TokenKind pure.Piece pure.Kind pure.Pieces pure.Token pure.Tokens
    piece_step kind_step pieces_step token_step tokens_step TokenKind-F.Name

number_kind : view_kind code.Number ≡ pure.number
number_kind =
    ap view_kind (sym code.rolls-Number) ∙
    fold-roll-TokenKind pure.Piece pure.Kind pure.Pieces pure.Token pure.Tokens
    piece_step kind_step pieces_step token_step tokens_step TokenKind-F.Number

text_kind : view_kind code.Text ≡ pure.text
text_kind =
    ap view_kind (sym code.rolls-Text) ∙
    fold-roll-TokenKind pure.Piece pure.Kind pure.Pieces pure.Token pure.Tokens
    piece_step kind_step pieces_step token_step tokens_step TokenKind-F.Text

f_text_kind : (ps : Pieces) → view_kind (code.FText ps) ≡ pure.f_text (view_pieces ps)
f_text_kind ps =
    ap view_kind (sym (code.rolls-FText ps)) ∙
    fold-roll-TokenKind pure.Piece pure.Kind pure.Pieces pure.Token pure.Tokens
    piece_step kind_step pieces_step token_step tokens_step (TokenKind-F.FText ps)

mark_kind : view_kind code.Mark ≡ pure.mark
mark_kind =
    ap view_kind (sym code.rolls-Mark) ∙
    fold-roll-TokenKind pure.Piece pure.Kind pure.Pieces pure.Token pure.Tokens
    piece_step kind_step pieces_step token_step tokens_step TokenKind-F.Mark

-- a token by its parts
by_parts : (t : Token) → view_token t ≡ pure.token (view_kind t.kind) t.spelling
by_parts t =
    ap view_token (sym (roll-out-Token t)) ∙
    fold-roll-Token pure.Piece pure.Kind pure.Pieces pure.Token pure.Tokens piece_step kind_step pieces_step token_step tokens_step (out-Token t)

of_kind : (t : Token) (k : pure.Kind) → view_kind t.kind ≡ k → view_token t ≡ pure.token k t.spelling
of_kind t k e = by_parts t ∙ ap (λ x. pure.token x t.spelling) e

-- ---- their words

spelled_free : (s : List ℕ) → is_free s ≡ true → word_of (pure.token pure.name s) ≡ name s
unfolding word_of
spelled_free s free = rw free refl

spelled_constant : (s : List ℕ) → is_free s ≡ false → is_among s constants ≡ true →
    word_of (pure.token pure.name s) ≡ literal (literal_of literal_kind.Name s)
unfolding word_of
spelled_constant s keyword constant = rw keyword (rw constant refl)

spelled_keyword : (s : List ℕ) (o : Option Fixed) → is_free s ≡ false → is_among s constants ≡ false → o ≡ find keyword_words s →
    word_of (pure.token pure.name s) ≡ fixed_or (other (pure.token pure.name s)) o
unfolding word_of
spelled_keyword s o keyword constant e = rw keyword (rw constant (ap (fixed_or (other (pure.token pure.name s))) (sym e)))

spelled_mark : (s : List ℕ) (o : Option Fixed) → o ≡ find mark_words s → word_of (pure.token pure.mark s) ≡ fixed_or (other (pure.token pure.mark s)) o
unfolding word_of
spelled_mark s o e = ap (fixed_or (other (pure.token pure.mark s))) (sym e)

-- each from its text as it was looked at
pub free_word : (t : Token) (s : List ℕ) → view_kind t.kind ≡ pure.name → s ≡ t.spelling → is_free s ≡ true → name t.spelling ≡ word_of (view_token t)
free_word t s e same free = sym (ap word_of (of_kind t pure.name e) ∙ spelled_free t.spelling (ap is_free (sym same) ∙ free))

pub constant_word : (t : Token) (s : List ℕ) → view_kind t.kind ≡ pure.name → s ≡ t.spelling → is_free s ≡ false → is_among s constants ≡ true →
    literal (literal_of literal_kind.Name t.spelling) ≡ word_of (view_token t)
constant_word t s e same keyword constant =
    sym (ap word_of (of_kind t pure.name e) ∙
    spelled_constant t.spelling (ap is_free (sym same) ∙ keyword) (ap (λ x. is_among x constants) (sym same) ∙ constant))

pub keyword_word : (t : Token) (s : List ℕ) (o : Option Fixed) → view_kind t.kind ≡ pure.name → s ≡ t.spelling → is_free s ≡ false →
    is_among s constants ≡ false → o ≡ find keyword_words s → fixed_or (other (view_token t)) o ≡ word_of (view_token t)
keyword_word t s o e same keyword constant found =
    subst (λ v. fixed_or (other v) o ≡ word_of v) (sym (of_kind t pure.name e))
    (sym (spelled_keyword t.spelling o (ap is_free (sym same) ∙ keyword) (ap (λ x. is_among x constants) (sym same) ∙ constant)
    (found ∙ ap (find keyword_words) same)))

pub number_word : (t : Token) → t.kind ≡ code.Number → literal (literal_of literal_kind.Number t.spelling) ≡ word_of (view_token t)
unfolding word_of
number_word t e = sym (ap word_of (of_kind t pure.number (ap view_kind e ∙ number_kind)))

pub text_word : (t : Token) → t.kind ≡ code.Text → literal (literal_of literal_kind.Text t.spelling) ≡ word_of (view_token t)
unfolding word_of
text_word t e = sym (ap word_of (of_kind t pure.text (ap view_kind e ∙ text_kind)))

pub f_text_word : (t : Token) (ps : Pieces) → t.kind ≡ code.FText ps → f_text t.spelling (view_pieces ps) ≡ word_of (view_token t)
unfolding word_of
f_text_word t ps e = sym (ap word_of (of_kind t (pure.f_text (view_pieces ps)) (ap view_kind e ∙ f_text_kind ps)))

pub mark_word : (t : Token) (s : List ℕ) (o : Option Fixed) → t.kind ≡ code.Mark → s ≡ t.spelling → o ≡ find mark_words s →
    fixed_or (other (view_token t)) o ≡ word_of (view_token t)
mark_word t s o e same found =
    subst (λ v. fixed_or (other v) o ≡ word_of v) (sym (of_kind t pure.mark (ap view_kind e ∙ mark_kind)))
    (sym (spelled_mark t.spelling o (found ∙ ap (find mark_words) same)))

pub is_name : (t : Token) → t.kind ≡ code.Name → view_kind t.kind ≡ pure.name
is_name t e = ap view_kind e ∙ name_kind

-- ---- what holds of each word

sound_if : (t : pure.Token) (w : Word) → word_of t ≡ w → IsTrue (is_sound w)
sound_if t (name x) e = name_is_free t x e
sound_if t (literal u) e = literal_may_be t u e
sound_if t (f_text cs ps) e = refl
sound_if t (fixed f) e = refl
sound_if t (other u) e = refl

pub sound_word : (t : pure.Token) (w : Word) → w ≡ word_of t → IsTrue (is_sound w)
sound_word t w e = sound_if t w (sym e)

pub one_by_one : (ts : List Token) → map (λ t. word_of (view_token t)) ts ≡ map word_of (map view_token ts)
one_by_one [] = refl
one_by_one (t ∷ ts) = ap (λ ws. word_of (view_token t) ∷ ws) (one_by_one ts)
