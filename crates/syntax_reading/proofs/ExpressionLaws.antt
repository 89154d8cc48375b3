-- Reading gives the expression that tokens are, and only that one.
use Rattle.std.proofs.Common.{◌≡◌, ℕ, List, [], ◌∷◌, Some, None, refl, sym, ap, ◌∙◌, subst, arith}
use Rattle.py_tree.specs.Expressions.{Tree}
use Rattle.lexical_form.specs.Tokens.{Token}
use Rattle.syntax_form.specs.Expressions.{IsExpression}
use Rattle.syntax_form.specs.Printing.{tokens}
use Rattle.syntax_form.specs.SpelledTokens.{AreTokens}
use Rattle.syntax_reading.specs.Words.{Word, words}
use Rattle.syntax_reading.specs.Readers.{Read}
use Rattle.syntax_reading.specs.Tables.{E1}
use Rattle.syntax_reading.specs.Reading.{read, nothing_left, alone, read_expression}
use Rattle.syntax_reading.proofs.Shaped.{Shaped}
use Rattle.syntax_reading.proofs.Spelling.{spell}
use Rattle.syntax_reading.proofs.WordLaws.{words_same, before_nil}
use Rattle.syntax_reading.proofs.SpellingLaws.{spell_is}
use Rattle.syntax_reading.proofs.Lists.{Fits}
use Rattle.syntax_reading.proofs.FoundLevels.{read_found}
use Rattle.syntax_reading.proofs.OnlyLevels.{read_only}
use Rattle.syntax_reading.proofs.LevelledLaws.{levelled_is_shaped, shaped_is_levelled}

words_of_tree : (t : Tree) → Shaped t → words (tokens t) ≡ spell t []
words_of_tree t s = sym (spell_is t s [] ∙ before_nil (tokens t))

pub expression_found : (limit : ℕ) (ts : List Token) (t : Tree) → AreTokens ts → read_expression limit ts ≡ Some t → IsExpression limit ts t
expression_found limit ts t spelled e = by_read (read limit E1 (words ts)) refl e
  where
    by_rest : (u : Tree) (rest : List Word) → read limit E1 (words ts) ≡ Some (u, rest) → nothing_left u rest ≡ Some t → IsExpression limit ts t
    by_rest u [] g h =
        let same_tree : u ≡ t = cc (h) in
        let f = read_found limit E1 (words ts) (u, []) g in
        let w : words ts ≡ words (tokens u) = f.spelled ∙ sym (words_of_tree u f.fits.shaped) in
        let own : ts ≡ tokens u = words_same ts (tokens u) w in
        subst (IsExpression limit ts) same_tree
        (record { stands = f.fits.high; levelled = shaped_is_levelled u f.fits.shaped (subst AreTokens own spelled); shallow = f.fits.shallow; spelled = own })
    by_rest u (w ∷ rest) g h = absurd (cc)

    by_read : (r : Read Tree) → read limit E1 (words ts) ≡ r → alone r ≡ Some t → IsExpression limit ts t
    by_read None g h = absurd (cc)
    by_read (Some p) g h = by_rest p.0 p.1 g h

pub expression_only : (limit : ℕ) (ts : List Token) (t : Tree) → IsExpression limit ts t → read_expression limit ts ≡ Some t
expression_only limit ts t h =
    let s = levelled_is_shaped t h.levelled in
    let f : Fits 1 limit t = record { shaped = s; high = h.stands; shallow = h.shallow } in
    ap (read_expression limit) h.spelled ∙ (ap (λ ws. alone (read limit E1 ws)) (words_of_tree t s) ∙ ap alone (read_only limit E1 t [] f (omega arith)))
