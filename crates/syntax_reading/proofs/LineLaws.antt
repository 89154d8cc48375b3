-- Reading gives the line that tokens are, and only that one.
use Rattle.std.proofs.Common.{◌≡◌, ℕ, suc, ◌≤◌, max, inl, inr, List, [], ◌∷◌, Option, Some, None, refl, sym, ap, ◌∙◌, subst, arith}
use Rattle.lexical_form.specs.Tokens.{Token}
use Rattle.py_tree.specs.Trees.{Tree, Head, value}
use Rattle.syntax_form.specs.Levelled.{Levelled}
use Rattle.syntax_form.specs.LinePrinting.{head_tokens}
use Rattle.syntax_form.specs.Depth.{depth_limit}
use Rattle.syntax_form.specs.Printing.{tokens}
use Rattle.syntax_form.specs.SpelledTokens.{AreTokens}
use Rattle.syntax_form.specs.Lines.{HeadLevelled, head_depth, place, SpellsLine, IsLine}
use Rattle.syntax_form.proofs.PrintedLines.{line_tokens}
use Rattle.syntax_reading.proofs.ShapedLines.{HeadShaped}
use Rattle.syntax_reading.specs.Words.{Word, words}
use Rattle.syntax_reading.proofs.WordLaws.{before_nil, words_same}
use Rattle.syntax_reading.specs.LinePieces.{Slot, pieces}
use Rattle.syntax_reading.specs.LineForms.{Form, template, make}
use Rattle.syntax_reading.specs.LineReading.{made, forms, one_form, or_else, first_form, part_limit, read_line}
use Rattle.syntax_reading.proofs.LinePieces.{spell_pieces, GoodPieces, pieces_found, pieces_only}
use Rattle.syntax_reading.proofs.LineForms.{form_of, slots, make_slots, head_words, head_good, head_shaped, made_is, fine}
use Rattle.syntax_reading.proofs.LineOrder.{rank, place_is, same_form, Among, Falling, at_most, among_at_most, falling_rest, falling, among}
use Rattle.syntax_reading.proofs.LineRegrouping.{head_regrouped}
use Rattle.syntax_reading.proofs.LevelledLaws.{shaping, levelling}

words_of_line : (h : Head) → HeadShaped h → words (head_tokens h) ≡ spell_pieces (template (form_of h)) (slots h)
words_of_line h l = sym (head_words h l ∙ before_nil (head_tokens h))

-- the tokens spell this line, whatever names, numbers and texts are spelled like
record SpellsShaped (ts : List Token) (h : Head) : Type 0 where
  shaped : HeadShaped h
  shallow : head_depth h ≤ depth_limit
  spelled : ts ≡ head_tokens h

record Formed (f : Form) (ts : List Token) (h : Head) : Type 0 where
  spells : SpellsShaped ts h
  form_is : form_of h ≡ f

one_found : (f : Form) (ts : List Token) (h : Head) → one_form part_limit f (words ts) ≡ Some h → Formed f ts h
one_found f ts h e = by_pieces (pieces part_limit (template f) (words ts)) refl e
  where
    of_line : (ss : List Slot) → pieces part_limit (template f) (words ts) ≡ Some ss → make f ss ≡ Some h → Formed f ts h
    of_line ss g k =
        let p = pieces_found part_limit (template f) (words ts) ss (fine part_limit f) g in
        let m = made_is part_limit f ss h p.1 k in
        let good : GoodPieces part_limit (template (form_of h)) (slots h) = subst (λ xs. GoodPieces part_limit (template (form_of h)) xs) (sym m.1) (subst (λ i. GoodPieces part_limit (template i) ss) (sym m.0) p.1) in
        let l = head_shaped part_limit h good in
        let w : words ts ≡ words (head_tokens h) = p.0 ∙ (ap (λ i. spell_pieces (template i) ss) (sym m.0) ∙ (ap (spell_pieces (template (form_of h))) (sym m.1) ∙ sym (words_of_line h l.0))) in
        record { spells = record { shaped = l.0; shallow = l.1; spelled = words_same ts (head_tokens h) w }; form_is = m.0 }

    by_pieces : (r : Option (List Slot)) → pieces part_limit (template f) (words ts) ≡ r → made f r ≡ Some h → Formed f ts h
    by_pieces None g k = absurd (cc)
    by_pieces (Some ss) g k = of_line ss g k

one_at : (below : ℕ) (ts : List Token) (h : Head) → HeadShaped h → head_depth h ≤ suc below → ts ≡ head_tokens h → one_form below (form_of h) (words ts) ≡ Some h
one_at below ts h l d e =
    let f = form_of h in
    let w : words ts ≡ spell_pieces (template f) (slots h) = ap words e ∙ words_of_line h l in
    ap (λ ws. made f (pieces below (template f) ws)) w ∙
    (ap (made f) (pieces_only below (template f) (slots h) (fine below f) (head_good below h l d)) ∙ make_slots h)

one_only : (ts : List Token) (h : Head) → SpellsShaped ts h → one_form part_limit (form_of h) (words ts) ≡ Some h
one_only ts h s = one_at part_limit ts h s.shaped s.shallow s.spelled

one_shaped : (h k : Head) → HeadShaped h → HeadShaped k → form_of h ≡ form_of k → head_tokens h ≡ head_tokens k → h ≡ k
one_shaped h k l m f e =
    let below = max (head_depth h) (head_depth k) in
    let one = one_at below (head_tokens h) h l (omega arith) refl in
    let two = one_at below (head_tokens h) k m (omega arith) e in
    let again : one_form below (form_of h) (words (head_tokens h)) ≡ Some k = subst (λ g. one_form below g (words (head_tokens h)) ≡ Some k) (sym f) two in
    cc (one, again)

-- the first form that gives a line is the latest that does
first_is_latest : (fs : List Form) (ts : List Token) (h : Head) → Falling fs → first_form fs (words ts) ≡ Some h →
    Formed (form_of h) ts h × ((f : Form) (other : Head) → Among f fs → one_form part_limit f (words ts) ≡ Some other → rank f ≤ rank (form_of h))
unfolding first_form
first_is_latest [] ts h s e = absurd (cc)
first_is_latest (g ∷ gs) ts h s e = by_one (one_form part_limit g (words ts)) refl e (first_is_latest gs ts h (falling_rest g gs s))
  where
    Latest : List Form → Type 0
    Latest fs = Formed (form_of h) ts h × ((f : Form) (other : Head) → Among f fs → one_form part_limit f (words ts) ≡ Some other → rank f ≤ rank (form_of h))

    by_one : (r : Option Head) → one_form part_limit g (words ts) ≡ r → or_else r (first_form gs (words ts)) ≡ Some h → (first_form gs (words ts) ≡ Some h → Latest gs) → Latest (g ∷ gs)
    by_one (Some k) i j later =
        let same_line : k ≡ h = cc (j) in
        let f = one_found g ts h (i ∙ ap Some same_line) in
        (record { spells = f.spells; form_is = refl }, λ o other a q. subst (λ n. rank o ≤ rank n) (sym f.form_is) (among_at_most (rank g) o (g ∷ gs) a (at_most (rank g) g gs (omega arith) s)))
    by_one None i j later =
        let l = later j in (
          l.0,
          λ o other a q. elim a [
            | inl same_one ↦ (let one : one_form part_limit g (words ts) ≡ Some other = subst (λ n. one_form part_limit n (words ts) ≡ Some other) same_one q in absurd (cc (one, i)))
            | inr b ↦ l.1 o other b q
          ],
        )

some_first : (fs : List Form) (f : Form) (ws : List Word) (h : Head) → Among f fs → one_form part_limit f ws ≡ Some h → (k : Head) × (first_form fs ws ≡ Some k)
unfolding first_form
some_first [] f ws h a e = absurd a
some_first (g ∷ gs) f ws h (inl s) e = let one : one_form part_limit g ws ≡ Some h = subst (λ n. one_form part_limit n ws ≡ Some h) s e in (h, rw one refl)
some_first (g ∷ gs) f ws h (inr a) e = by_one (one_form part_limit g ws) refl (some_first gs f ws h a e)
  where
    by_one : (r : Option Head) → one_form part_limit g ws ≡ r → ((k : Head) × (first_form gs ws ≡ Some k)) → (k : Head) × (or_else (one_form part_limit g ws) (first_form gs ws) ≡ Some k)
    by_one (Some k) i later = (k, rw i refl)
    by_one None i later = (later.0, rw i later.1)

-- ---- lines of spelled tokens

levelled_is_shaped : (h : Head) → HeadLevelled h → HeadShaped h
levelled_is_shaped h l = head_regrouped shaping h tt l

shaped_is_levelled : (h : Head) → HeadShaped h → AreTokens (head_tokens h) → HeadLevelled h
shaped_is_levelled h s e = head_regrouped levelling h e s

spells_shaped : (ts : List Token) (h : Head) → SpellsLine ts h → SpellsShaped ts h
spells_shaped ts h s = record { shaped = levelled_is_shaped h s.levelled; shallow = s.shallow; spelled = s.spelled }

spells_line : (ts : List Token) (h : Head) → AreTokens ts → SpellsShaped ts h → SpellsLine ts h
spells_line ts h spelled s =
    record { levelled = shaped_is_levelled h s.shaped (subst AreTokens s.spelled spelled); shallow = s.shallow; spelled = s.spelled }

pub line_found : (ts : List Token) (h : Head) → AreTokens ts → read_line ts ≡ Some h → IsLine ts h
line_found ts h spelled e =
    let l = first_is_latest forms ts h falling e in
    record {
      spells = spells_line ts h spelled l.0.spells;
      latest = λ other s. let r = l.1 (form_of other) other (among (form_of other)) (one_only ts other (spells_shaped ts other s)) in omega (arith, place_is other, place_is h);
    }

-- two lines of one form with the same tokens are the same line, however deep
pub one_of_form : (h k : Head) → HeadLevelled h → HeadLevelled k → place h ≡ place k → head_tokens h ≡ head_tokens k → h ≡ k
one_of_form h k l m p e =
    let same_rank : rank (form_of h) ≡ rank (form_of k) = omega (arith, place_is h, place_is k) in
    one_shaped h k (levelled_is_shaped h l) (levelled_is_shaped k m) (same_form (form_of h) (form_of k) same_rank) e

-- tokens are one line at most
pub one_line : (ts : List Token) (h k : Head) → IsLine ts h → IsLine ts k → h ≡ k
one_line ts h k a b =
    let up = a.latest k b.spells in
    let down = b.latest h a.spells in
    one_of_form h k a.spells.levelled b.spells.levelled (omega arith) (sym a.spells.spelled ∙ b.spells.spelled)

-- of what spells a line some line is read, which it is
some_read : (ts : List Token) (h : Head) → SpellsLine ts h → (k : Head) × ((read_line ts ≡ Some k) × IsLine ts k)
some_read ts h s =
    let spelled : AreTokens ts = subst AreTokens (sym s.spelled) (line_tokens h s.levelled) in
    let some = some_first forms (form_of h) (words ts) h (among (form_of h)) (one_only ts h (spells_shaped ts h s)) in
    (some.0, (some.1, line_found ts some.0 spelled some.1))

pub line_only : (ts : List Token) (h : Head) → IsLine ts h → read_line ts ≡ Some h
line_only ts h s =
    let some = some_read ts h s.spells in
    some.1.0 ∙ ap Some (one_line ts some.0 h some.1.1 s)

-- what spells a line is some line
pub some_line : (ts : List Token) (h : Head) → SpellsLine ts h → (k : Head) × IsLine ts k
some_line ts h s = let some = some_read ts h s in (some.0, some.1.1)

-- where no line is read, none is spelled
pub no_line : (ts : List Token) → read_line ts ≡ None → (h : Head) → SpellsLine ts h → ⊥
no_line ts e h s =
    let some = some_read ts h s in
    let none : None ≡ Some some.0 = sym e ∙ some.1.0 in
    cc

-- trees with the same tokens are the same: each is a line
pub spelled_once : (t u : Tree) → Levelled t → Levelled u → tokens t ≡ tokens u → t ≡ u
spelled_once t u l m e =
    let same_line : value t ≡ value u = one_of_form (value t) (value u) (omega arith, l) (omega arith, m) refl e in
    cc (same_line)
