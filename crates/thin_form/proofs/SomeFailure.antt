-- Bytes that are no file fail at some line.
use Rattle.std.proofs.Common.{◌≡◌, inl, inr, ⊎_elim, ℕ, zero, suc, ◌+◌, ◌≤◌, Bool, true, false, ◌||◌, eqb, IsTrue, List, [], ◌∷◌, ◌++◌, length, take, refl, sym, ap, ◌∙◌, length-append, arith, subst}
use Rattle.std.specs.Str.{bytes_eq}
use Rattle.std.proofs.lemmas.Bool.{and_parts, and_from, or_cases, or_left, or_right, cases_lt, eqb-true, false≢true, not_from_false}
use Rattle.std.proofs.lemmas.List.{length-take-le}
use Rattle.py_tree.specs.TextLines.{is_unbroken, text_of, byte_limit}
use Rattle.py_tree.proofs.Breaks.{are_unbroken}
use Rattle.py_tree.proofs.NamesOf.{name_of}
use Rattle.thin_form.proofs.FileElements.{all_elements, slider_line}
use Rattle.thin_form.proofs.Among.{equal_bytes, has, has_line, line_has}
use Rattle.thin_form.proofs.OneLine.{line_one, line_unbroken}
use Rattle.form_meaning.specs.Fails.{HasSlider, AreElements, IsFormless, LinesFit, FailsAt}
use Rattle.form_meaning.specs.Thin.{Elements, makes_slider, line_text, file_lines}
use Rattle.py_tree.specs.Names.{Name, is_among, is_name}
use Rattle.py_tree.specs.Trees.{Tree, assign, import_mo}

-- ---- bytes as lines

-- whole lines, and what comes after the last `\n`
record AreLines (bytes : List ℕ) : Type 0 where
  lines : List (List ℕ)
  rest : List ℕ
  unbroken : IsTrue (are_unbroken lines)
  ends : IsTrue (is_unbroken rest)
  text : bytes ≡ text_of lines ++ rest

one_byte : (c : ℕ) (bytes : List ℕ) (lines : List (List ℕ)) (rest : List ℕ) (t : Bool) → eqb c 10 ≡ t → IsTrue (are_unbroken lines) → IsTrue (is_unbroken rest) → bytes ≡ text_of lines ++ rest → AreLines (c ∷ bytes)
one_byte c bytes lines rest true e p q text =
    record { lines = [] ∷ lines; rest = rest; unbroken = p; ends = q; text = ap (λ (n : ℕ). n ∷ bytes) (eqb-true c 10 e) ∙ ap (λ (l : List ℕ). 10 ∷ l) text }
one_byte c bytes [] rest false e p q text =
    record { lines = []; rest = c ∷ rest; unbroken = refl; ends = and_from _ _ (not_from_false (eqb c 10) e) q; text = ap (λ (l : List ℕ). c ∷ l) text }
one_byte c bytes (x ∷ xs) rest false e p q text =
    let w = and_parts (is_unbroken x) (are_unbroken xs) p in
    record { lines = (c ∷ x) ∷ xs; rest = rest; unbroken = and_from _ _ (and_from _ _ (not_from_false (eqb c 10) e) w.0) w.1; ends = q; text = ap (λ (l : List ℕ). c ∷ l) text }

are_lines : (bytes : List ℕ) → AreLines bytes
are_lines [] = record { lines = []; rest = []; unbroken = refl; ends = refl; text = refl }
are_lines (c ∷ bytes) = let r = are_lines bytes in one_byte c bytes r.lines r.rest (eqb c 10) refl r.unbroken r.ends r.text

-- ---- the elements that bytes have

-- one of the lines makes a slider of this name
abbrev MakesSlider : List (List ℕ) → Name → Type 0
MakesSlider lines x = (t : Tree) × IsTrue (is_name x) × IsTrue (makes_slider t) × IsTrue (has (line_text (assign (x ∷ []) t)) lines)

-- the names of the sliders that lines make
record AreSliders (lines : List (List ℕ)) : Type 0 where
  names : List Name
  made : (x : Name) → IsTrue (is_among x names) → MakesSlider lines x
  all : (x : Name) → MakesSlider lines x → IsTrue (is_among x names)

-- the line makes a slider
record IsSlider (line : List ℕ) : Type 0 where
  name : Name
  tree : Tree
  fits : IsTrue (is_name name)
  makes : IsTrue (makes_slider tree)
  text : line ≡ line_text (assign (name ∷ []) tree)

behind : (line : List ℕ) (lines : List (List ℕ)) (x : Name) → MakesSlider lines x → MakesSlider (line ∷ lines) x
behind line lines x m = (m.0, m.1, m.2, or_right _ _ m.3)

same_name : (x y : Name) (s t : Tree) → assign (x ∷ []) s ≡ assign (y ∷ []) t → x ≡ y
same_name x y s t e = cc

first_made : (line : List ℕ) (lines : List (List ℕ)) (s : IsSlider line) (x : Name) → s.name ≡ x → MakesSlider (line ∷ lines) x
first_made line lines s x same =
    let here : IsTrue (has (line_text (assign (s.name ∷ []) s.tree)) (line ∷ lines)) = or_left _ _ (equal_bytes line _ s.text) in
    let P : Name → Type 0 = λ y. MakesSlider (line ∷ lines) y in
    subst P same (s.tree, s.fits, s.makes, here)

one_more : (line : List ℕ) (lines : List (List ℕ)) → IsSlider line → AreSliders lines → AreSliders (line ∷ lines)
one_more line lines s r = record {
  names = s.name ∷ r.names;
  made = λ x among. elim (or_cases (bytes_eq s.name x) (is_among x r.names) among) as (λ _. MakesSlider (line ∷ lines) x) [
    | inl e ↦ first_made line lines s x (name_of s.name x e)
    | inr more ↦ behind line lines x (r.made x more)
  ];
  all = λ x m. elim (or_cases (bytes_eq line (line_text (assign (x ∷ []) m.0))) (has (line_text (assign (x ∷ []) m.0)) lines) m.3) as (λ _. IsTrue (bytes_eq s.name x || is_among x r.names)) [
    | inl e ↦ let same = line_one all_elements all_elements (assign (s.name ∷ []) s.tree) (assign (x ∷ []) m.0) (slider_line s.name s.tree s.fits s.makes) (slider_line x m.0 m.1 m.2) (sym s.text ∙ name_of line _ e) in
        or_left _ _ (equal_bytes s.name x (same_name s.name x s.tree m.0 same))
    | inr more ↦ or_right _ _ (r.all x (m.0, m.1, m.2, more))
  ];
}

no_more : (line : List ℕ) (lines : List (List ℕ)) → (IsSlider line → ⊥) → AreSliders lines → AreSliders (line ∷ lines)
no_more line lines none r = record {
  names = r.names;
  made = λ x among. behind line lines x (r.made x among);
  all = λ x m. elim (or_cases (bytes_eq line (line_text (assign (x ∷ []) m.0))) (has (line_text (assign (x ∷ []) m.0)) lines) m.3) as (λ _. IsTrue (is_among x r.names)) [
    | inl e ↦ absurd (none (record { name = x; tree = m.0; fits = m.1; makes = m.2; text = name_of line _ e }))
    | inr more ↦ r.all x (m.0, m.1, m.2, more)
  ];
}

-- lines don't fail to have names of sliders
some_sliders : (lines : List (List ℕ)) → (AreSliders lines → ⊥) → ⊥
some_sliders [] none = none (record { names = []; made = λ x among. absurd (false≢true among); all = λ x m. absurd (false≢true m.3) })
some_sliders (line ∷ lines) none = some_sliders lines (λ r. none (no_more line lines (λ s. none (one_more line lines s r)) r))

elements_in : (bytes : List ℕ) (l : AreLines bytes) → AreSliders l.lines → (es : Elements) × AreElements (text_of l.lines ++ l.rest) es
elements_in bytes l s =
    let es : Elements = record { is_slider = λ x. is_among x s.names; imported = has (line_text import_mo) l.lines } in
    let sliders : (x : Name) → (IsTrue (es.is_slider x) → HasSlider (text_of l.lines ++ l.rest) x) × (HasSlider (text_of l.lines ++ l.rest) x → IsTrue (es.is_slider x)) = λ x. (
      (λ among. let m = s.made x among in (m.0, m.1, m.2, line_has (line_text (assign (x ∷ []) m.0)) l.lines l.rest m.3)),
      (λ h. let head = assign (x ∷ []) h.0 in
          let unbroken = line_unbroken all_elements head (slider_line x h.0 h.1 h.2) in
          s.all x (h.0, h.1, h.2, has_line (line_text head) l.lines l.rest unbroken l.unbroken l.ends h.3)),
    ) in (
      es,
      record {
        sliders = sliders;
        imported = ((λ any. line_has (line_text import_mo) l.lines l.rest any), (λ line. has_line (line_text import_mo) l.lines l.rest (line_unbroken all_elements import_mo refl) l.unbroken l.ends line));
      },
    )

-- bytes don't fail to have elements
some_elements : (bytes : List ℕ) → ((es : Elements) → AreElements bytes es → ⊥) → ⊥
some_elements bytes none =
    let l = are_lines bytes in
    some_sliders l.lines (λ s. let e = elements_in bytes l s in
    let P : List ℕ → Type 0 = λ b. AreElements b e.0 in
    none e.0 (subst P (sym l.text) e.1))

-- ---- the first line that doesn't fit

no_last : (before : List (List ℕ)) (line : List ℕ) → [] ≡ before ++ line ∷ [] → ⊥
no_last [] line e = cc
no_last (x ∷ xs) line e = cc

fits_none : (es : Elements) (bytes : List ℕ) → LinesFit es bytes 0
fits_none es bytes = record {
  cells = [];
  rest = bytes;
  fits = refl;
  long = omega arith;
  few = omega arith;
  text = refl;
  alone = λ before line after e a i. no_last before line e;
}

-- each line has a byte
lines_short : (lines : List (List ℕ)) → length lines ≤ length (text_of lines)
lines_short [] = omega arith
lines_short (l ∷ lines) = omega (arith, lines_short lines, length-append (l ++ 10 ∷ []) (text_of lines), length-append l (10 ∷ []))

fits_short : (es : Elements) (bytes : List ℕ) (k : ℕ) → LinesFit es bytes k → k ≤ length bytes
fits_short es bytes k b =
    let lines = take k (file_lines b.cells) in
    let size : length lines ≡ k = length-take-le k (file_lines b.cells) b.long in
    let whole : length bytes ≡ length (text_of lines) + length b.rest = ap length b.text ∙ length-append (text_of lines) b.rest in
    omega (arith, lines_short lines)

-- where no line fails each one fits
all_fit : (es : Elements) (bytes : List ℕ) → length bytes ≤ byte_limit → AreElements bytes es → IsFormless bytes → ((n : ℕ) → FailsAt bytes n → ⊥) → (k : ℕ) → (LinesFit es bytes k → ⊥) → ⊥
all_fit es bytes short are formless none zero off = off (fits_none es bytes)
all_fit es bytes short are formless none (suc k) off =
    all_fit es bytes short are formless none k (λ fit. none (suc k) (short, es, are, fit, off, formless))

pub some_failure : (bytes : List ℕ) → IsFormless bytes → ((n : ℕ) → FailsAt bytes n → ⊥) → ⊥
some_failure bytes formless none = ⊎_elim
    (λ long. none 0 long)
    (λ no_long. let short : length bytes ≤ byte_limit = omega arith in
    some_elements bytes (λ es are. all_fit es bytes short are formless none (suc (length bytes)) (λ fit. let k = fits_short es bytes (suc (length bytes)) fit in omega arith)))
    (cases_lt byte_limit (length bytes))
