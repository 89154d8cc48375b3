-- What is read from a text is a line of the form, and spells it.
use Rattle.std.proofs.Common.{◌≡◌, ℕ, Bool, true, false, cond, List, [], ◌∷◌, ◌++◌, Option, None, Some, refl, sym, ap, ◌∙◌, subst}
use Rattle.std.specs.Prelude.{codes, option_map}
use Rattle.std.specs.List.{join_with_byte}
use Rattle.std.proofs.lemmas.Bool.{and_parts}
use Rattle.std.proofs.lemmas.List.Splits.{join_with_byte-slice_split}
use Rattle.std.proofs.lemmas.Option.{same_Some, some_pair_parts}
use Rattle.std.proofs.lemmas.Slice.Eq.{bytes_eq-Decides}
use Rattle.thin_form.specs.Choices.{choose}
use Rattle.thin_form.specs.Lines.{read_assigned, read_assignment, read_import, read_line}
use Rattle.thin_form.specs.Sliders.{Bounds, slider, are_bounds, bounds_in, read_bounds}
use Rattle.thin_form.specs.Sums.{read_sum}
use Rattle.thin_form.specs.Words.{words, two_words, target, without_front, without_back}
use Rattle.form_meaning.specs.Thin.{Elements, is_line, head_text}
use Rattle.py_tree.specs.Names.{Name, is_name}
use Rattle.py_tree.specs.Trees.{Tree, Head, value, assign}
use Rattle.thin_form.proofs.Ends.{front_on, back_on}
use Rattle.thin_form.proofs.Forms.{slider_made}
use Rattle.thin_form.proofs.LineCases.{sum_assigned, slider_assigned}
use Rattle.thin_form.proofs.Options.{bind_ok, map_ok, cond_ok}
use Rattle.thin_form.proofs.Spellings.{spellings, head_spellings, head_joined}
use Rattle.thin_form.proofs.SumFound.{sum_found}
use Rattle.thin_form.proofs.Targets.{target_found}

-- the bounds of a slider, and its words
pub record BoundsOf (ws : List (List ℕ)) (b : Bounds) : Type 0 where
  pub ordered : are_bounds b.low b.high ≡ true
  pub spelled : spellings (slider b) ≡ ws

pub two_found : (ws : List (List ℕ)) (a b : List ℕ) → ◌≡◌ {A = Option (List ℕ × List ℕ)} (two_words ws) (Some (a, b)) → a ∷ b ∷ [] ≡ ws
two_found [] a b e = absurd (cc)
two_found (x ∷ []) a b e = absurd (cc)
two_found (x ∷ y ∷ []) a b e = let same = some_pair_parts _ _ _ _ e in cc
two_found (x ∷ y ∷ z ∷ zs) a b e = absurd (cc)

bounds_in_found : (first second : List ℕ) (b : Bounds) → bounds_in first second ≡ Some b → BoundsOf (first ∷ second ∷ []) b
bounds_in_found first second b e =
    let front = bind_ok (without_front (codes "mo.ui.slider(") first) _ b e in
    let low = bind_ok (without_back (codes ",") front.0) _ b front.2 in
    let high = bind_ok (without_back (codes ")") second) _ b low.2 in
    let taken = cond_ok _ _ b high.2 in
    let one : codes "mo.ui.slider(" ++ (low.0 ++ codes ",") ≡ first =
    ap (λ t. codes "mo.ui.slider(" ++ t) (sym (back_on _ _ _ low.1)) ∙ sym (front_on _ _ _ front.1) in
    let two : high.0 ++ codes ")" ≡ second = sym (back_on _ _ _ high.1) in
    subst (BoundsOf (first ∷ second ∷ [])) (same_Some _ _ taken.1)
    (record { ordered = taken.0; spelled = ap (λ w. w ∷ (high.0 ++ codes ")") ∷ []) one ∙ ap (λ w. first ∷ w ∷ []) two })

pub bounds_found : (ws : List (List ℕ)) (b : Bounds) → read_bounds ws ≡ Some b → BoundsOf ws b
bounds_found ws b e =
    let two = bind_ok (two_words ws) _ b e in
    subst (λ ws. BoundsOf ws b) (two_found ws two.0.0 two.0.1 two.1) (bounds_in_found two.0.0 two.0.1 b two.2)

-- a line, and its words
record LineOf (es : Elements) (ws : List (List ℕ)) (h : Head) : Type 0 where
  is : is_line es h ≡ true
  spelled : head_spellings h ≡ ws

assigned_by : (es : Elements) (x : Name) (ws : List (List ℕ)) (s i : Bool) (t : Tree) → es.is_slider x ≡ s → es.imported ≡ i → is_name x ≡ true
    → cond s (cond i (option_map slider (read_bounds ws)) None) (read_sum es ws) ≡ Some t → LineOf es (x ∷ codes "=" ∷ ws) (assign (x ∷ []) t)
assigned_by es x ws false i t p q n e =
    let whole = sum_found es ws t e in
    record { is = sum_assigned es x t n (record { plain = p; is = whole.is }); spelled = ap (λ w. x ∷ codes "=" ∷ w) whole.spelled }
assigned_by es x ws true false t p q n e = absurd (cc)
assigned_by es x ws true true t p q n e =
    let read = map_ok slider (read_bounds ws) t e in
    let whole = bounds_found ws read.0 read.1 in
    subst (λ t. LineOf es (x ∷ codes "=" ∷ ws) (assign (x ∷ []) t)) read.2 (record {
      is = slider_assigned es x (slider read.0) n (record { known = p; is = slider_made read.0 whole.ordered; imported = q });
      spelled = ap (λ w. x ∷ codes "=" ∷ w) whole.spelled;
    })

import_by : (es : Elements) (text : List ℕ) (h : Head) → read_import es text ≡ Some h → (is_line es h ≡ true) × (head_text h ≡ text)
import_by es text h e =
    let taken = cond_ok _ _ h e in
    let tests = and_parts _ _ taken.0 in
    let same = (bytes_eq-Decides text (codes "import marimo as mo")).0 tests.0 in
    let P : Head → Type 0 = λ h. (is_line es h ≡ true) × (head_text h ≡ text) in
    subst P (same_Some _ _ taken.1) (tests.1, sym same)

-- the words with one space between them
joined : (es : Elements) (text : List ℕ) (h : Head) → LineOf es (words text) h → (is_line es h ≡ true) × (head_text h ≡ text)
joined es text h line = (line.is, sym (head_joined h) ∙ (ap (join_with_byte 32) line.spelled ∙ join_with_byte-slice_split 32 text))

value_by : (es : Elements) (text : List ℕ) (o : Option Tree) (h : Head) → read_sum es (words text) ≡ o →
    choose o (λ t. Some (value t)) (read_import es text) ≡ Some h → (is_line es h ≡ true) × (head_text h ≡ text)
value_by es text None h p e = import_by es text h e
value_by es text (Some t) h p e =
    let whole = sum_found es (words text) t p in
    joined es text h (subst (LineOf es (words text)) (same_Some _ _ e) (record { is = whole.is; spelled = whole.spelled }))

line_by : (es : Elements) (text : List ℕ) (o : Option (List ℕ × List (List ℕ))) (h : Head) → target (words text) ≡ o →
    choose o (λ p. read_assignment es p.0 p.1) (choose (read_sum es (words text)) (λ t. Some (value t)) (read_import es text)) ≡ Some h →
    (is_line es h ≡ true) × (head_text h ≡ text)
line_by es text None h p e = value_by es text (read_sum es (words text)) h refl e
line_by es text (Some (x, rest)) h p e =
    let taken = cond_ok (is_name x) _ h e in
    let read = map_ok (assign (x ∷ [])) (read_assigned es x rest) h taken.1 in
    let line = assigned_by es x rest (es.is_slider x) es.imported read.0 refl refl taken.0 read.1 in
    let found = target_found (words text) x rest p in
    joined es text h (subst (LineOf es (words text)) read.2 (record { is = line.is; spelled = line.spelled ∙ sym found.0 }))

-- a line of the form that spells the text
pub line_found : (es : Elements) (text : List ℕ) (h : Head) → read_line es text ≡ Some h → (is_line es h ≡ true) × (head_text h ≡ text)
line_found es text h e = line_by es text (target (words text)) h refl e
