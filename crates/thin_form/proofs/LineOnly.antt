-- Each line of the form is what is read from its text.
use Rattle.std.proofs.Common.{◌≡◌, ◌⊎◌, inl, inr, ℕ, ◌<◌, true, List, [], ◌∷◌, ◌++◌, length, Some, refl, sym, ap, ◌∙◌, subst, arith}
use Rattle.std.specs.Prelude.{codes, option_map}
use Rattle.std.specs.Str.{IsUtf8}
use Rattle.std.proofs.lemmas.Bool.{and_parts}
use Rattle.std.proofs.lemmas.Str.{IsUtf8-from_ascii}
use Rattle.thin_form.specs.Lines.{read_assigned, read_line}
use Rattle.thin_form.specs.Sliders.{Bounds, slider, are_bounds, read_bounds}
use Rattle.thin_form.specs.Words.{words, without_back}
use Rattle.form_meaning.specs.Thin.{Elements, is_line, makes_slider, head_text}
use Rattle.py_tree.specs.Names.{Name, is_name}
use Rattle.py_tree.specs.Trees.{Tree, Head, value, assign, import_mo}
use Rattle.thin_form.proofs.Cuts.{words-join, join_ascii}
use Rattle.thin_form.proofs.Ends.{front_off, back_off}
use Rattle.thin_form.proofs.Forms.{slider_form}
use Rattle.thin_form.proofs.LineCases.{ToSum, ToSlider, assigned}
use Rattle.thin_form.proofs.Spellings.{spellings, head_spellings, some_words, head_joined}
use Rattle.thin_form.proofs.SumOnly.{sum_read, sum_no_target}
use Rattle.thin_form.proofs.Targets.{target-assign}
use Rattle.thin_form.proofs.WordBytes.{line_words}

bounds_read : (b : Bounds) → are_bounds b.low b.high ≡ true → read_bounds (spellings (slider b)) ≡ Some b
bounds_read b h =
    rw (front_off (codes "mo.ui.slider(") (b.low ++ codes ","), back_off (codes ",") b.low, back_off (codes ")") b.high, h) refl

pub slider_read : (t : Tree) → makes_slider t ≡ true → option_map slider (read_bounds (spellings t)) ≡ Some t
slider_read t h =
    let s = slider_form t h in
    ap (λ t. option_map slider (read_bounds (spellings t))) s.is ∙ (ap (option_map slider) (bounds_read s.bounds s.ordered) ∙ ap Some (sym s.is))

kind_read : (es : Elements) (x : Name) (t : Tree) → ToSum es x t ⊎ ToSlider es x t → read_assigned es x (spellings t) ≡ Some t
kind_read es x t (inl k) = rw k.plain (sum_read es t k.is)
kind_read es x t (inr k) = rw (k.known, k.imported) (slider_read t k.is)

-- an assignment is read back
assigned_read : (es : Elements) (text : List ℕ) (x : Name) (t : Tree) → is_name x ≡ true → read_assigned es x (spellings t) ≡ Some t
    → words text ≡ x ∷ codes "=" ∷ spellings t → read_line es text ≡ Some (assign (x ∷ []) t)
assigned_read es text x t n r e = rw (e, target-assign x (spellings t) (some_words t), n, r) refl

some_line_words : (h : Head) → 0 < length (head_spellings h)
some_line_words (value t) = some_words t
some_line_words h = omega arith

pub line_split : (es : Elements) (h : Head) → is_line es h ≡ true → words (head_text h) ≡ head_spellings h
line_split es h e = ap words (sym (head_joined h)) ∙ words-join (head_spellings h) (some_line_words h) (line_words es h e)

value_read : (es : Elements) (text : List ℕ) (t : Tree) → is_line es (value t) ≡ true → words text ≡ spellings t → read_line es text ≡ Some (value t)
value_read es text t h e = rw (e, sum_no_target es t (and_parts _ _ h).0, sum_read es t h) refl

import_read : (es : Elements) → es.imported ≡ true → read_line es (head_text import_mo) ≡ Some import_mo
unfolding without_back
import_read es h = rw h refl

pub line_only : (es : Elements) (h : Head) → is_line es h ≡ true → read_line es (head_text h) ≡ Some h
line_only es (value t) h = value_read es (head_text (value t)) t h (line_split es (value t) h)
line_only es (assign targets t) h =
    let a = assigned es targets t h in
    let text = head_text (assign targets t) in
    let split : words text ≡ a.target ∷ codes "=" ∷ spellings t =
    line_split es (assign targets t) h ∙ ap (λ xs. head_spellings (assign xs t)) a.only in
    assigned_read es text a.target t a.named (kind_read es a.target t a.kind) split ∙ ap (λ xs. Some (assign xs t)) (sym a.only)
line_only es import_mo h = import_read es h
line_only es head h = absurd (cc)

pub line_is_text : (es : Elements) (h : Head) → is_line es h ≡ true → IsUtf8 (head_text h)
line_is_text es h e = subst IsUtf8 (head_joined h) (IsUtf8-from_ascii _ (join_ascii (head_spellings h) (line_words es h e)))
