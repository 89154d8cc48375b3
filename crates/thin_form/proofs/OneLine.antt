-- The text of a line of the form is that of no other.
use Rattle.std.proofs.Common.{◌≡◌, ℕ, Bool, true, false, not, cond, eqb, List, [], ◌∷◌, Option, None, Some, IsTrue, refl, sym, ap, ◌∙◌, subst, arith}
use Rattle.std.specs.Prelude.{codes, option_map}
use Rattle.std.specs.List.{join_with_byte}
use Rattle.std.proofs.lemmas.Bool.{and_parts, and_from, ltb-true, not_from_false, ne_eqb}
use Rattle.std.proofs.lemmas.List.{append_cancel_left}
use Rattle.std.proofs.lemmas.List.Folds.{list_all-append}
use Rattle.std.proofs.lemmas.Option.{same_Some}
use Rattle.std.proofs.lemmas.Slice.Eq.{bytes_eq-Decides}
use Rattle.thin_form.specs.Choices.{choose}
use Rattle.py_tree.specs.TextLines.{is_unbroken}
use Rattle.thin_form.specs.Lines.{read_assigned, read_assignment, read_import, read_line}
use Rattle.thin_form.specs.Sliders.{Bounds, slider, read_bounds}
use Rattle.thin_form.specs.Sums.{numeral, value_of, read_value, read_term, read_more, read_sum}
use Rattle.thin_form.specs.Words.{words, two_words, target, without_back}
use Rattle.form_meaning.specs.Thin.{Elements, is_line, head_text, line_text, last_line}
use Rattle.py_tree.specs.Names.{is_name}
use Rattle.py_tree.specs.Numbers.{is_number}
use Rattle.py_tree.specs.Trees.{Tree, name, binary, Add, Head, value, assign}
use Rattle.thin_form.proofs.Cuts.{is_word_byte, AreWords, list_all-weaker}
use Rattle.thin_form.proofs.LineFound.{two_found}
use Rattle.thin_form.proofs.LineOnly.{line_only}
use Rattle.thin_form.proofs.Options.{bind_ok, map_ok, cond_ok}
use Rattle.thin_form.proofs.Spellings.{head_spellings, head_joined}
use Rattle.thin_form.proofs.WordBytes.{line_words}

none_some : {A : Type 0} {x : A} → None ≡ Some x → ⊥
none_some e = absurd (cc)

-- ---- what is read is the same with any elements

value_alike : (es fs : Elements) (w : List ℕ) (t u : Tree) → read_value es w ≡ Some t → read_value fs w ≡ Some u → t ≡ u
value_alike es fs w t u p q =
    let a = bind_ok (without_back (codes ".value") w) _ t p in
    let b = bind_ok (without_back (codes ".value") w) _ u q in
    let x = same_Some _ _ (sym a.1 ∙ b.1) in
    sym (same_Some _ _ (cond_ok _ _ t a.2).1) ∙ (ap value_of x ∙ same_Some _ _ (cond_ok _ _ u b.2).1)

taken_by : {A : Type 0} (b : Bool) (x y : A) → cond b None (Some x) ≡ Some y → x ≡ y
taken_by true x y e = absurd (cc)
taken_by false x y e = same_Some _ _ e

term_alike : (es fs : Elements) (w : List ℕ) (n d : Bool) (t u : Tree) →
    cond n (cond (es.is_slider w) None (Some (name w))) (cond d (Some (numeral w)) (read_value es w)) ≡ Some t →
    cond n (cond (fs.is_slider w) None (Some (name w))) (cond d (Some (numeral w)) (read_value fs w)) ≡ Some u → t ≡ u
term_alike es fs w true d t u p q = sym (taken_by _ _ _ p) ∙ taken_by _ _ _ q
term_alike es fs w false true t u p q = sym (same_Some _ _ p) ∙ same_Some _ _ q
term_alike es fs w false false t u p q = value_alike es fs w t u p q

more_alike : (es fs : Elements) (t : Tree) (ws : List (List ℕ)) (u v : Tree) → read_more es t ws ≡ Some u → read_more fs t ws ≡ Some v → u ≡ v
more_alike es fs t [] u v p q = sym (same_Some _ _ p) ∙ same_Some _ _ q
more_alike es fs t (mark ∷ []) u v p q = absurd (cc)
more_alike es fs t (mark ∷ word ∷ rest) u v p q =
    let a = bind_ok (read_term es word) (λ x. read_more es (binary Add t x) rest) u (cond_ok _ _ u p).1 in
    let b = bind_ok (read_term fs word) (λ x. read_more fs (binary Add t x) rest) v (cond_ok _ _ v q).1 in
    let same = term_alike es fs word (is_name word) (is_number word) a.0 b.0 a.1 b.1 in
    more_alike es fs (binary Add t a.0) rest u v a.2 (subst (λ x. read_more fs (binary Add t x) rest ≡ Some v) (sym same) b.2)

sum_alike : (es fs : Elements) (ws : List (List ℕ)) (t u : Tree) → read_sum es ws ≡ Some t → read_sum fs ws ≡ Some u → t ≡ u
sum_alike es fs [] t u p q = absurd (cc)
sum_alike es fs (word ∷ rest) t u p q =
    let a = bind_ok (read_term es word) (λ x. read_more es x rest) t p in
    let b = bind_ok (read_term fs word) (λ x. read_more fs x rest) u q in
    let same = term_alike es fs word (is_name word) (is_number word) a.0 b.0 a.1 b.1 in
    more_alike es fs a.0 rest t u a.2 (subst (λ x. read_more fs x rest ≡ Some u) (sym same) b.2)

-- the words of a slider are two, and those of a sum are not
two_no_sum : (es : Elements) (a b : List ℕ) (t : Tree) → read_sum es (a ∷ b ∷ []) ≡ Some t → ⊥
two_no_sum es a b t e =
    let read = bind_ok (read_term es a) (λ x. read_more es x (b ∷ [])) t e in
    absurd (none_some read.2)

slider_no_sum : (es : Elements) (ws : List (List ℕ)) (b : Bounds) (t : Tree) → read_bounds ws ≡ Some b → read_sum es ws ≡ Some t → ⊥
slider_no_sum es ws b t p q =
    let two = bind_ok (two_words ws) _ b p in
    two_no_sum es two.0.0 two.0.1 t (ap (read_sum es) (two_found ws two.0.0 two.0.1 two.1) ∙ q)

assigned_alike : (es fs : Elements) (ws : List (List ℕ)) (s r i j : Bool) (t u : Tree)
    → cond s (cond i (option_map slider (read_bounds ws)) None) (read_sum es ws) ≡ Some t
    → cond r (cond j (option_map slider (read_bounds ws)) None) (read_sum fs ws) ≡ Some u → t ≡ u
assigned_alike es fs ws false false i j t u p q = sum_alike es fs ws t u p q
assigned_alike es fs ws false true i true t u p q = let a = map_ok slider (read_bounds ws) u q in absurd (slider_no_sum es ws a.0 t a.1 p)
assigned_alike es fs ws false true i false t u p q = absurd (cc)
assigned_alike es fs ws true false true j t u p q = let a = map_ok slider (read_bounds ws) t p in absurd (slider_no_sum fs ws a.0 u a.1 q)
assigned_alike es fs ws true false false j t u p q = absurd (cc)
assigned_alike es fs ws true true true true t u p q = same_Some _ _ (sym p ∙ q)
assigned_alike es fs ws true true false j t u p q = absurd (cc)
assigned_alike es fs ws true true true false t u p q = absurd (cc)

import_no_sum : (es : Elements) → read_sum es (words (codes "import marimo as mo")) ≡ None
unfolding without_back
import_no_sum es = refl

import_words : (es fs : Elements) (text : List ℕ) (t : Tree) (h : Head) → read_sum es (words text) ≡ Some t → read_import fs text ≡ Some h → ⊥
import_words es fs text t h p q =
    let same = (bytes_eq-Decides text (codes "import marimo as mo")).0 (and_parts _ _ (cond_ok _ _ h q).0).0 in
    absurd (none_some (sym (import_no_sum es) ∙ (ap (λ s. read_sum es (words s)) (sym same) ∙ p)))

value_alike_by : (es fs : Elements) (text : List ℕ) (o r : Option Tree) (a b : Head) → read_sum es (words text) ≡ o → read_sum fs (words text) ≡ r
    → choose o (λ t. Some (value t)) (read_import es text) ≡ Some a → choose r (λ t. Some (value t)) (read_import fs text) ≡ Some b → a ≡ b
value_alike_by es fs text None None a b p q x y = sym (same_Some _ _ (cond_ok _ _ a x).1) ∙ same_Some _ _ (cond_ok _ _ b y).1
value_alike_by es fs text None (Some u) a b p q x y = absurd (import_words fs es text u a q x)
value_alike_by es fs text (Some t) None a b p q x y = absurd (import_words es fs text t b p y)
value_alike_by es fs text (Some t) (Some u) a b p q x y =
    sym (same_Some _ _ x) ∙ (ap value (sum_alike es fs (words text) t u p q) ∙ same_Some _ _ y)

line_alike_by : (es fs : Elements) (text : List ℕ) (o : Option (List ℕ × List (List ℕ))) (a b : Head)
    → choose o (λ p. read_assignment es p.0 p.1) (choose (read_sum es (words text)) (λ t. Some (value t)) (read_import es text)) ≡ Some a
    → choose o (λ p. read_assignment fs p.0 p.1) (choose (read_sum fs (words text)) (λ t. Some (value t)) (read_import fs text)) ≡ Some b → a ≡ b
line_alike_by es fs text None a b p q = value_alike_by es fs text (read_sum es (words text)) (read_sum fs (words text)) a b refl refl p q
line_alike_by es fs text (Some (x, rest)) a b p q =
    let one = map_ok (assign (x ∷ [])) (read_assigned es x rest) a (cond_ok (is_name x) _ a p).1 in
    let two = map_ok (assign (x ∷ [])) (read_assigned fs x rest) b (cond_ok (is_name x) _ b q).1 in
    let same = assigned_alike es fs rest (es.is_slider x) (fs.is_slider x) es.imported fs.imported one.0 two.0 one.1 two.1 in
    sym one.2 ∙ (ap (assign (x ∷ [])) same ∙ two.2)

line_alike : (es fs : Elements) (text : List ℕ) (a b : Head) → read_line es text ≡ Some a → read_line fs text ≡ Some b → a ≡ b
line_alike es fs text a b p q = line_alike_by es fs text (target (words text)) a b p q

-- lines with one text are one, whatever the elements
pub line_one : (es fs : Elements) (a b : Head) → IsTrue (is_line es a) → IsTrue (is_line fs b) → line_text a ≡ line_text b → a ≡ b
line_one es fs a b p q e =
    let text : head_text a ≡ head_text b = append_cancel_left (codes "    ") _ _ e in
    line_alike es fs (head_text b) a b (ap (read_line es) (sym text) ∙ line_only es a p) (line_only fs b q)

-- ---- the bytes of a line

unbroken_byte : (b : ℕ) → is_word_byte b ≡ true → not (eqb b 10) ≡ true
unbroken_byte b h =
    let past = ltb-true 32 b (and_parts _ _ h).0 in
    not_from_false (eqb b 10) (ne_eqb b 10 (λ e. omega arith))

unbroken_words : (ws : List (List ℕ)) → AreWords ws → IsTrue (is_unbroken (join_with_byte 32 ws))
unbroken_words [] h = refl
unbroken_words (w ∷ []) h = list_all-weaker is_word_byte _ unbroken_byte w (and_parts _ _ h).0
unbroken_words (w ∷ v ∷ vs) h =
    let s = and_parts _ _ h in
    list_all-append (λ b. not (eqb b 10)) w (32 ∷ join_with_byte 32 (v ∷ vs))
    ∙ and_from _ _ (list_all-weaker is_word_byte _ unbroken_byte w s.0) (unbroken_words (v ∷ vs) s.1)

pub line_unbroken : (es : Elements) (h : Head) → IsTrue (is_line es h) → IsTrue (is_unbroken (line_text h))
line_unbroken es h e = subst (λ t. IsTrue (is_unbroken t)) (head_joined h) (unbroken_words (head_spellings h) (line_words es h e))

no_last : (es : Elements) → read_line es (codes "app.run()") ≡ None
unfolding without_back
no_last es = refl

pub not_last : (es : Elements) (h : Head) → IsTrue (is_line es h) → line_text h ≡ last_line → ⊥
not_last es h e same =
    let text : head_text h ≡ codes "app.run()" = append_cancel_left (codes "    ") _ _ same in
    none_some (sym (no_last es) ∙ (ap (read_line es) (sym text) ∙ line_only es h e))
