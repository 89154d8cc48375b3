-- What is known of elements when the lines up to a place were read.
use Rattle.std.proofs.Common.{◌≡◌, ◌⊎◌, inl, inr, ◌↔◌, ℕ, Bool, true, false, ◌||◌, List, [], ◌∷◌, ◌++◌, Option, None, Some, IsTrue, refl, ap, ◌∙◌, subst}
use Rattle.std.specs.Prelude.{codes}
use Rattle.std.specs.Str.{bytes_eq}
use Rattle.std.proofs.lemmas.Option.{same_Some}
use Rattle.std.proofs.lemmas.Slice.Eq.{bytes_eq-Decides}
use Rattle.thin_form.specs.SliderNames.{Known, as_elements, unknown, is_just, Learns}
use Rattle.py_tree.specs.TextLines.{is_unbroken}
use Rattle.thin_form.specs.Sliders.{slider_in}
use Rattle.form_meaning.specs.Fails.{HasLine, HasSlider, AreElements}
use Rattle.form_meaning.specs.Thin.{line_text}
use Rattle.py_tree.specs.Names.{Name, is_among}
use Rattle.py_tree.specs.Trees.{assign, import_mo}
use Rattle.thin_form.proofs.HasLines.{IsLineless, has_first, has_later, first_or_later, lineless}
use Rattle.thin_form.proofs.OneLine.{line_unbroken}
use Rattle.thin_form.proofs.SliderLines.{all_sliders, slider_fits, slider_found, slider_only}

-- what the lines of the bytes say is known, or is said by the lines of the rest
pub record Scanned (bytes rest : List ℕ) (known : Known) : Type 0 where
  sliders : (x : Name) → HasSlider bytes x ↔ (IsTrue (is_among x known.sliders) ⊎ HasSlider rest x)
  imported : HasLine bytes (line_text import_mo) ↔ (IsTrue known.imported ⊎ HasLine rest (line_text import_mo))

-- nothing is known, or something else
from_false : {A : Type 0} → (IsTrue false ⊎ A) → A
from_false (inl e) = absurd (cc)
from_false (inr a) = a

pub nothing_scanned : (bytes : List ℕ) → Scanned bytes bytes unknown
nothing_scanned bytes = record { sliders = λ x. (inr, from_false); imported = (inr, from_false) }

-- one of two tests passes
known_before : (a b : Bool) → IsTrue a → IsTrue (a || b)
known_before true b e = refl
known_before false b e = absurd (cc)

known_now : (a b : Bool) → IsTrue b → IsTrue (a || b)
known_now true b e = refl
known_now false b e = e

either : (a b : Bool) → IsTrue (a || b) → IsTrue a ⊎ IsTrue b
either true b e = inl refl
either false b e = inr e

-- one more step of an equivalence: what was known or comes later is known now or comes after that
next_known : {H L M : Type 0} (old new here : Bool) → new ≡ (old || here) → H ↔ (IsTrue old ⊎ L) → (L → IsTrue here ⊎ M) → (IsTrue here → L) → (M → L) → H ↔ (IsTrue new ⊎ M)
next_known {H} {L} {M} old new here e f split first later = (to, from)
  where
    place : IsTrue here ⊎ M → IsTrue new ⊎ M
    place (inl h) = inl (rw e (known_now old here h))
    place (inr m) = inr m

    sort : IsTrue old ⊎ L → IsTrue new ⊎ M
    sort (inl o) = inl (rw e (known_before old here o))
    sort (inr l) = place (split l)

    to : H → IsTrue new ⊎ M
    to h = sort (f.0 h)

    back : IsTrue old ⊎ IsTrue here → H
    back (inl o) = f.1 (inl o)
    back (inr h) = f.1 (inr (first h))

    from : IsTrue new ⊎ M → H
    from (inl n) = back (either old here (rw e at n))
    from (inr m) = f.1 (inr (later m))

-- a line that makes a slider of the name
just_this : (o : Option Name) (x : Name) → IsTrue (is_just o x) → o ≡ Some x
just_this None x e = absurd (cc)
just_this (Some y) x e = ap Some ((bytes_eq-Decides y x).0 e)

this_just : (o : Option Name) (x : Name) → o ≡ Some x → IsTrue (is_just o x)
this_just None x e = absurd (cc)
this_just (Some y) x e = (bytes_eq-Decides y x).1 (same_Some y x e)

slider_here : (line after : List ℕ) (x : Name) → IsTrue (is_just (slider_in line) x) → HasSlider (line ++ 10 ∷ after) x
slider_here line after x e =
    let found = slider_found line x (just_this (slider_in line) x e) in
    let m = found.1 in
    let same : line ≡ line_text (assign (x ∷ []) m.tree) = found.2 ∙ ap (λ t. codes "    " ++ t) m.spelled in
    (m.tree, m.named, m.made, subst (HasLine (line ++ 10 ∷ after)) same (has_first line after))

slider_later : (line after : List ℕ) (x : Name) → HasSlider after x → HasSlider (line ++ 10 ∷ after) x
slider_later line after x (t, n, m, h) = (t, n, m, has_later line after (line_text (assign (x ∷ []) t)) h)

slider_split : (line after : List ℕ) (x : Name) → IsTrue (is_unbroken line) → HasSlider (line ++ 10 ∷ after) x → IsTrue (is_just (slider_in line) x) ⊎ HasSlider after x
slider_split line after x p (t, n, m, h) =
    sorted (first_or_later line after (line_text (assign (x ∷ []) t)) p (line_unbroken all_sliders (assign (x ∷ []) t) (slider_fits x t n m)) h)
  where
    sorted : (line ≡ line_text (assign (x ∷ []) t)) ⊎ HasLine after (line_text (assign (x ∷ []) t)) → IsTrue (is_just (slider_in line) x) ⊎ HasSlider after x
    sorted (inl e) = inl (this_just (slider_in line) x (ap slider_in e ∙ slider_only x t n m))
    sorted (inr h) = inr (t, n, m, h)

import_split : (line after : List ℕ) → IsTrue (is_unbroken line) → HasLine (line ++ 10 ∷ after) (line_text import_mo) → IsTrue (bytes_eq line (codes "    import marimo as mo")) ⊎ HasLine after (line_text import_mo)
import_split line after p h = sorted (first_or_later line after (line_text import_mo) p refl h)
  where
    sorted : (line ≡ line_text import_mo) ⊎ HasLine after (line_text import_mo) → IsTrue (bytes_eq line (codes "    import marimo as mo")) ⊎ HasLine after (line_text import_mo)
    sorted (inl e) = inl ((bytes_eq-Decides line (codes "    import marimo as mo")).1 e)
    sorted (inr h) = inr h

import_here : (line after : List ℕ) → IsTrue (bytes_eq line (codes "    import marimo as mo")) → HasLine (line ++ 10 ∷ after) (line_text import_mo)
import_here line after e = subst (HasLine (line ++ 10 ∷ after)) ((bytes_eq-Decides line (codes "    import marimo as mo")).0 e) (has_first line after)

pub line_scanned : (bytes line after : List ℕ) (before known : Known) → IsTrue (is_unbroken line) → Learns line before known → Scanned bytes (line ++ 10 ∷ after) before
    → Scanned bytes after known
line_scanned bytes line after before known p l s = record {
  sliders = λ x. next_known (is_among x before.sliders) (is_among x known.sliders) (is_just (slider_in line) x) (l.sliders x) (s.sliders x)
      (slider_split line after x p) (slider_here line after x) (slider_later line after x);
  imported = next_known before.imported known.imported (bytes_eq line (codes "    import marimo as mo")) l.imported s.imported
      (import_split line after p) (import_here line after) (has_later line after (line_text import_mo));
}

-- where no line is left
no_more : {A B : Type 0} → (B → ⊥) → A ⊎ B → A
no_more none (inl a) = a
no_more none (inr b) = absurd (none b)

no_slider : (rest : List ℕ) (x : Name) → IsLineless rest → HasSlider rest x → ⊥
no_slider rest x none (t, n, m, h) = lineless rest (line_text (assign (x ∷ []) t)) none h

pub all_scanned : (bytes rest : List ℕ) (known : Known) → IsLineless rest → Scanned bytes rest known → AreElements bytes (as_elements known)
all_scanned bytes rest known none s = record {
  sliders = λ x. (λ e. (s.sliders x).1 (inl e), λ h. no_more (no_slider rest x none) ((s.sliders x).0 h));
  imported = (λ e. s.imported.1 (inl e), λ h. no_more (lineless rest (line_text import_mo) none) (s.imported.0 h));
}
