-- The two kinds of assignment.
use Rattle.std.proofs.Common.{◌≡◌, ◌⊎◌, inl, inr, Bool, true, false, not, ◌&&◌, ◌||◌, if◌then◌else◌, List, [], ◌∷◌, refl, sym}
use Rattle.form_meaning.specs.Thin.{Elements, is_sum, makes_slider, is_line}
use Rattle.py_tree.specs.Names.{Name, is_name}
use Rattle.py_tree.specs.Trees.{Tree, call, assign}
use Rattle.thin_form.specs.Lines.{is_call}

-- a sum, to a name that is no slider's
pub record ToSum (es : Elements) (x : Name) (t : Tree) : Type 0 where
  pub plain : es.is_slider x ≡ false
  pub is : is_sum es t ≡ true

-- a slider, to a slider's name, in a file that imports `mo`
pub record ToSlider (es : Elements) (x : Name) (t : Tree) : Type 0 where
  pub known : es.is_slider x ≡ true
  pub is : makes_slider t ≡ true
  pub imported : es.imported ≡ true

pub record Assigned (es : Elements) (targets : List Name) (t : Tree) : Type 0 where
  pub target : Name
  pub only : targets ≡ target ∷ []
  pub named : is_name target ≡ true
  pub kind : ToSum es target t ⊎ ToSlider es target t

-- exactly one of the two
kinds : (es : Elements) (x : Name) (t : Tree) (n p s m i : Bool) → is_name x ≡ n → es.is_slider x ≡ p → is_sum es t ≡ s → makes_slider t ≡ m → es.imported ≡ i
    → (((n && (if false then p else not p)) && s) || ((n && (if true then p else not p)) && m && i)) ≡ true
    → (is_name x ≡ true) × (ToSum es x t ⊎ ToSlider es x t)
kinds es x t true false true m i a b c d e h = (a, inl (record { plain = b; is = c }))
kinds es x t true true s true true a b c d e h = (a, inr (record { known = b; is = d; imported = e }))
kinds es x t false p s m i a b c d e h = absurd (cc)
kinds es x t true false false m i a b c d e h = absurd (cc)
kinds es x t true true s false i a b c d e h = absurd (cc)
kinds es x t true true s true false a b c d e h = absurd (cc)

pub assigned : (es : Elements) (targets : List Name) (t : Tree) → is_line es (assign targets t) ≡ true → Assigned es targets t
assigned es [] t h = absurd (cc)
assigned es (x ∷ []) t h =
    let k = kinds es x t (is_name x) (es.is_slider x) (is_sum es t) (makes_slider t) es.imported refl refl refl refl refl h in
    record { target = x; only = refl; named = k.0; kind = k.1 }
assigned es (x ∷ y ∷ xs) t h = absurd (cc)

-- a line with a call assigns a slider, and with anything else a sum
sum_is_no_call : (es : Elements) (t : Tree) → is_sum es t ≡ true → is_call t ≡ makes_slider t
sum_is_no_call es (call f args comma) h = absurd (cc)
sum_is_no_call es t h = refl

slider_is_call : (t : Tree) → makes_slider t ≡ true → is_call t ≡ makes_slider t
slider_is_call (call f args comma) h = sym h
slider_is_call t h = absurd (cc)

kind_is_call : (es : Elements) (x : Name) (t : Tree) → ToSum es x t ⊎ ToSlider es x t → is_call t ≡ makes_slider t
kind_is_call es x t (inl k) = sum_is_no_call es t k.is
kind_is_call es x t (inr k) = slider_is_call t k.is

pub call_alone : (es : Elements) (targets : List Name) (t : Tree) → is_line es (assign targets t) ≡ true → is_call t ≡ makes_slider t
call_alone es targets t h = let a = assigned es targets t h in kind_is_call es a.target t a.kind

pub sum_assigned : (es : Elements) (x : Name) (t : Tree) → is_name x ≡ true → ToSum es x t → is_line es (assign (x ∷ []) t) ≡ true
sum_assigned es x t n k = rw (n, k.plain, k.is) refl

pub slider_assigned : (es : Elements) (x : Name) (t : Tree) → is_name x ≡ true → ToSlider es x t → is_line es (assign (x ∷ []) t) ≡ true
slider_assigned es x t n k = rw (n, k.known, k.is, k.imported) refl
