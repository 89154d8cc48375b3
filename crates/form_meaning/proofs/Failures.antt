-- Bytes in which no line behind an indent has a space: they make no slider, and don't import `mo`.
use Rattle.std.proofs.Common.{◌≡◌, ℕ, Bool, true, false, ◌&&◌, ◌||◌, ◌==◌, List, [], ◌∷◌, ◌++◌, refl, sym, ap, ◌∙◌, append_assoc}
use Rattle.std.specs.Prelude.{codes}
use Rattle.std.specs.List.{list_any}
use Rattle.std.proofs.lemmas.Bool.{or_left, or_right, false≢true}
use Rattle.std.proofs.lemmas.List.Folds.{list_any-append}
use Rattle.py_tree.specs.Names.{Name}
use Rattle.form_meaning.specs.Fails.{HasLine, HasSlider, AreElements}
use Rattle.form_meaning.specs.Thin.{Elements, tree_text}
use Rattle.py_tree.specs.TextLines.{text_of}

abbrev has_space : List ℕ → Bool
has_space = list_any (λ b. b == 32)

-- an indent, and a space somewhere behind it
abbrev is_spaced : List ℕ → Bool
is_spaced (a ∷ b ∷ c ∷ d ∷ rest) = (a == 32) && (b == 32) && (c == 32) && (d == 32) && has_space rest
is_spaced bytes = false

-- that stands behind a `\n`
abbrev is_spaced_later : List ℕ → Bool
is_spaced_later [] = false
is_spaced_later (b ∷ bs) = ((b == 10) && is_spaced bs) || is_spaced_later bs

-- it stands where a line begins
abbrev pub is_spaced_line : List ℕ → Bool
is_spaced_line bytes = is_spaced bytes || is_spaced_later bytes

later : (line rest : List ℕ) → is_spaced_line rest ≡ true → is_spaced_later (line ++ 10 ∷ rest) ≡ true
later [] rest h = h
later (b ∷ bs) rest h = or_right _ _ (later bs rest h)

cut_first : (y : List ℕ) (ys : List (List ℕ)) (rest : List ℕ) → text_of (y ∷ ys) ++ rest ≡ y ++ 10 ∷ (text_of ys ++ rest)
cut_first y ys rest = simp append_assoc

behind : (before : List (List ℕ)) (rest : List ℕ) → is_spaced_line rest ≡ true → is_spaced_line (text_of before ++ rest) ≡ true
behind [] rest h = h
behind (y ∷ ys) rest h = ap is_spaced_line (cut_first y ys rest) ∙ or_right _ _ (later y _ (behind ys rest h))

left_has : (x y : List ℕ) → has_space x ≡ true → has_space (x ++ y) ≡ true
left_has x y h = list_any-append (λ b. b == 32) x y ∙ or_left _ _ h

right_has : (x y : List ℕ) → has_space y ≡ true → has_space (x ++ y) ≡ true
right_has x y h = list_any-append (λ b. b == 32) x y ∙ or_right _ _ h

spaced : (u after : List ℕ) → has_space u ≡ true → is_spaced (text_of ((codes "    " ++ u) ∷ []) ++ after) ≡ true
spaced u after h = left_has (u ++ 10 ∷ [] ++ []) after (left_has (u ++ 10 ∷ []) [] (left_has u (10 ∷ []) h))

lineless : (bytes u : List ℕ) → is_spaced_line bytes ≡ false → has_space u ≡ true → HasLine bytes (codes "    " ++ u) → ⊥
lineless bytes u none h w =
    let rest : List ℕ = text_of ((codes "    " ++ u) ∷ []) ++ w.1 in
    let parts : bytes ≡ text_of w.0 ++ rest = w.2 ∙ append_assoc (text_of w.0) (text_of ((codes "    " ++ u) ∷ [])) w.1 in
    false≢true (sym none ∙ ap is_spaced_line parts ∙ behind w.0 rest (or_left _ _ (spaced u w.1 h)))

-- no sliders and no import
abbrev pub bare : Elements
bare = record { is_slider = λ x. false; imported = false }

sliderless : (bytes : List ℕ) (x : Name) → is_spaced_line bytes ≡ false → HasSlider bytes x → ⊥
sliderless bytes x none w =
    lineless bytes (x ++ codes " = " ++ tree_text w.0) none (left_has (x ++ codes " = ") (tree_text w.0) (right_has x (codes " = ") refl)) w.3

pub are_bare : (bytes : List ℕ) → is_spaced_line bytes ≡ false → AreElements bytes bare
are_bare bytes none =
    record {
      sliders = λ x. (λ h. absurd (false≢true h), λ w. absurd (sliderless bytes x none w));
      imported = (λ h. absurd (false≢true h), λ w. absurd (lineless bytes (codes "import marimo as mo") none refl w));
    }
