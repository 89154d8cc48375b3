-- The lines that make sliders.
use Rattle.std.proofs.Common.{◌≡◌, ℕ, true, List, [], ◌∷◌, ◌++◌, Option, Some, refl, sym, ap, ◌∙◌, subst}
use Rattle.std.specs.Prelude.{codes}
use Rattle.std.specs.Str.{IsUtf8}
use Rattle.std.proofs.lemmas.Option.{same_Some}
use Rattle.thin_form.specs.Choices.{◌>>=◌}
use Rattle.thin_form.specs.Lines.{read_line}
use Rattle.thin_form.specs.Sliders.{Bounds, slider, read_bounds, slider_name, slider_in}
use Rattle.thin_form.specs.Words.{words, target, without_front}
use Rattle.form_meaning.specs.Thin.{Elements, makes_slider, is_line, head_text, line_text}
use Rattle.py_tree.specs.Names.{Name, is_name}
use Rattle.py_tree.specs.Trees.{Tree, assign}
use Rattle.thin_form.proofs.Ends.{front_on, front_off}
use Rattle.thin_form.proofs.Forms.{slider_made}
use Rattle.thin_form.proofs.LineCases.{slider_assigned}
use Rattle.thin_form.proofs.LineFound.{bounds_found, line_found}
use Rattle.thin_form.proofs.LineOnly.{slider_read, line_split, line_is_text}
use Rattle.thin_form.proofs.Options.{bind_ok, map_ok, cond_ok}
use Rattle.thin_form.proofs.Spellings.{spellings, some_words}
use Rattle.thin_form.proofs.Targets.{target-assign}

-- where each name is that of a slider
abbrev pub all_sliders : Elements
all_sliders = record { is_slider = λ x. true; imported = true }

pub slider_fits : (x : Name) (t : Tree) → is_name x ≡ true → makes_slider t ≡ true → is_line all_sliders (assign (x ∷ []) t) ≡ true
slider_fits x t n m = slider_assigned all_sliders x t n (record { known = refl; is = m; imported = refl })

-- a text that assigns a slider to a name
pub record Makes (x : Name) (text : List ℕ) : Type 0 where
  pub tree : Tree
  pub named : is_name x ≡ true
  pub made : makes_slider tree ≡ true
  pub spelled : text ≡ head_text (assign (x ∷ []) tree)

read_by : (text : List ℕ) (x : Name) (rest : List (List ℕ)) (b : Bounds) → ◌≡◌ {A = Option (List ℕ × List (List ℕ))} (target (words text)) (Some (x, rest))
    → is_name x ≡ true → read_bounds rest ≡ Some b → read_line all_sliders text ≡ Some (assign (x ∷ []) (slider b))
read_by text x rest b t n r = rw (t, n, r) refl

name_found : (text : List ℕ) (x : Name) → slider_name text ≡ Some x → Makes x text
name_found text x e =
    let split = bind_ok (target (words text)) _ x e in
    let taken = cond_ok (is_name split.0.0) _ x split.2 in
    let read = bind_ok (read_bounds split.0.1) _ x taken.1 in
    let same : split.0.0 ≡ x = same_Some _ _ read.2 in
    let line = line_found all_sliders text _ (read_by text split.0.0 split.0.1 read.0 split.1 taken.0 read.1) in
    subst (λ x. Makes x text) same
    (record { tree = slider read.0; named = taken.0; made = slider_made read.0 (bounds_found split.0.1 read.0 read.1).ordered; spelled = sym line.1 })

name_only : (x : Name) (t : Tree) → is_name x ≡ true → makes_slider t ≡ true → slider_name (head_text (assign (x ∷ []) t)) ≡ Some x
name_only x t n m =
    let bounds = map_ok slider (read_bounds (spellings t)) t (slider_read t m) in
    let split = line_split all_sliders (assign (x ∷ []) t) (slider_fits x t n m) in
    rw (split, target-assign x (spellings t) (some_words t), n, bounds.1) refl

-- the same of a whole line
pub slider_found : (line : List ℕ) (x : Name) → slider_in line ≡ Some x → (text : List ℕ) × Makes x text × (line ≡ codes "    " ++ text)
slider_found line x e =
    let front = bind_ok (without_front (codes "    ") line) slider_name x e in
    (front.0, name_found front.0 x front.2, front_on (codes "    ") line front.0 front.1)

pub slider_only : (x : Name) (t : Tree) → is_name x ≡ true → makes_slider t ≡ true → slider_in (line_text (assign (x ∷ []) t)) ≡ Some x
slider_only x t n m = ap (λ o. o >>= slider_name) (front_off (codes "    ") (head_text (assign (x ∷ []) t))) ∙ name_only x t n m

-- a slider's text is UTF-8
pub slider_text : (line : List ℕ) (x : Name) → slider_in line ≡ Some x → (text : List ℕ) × (line ≡ codes "    " ++ text) × IsUtf8 text
slider_text line x e =
    let found = slider_found line x e in
    let m = found.1 in
    (found.0, found.2, subst IsUtf8 (sym m.spelled) (line_is_text all_sliders (assign (x ∷ []) m.tree) (slider_fits x m.tree m.named m.made)))
