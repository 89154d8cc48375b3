-- What the lines of a file of the form say of its elements is what its cells say.
use Rattle.std.proofs.Common.{◌≡◌, inl, inr, ℕ, ◌+◌, Bool, true, false, cond, ◌&&◌, ◌||◌, IsTrue, List, [], ◌∷◌, ◌++◌, refl, sym, ap, ◌∙◌, append-nil, subst}
use Rattle.std.specs.Prelude.{flat_map}
use Rattle.std.specs.List.{list_any}
use Rattle.std.specs.Str.{bytes_eq}
use Rattle.std.proofs.Math.Path.{fun_ext}
use Rattle.std.proofs.lemmas.Bool.{and_parts, and_from, or_cases, or_left, or_right, false≢true}
use Rattle.std.proofs.lemmas.Bool.Decides.{same_from_decides}
use Rattle.std.proofs.lemmas.List.Folds.{list_any-append}
use Rattle.thin_form.proofs.Among.{equal_bytes, has, has-append, has_first, has_left, has_line, has_right, line_has}
use Rattle.thin_form.proofs.OneLine.{line_one, line_unbroken, not_last}
use Rattle.thin_form.proofs.OneToOne.{unbroken_file}
use Rattle.thin_form.proofs.Parts.{cell_parts, first_line}
use Rattle.form_meaning.specs.Fails.{HasLine, AreElements}
use Rattle.form_meaning.specs.Thin.{Elements, makes_slider, is_target, is_line, is_sum, are_lines, line_count, are_cells, head_sliders, sliders, is_import, has_import, elements_of, line_text, body_lines, cell_lines, last_line, footer, file_lines}
use Rattle.py_tree.specs.TextLines.{text_of}
use Rattle.py_tree.proofs.NamesOf.{name_of}
use Rattle.py_tree.specs.Names.{Name, is_among, is_name}
use Rattle.py_tree.specs.Trees.{Tree, Head, assign, import_mo, stmt, Stmts, end, then_comes, Cell}

-- ---- a test of the lines of cells

-- one of the lines passes the test
abbrev any_head : (Head → Bool) → Stmts → Bool
any_head p end = false
any_head p (then_comes (stmt k h block) rest) = p h || any_head p rest

abbrev any_in : (Head → Bool) → List Cell → Bool
any_in p nb = list_any (λ (c : Cell). any_head p c.body) nb

-- the import
imports_body : (s : Stmts) → has_import s ≡ any_head is_import s
imports_body end = refl
imports_body (then_comes (stmt k h block) rest) = ap (λ (b : Bool). is_import h || b) (imports_body rest)

imports : (nb : List Cell) → list_any (λ (c : Cell). has_import c.body) nb ≡ any_in is_import nb
imports [] = refl
imports (c ∷ cs) =
    ap (λ (b : Bool). b || list_any (λ (d : Cell). has_import d.body) cs) (imports_body c.body) ∙ ap (λ (b : Bool). any_head is_import c.body || b) (imports cs)

-- a slider of this name
abbrev makes : Name → Head → Bool
makes x h = is_among x (head_sliders h)

sliders_body : (x : Name) (s : Stmts) → is_among x (sliders s) ≡ any_head (makes x) s
sliders_body x end = refl
sliders_body x (then_comes (stmt k h block) rest) =
    list_any-append (λ (y : Name). bytes_eq y x) (head_sliders h) (sliders rest) ∙ ap (λ (b : Bool). makes x h || b) (sliders_body x rest)

sliders_in : (x : Name) (nb : List Cell) → is_among x (flat_map (λ (c : Cell). sliders c.body) nb) ≡ any_in (makes x) nb
sliders_in x [] = refl
sliders_in x (c ∷ cs) =
    list_any-append (λ (y : Name). bytes_eq y x) (sliders c.body) (flat_map (λ (d : Cell). sliders d.body) cs) ∙
    (ap (λ (b : Bool). b || is_among x (flat_map (λ (d : Cell). sliders d.body) cs)) (sliders_body x c.body) ∙
    ap (λ (b : Bool). any_head (makes x) c.body || b) (sliders_in x cs))

-- ---- a line of cells that passes a test

-- a body line of cells that has the text of a line that passes a test
passes_body : (es fs : Elements) (n : ℕ) (s : Stmts) (h : Head) (p : Head → Bool) → IsTrue (are_lines es n s) → IsTrue (is_line fs h) → IsTrue (p h) → IsTrue (has (line_text h) (body_lines s)) → IsTrue (any_head p s)
passes_body es fs n end h p fits line pass among = absurd (false≢true among)
passes_body es fs n (then_comes (stmt k g block) rest) h p fits line pass among =
    let w = first_line es n k g block rest fits in
    elim (or_cases (bytes_eq (line_text g) (line_text h)) (has (line_text h) (body_lines rest)) among) as (λ _. IsTrue (p g || any_head p rest)) [
      | inl e ↦ let same : g ≡ h = line_one es fs g h w.fits line (name_of _ _ e) in or_left (p g) (any_head p rest) (rw same pass)
      | inr more ↦ or_right _ _ (passes_body es fs (n + 1) rest h p w.more line pass more)
    ]

passes_cells : (es fs : Elements) (n : ℕ) (cells : List Cell) (h : Head) (p : Head → Bool) → IsTrue (are_cells es n cells) → IsTrue (is_line fs h) → IsTrue (p h) → IsTrue (has (line_text h) (flat_map cell_lines cells)) → IsTrue (any_in p cells)
passes_cells es fs n [] h p fits line pass among = absurd (false≢true among)
passes_cells es fs n (c ∷ cs) h p fits line pass among =
    let all = and_parts _ _ fits in
    let w = cell_parts es n c all.0 in
    let parts : (has (line_text h) (body_lines c.body) || has (line_text h) (flat_map cell_lines cs)) ≡ true = sym (has-append (line_text h) (body_lines c.body) (flat_map cell_lines cs)) ∙ among in
    elim (or_cases (has (line_text h) (body_lines c.body)) (has (line_text h) (flat_map cell_lines cs)) parts) as (λ _. IsTrue (any_head p c.body || any_in p cs)) [
      | inl here ↦ or_left _ _ (passes_body es fs (n + 2) c.body h p w.fits line pass here)
      | inr more ↦ or_right _ _ (passes_cells es fs (n + 2 + line_count c.body) cs h p all.1 line pass more)
    ]

no_footer : (fs : Elements) (h : Head) → IsTrue (is_line fs h) → IsTrue (has (line_text h) footer) → ⊥
no_footer fs h line among =
    elim (or_cases (bytes_eq last_line (line_text h)) false among) as (λ _. ⊥) [
      | inl e ↦ not_last fs h line (sym (name_of _ _ e))
      | inr none ↦ false≢true none
    ]

passes_file : (es fs : Elements) (cells : List Cell) (h : Head) (p : Head → Bool) → IsTrue (are_cells es 3 cells) → IsTrue (is_line fs h) → IsTrue (p h) → IsTrue (has (line_text h) (file_lines cells)) → IsTrue (any_in p cells)
passes_file es fs cells h p fits line pass among =
    let parts : (has (line_text h) (flat_map cell_lines cells) || has (line_text h) footer) ≡ true = sym (has-append (line_text h) (flat_map cell_lines cells) footer) ∙ among in
    elim (or_cases (has (line_text h) (flat_map cell_lines cells)) (has (line_text h) footer) parts) as (λ _. IsTrue (any_in p cells)) [
      | inl here ↦ passes_cells es fs 3 cells h p fits line pass here
      | inr behind ↦ absurd (no_footer fs h line behind)
    ]

-- a line of these that passes the test
record IsThere (es : Elements) (p : Head → Bool) (lines : List (List ℕ)) : Type 0 where
  head : Head
  fits : IsTrue (is_line es head)
  passes : IsTrue (p head)
  among : IsTrue (has (line_text head) lines)

there_body : (es : Elements) (n : ℕ) (s : Stmts) (p : Head → Bool) → IsTrue (are_lines es n s) → IsTrue (any_head p s) → IsThere es p (body_lines s)
there_body es n end p fits any = absurd (false≢true any)
there_body es n (then_comes (stmt k h block) rest) p fits any =
    let w = first_line es n k h block rest fits in
    elim (or_cases (p h) (any_head p rest) any) as (λ _. IsThere es p (line_text h ∷ body_lines rest)) [
      | inl pass ↦ record { head = h; fits = w.fits; passes = pass; among = has_first (line_text h) (body_lines rest) }
      | inr more ↦ let t = there_body es (n + 1) rest p w.more more in record { head = t.head; fits = t.fits; passes = t.passes; among = or_right _ _ t.among }
    ]

there_cells : (es : Elements) (n : ℕ) (cells : List Cell) (p : Head → Bool) → IsTrue (are_cells es n cells) → IsTrue (any_in p cells) → IsThere es p (flat_map cell_lines cells)
there_cells es n [] p fits any = absurd (false≢true any)
there_cells es n (c ∷ cs) p fits any =
    let all = and_parts _ _ fits in
    let w = cell_parts es n c all.0 in
    elim (or_cases (any_head p c.body) (any_in p cs) any) as (λ _. IsThere es p (flat_map cell_lines (c ∷ cs))) [
      | inl here ↦ let t = there_body es (n + 2) c.body p w.fits here in record { head = t.head; fits = t.fits; passes = t.passes; among = has_left (line_text t.head) (body_lines c.body) (flat_map cell_lines cs) t.among }
      | inr more ↦ let t = there_cells es (n + 2 + line_count c.body) cs p all.1 more in record { head = t.head; fits = t.fits; passes = t.passes; among = has_right (line_text t.head) (body_lines c.body) (flat_map cell_lines cs) t.among }
    ]

there_file : (es : Elements) (cells : List Cell) (p : Head → Bool) → IsTrue (are_cells es 3 cells) → IsTrue (any_in p cells) → IsThere es p (file_lines cells)
there_file es cells p fits any =
    let t = there_cells es 3 cells p fits any in
    record { head = t.head; fits = t.fits; passes = t.passes; among = has_left (line_text t.head) (flat_map cell_lines cells) footer t.among }

-- ---- elements

-- all names are those of sliders, and `mo` is imported
abbrev pub all_elements : Elements
all_elements = record { is_slider = λ x. true; imported = true }

pub slider_line : (x : Name) (t : Tree) → IsTrue (is_name x) → IsTrue (makes_slider t) → IsTrue (is_line all_elements (assign (x ∷ []) t))
slider_line x t name slider = or_right _ _ (and_from _ _ (and_from _ _ (and_from _ _ name refl) slider) refl)

named : (x : Name) (t : Tree) → IsTrue (makes_slider t) → IsTrue (makes x (assign (x ∷ []) t))
named x t slider = rw slider (or_left _ _ (equal_bytes x x refl))

-- the one name that a line gives to what it makes
one_name : (es : Elements) (targets : List Name) (t : Tree) (x : Name) → IsTrue (is_line es (assign targets t)) → IsTrue (is_among x targets) → IsTrue (is_name x) × (targets ≡ x ∷ [])
one_name es [] t x line among = absurd (false≢true among)
one_name es (y ∷ []) t x line among =
    let same : y ≡ x = elim (or_cases (bytes_eq y x) false among) as (λ _. y ≡ x) [ inl e ↦ name_of y x e | inr none ↦ absurd (false≢true none) ] in
    let name : IsTrue (is_name y) = elim (or_cases (is_target es false (y ∷ []) && is_sum es t) (is_target es true (y ∷ []) && makes_slider t && es.imported) line) as (λ _. IsTrue (is_name y)) [
      | inl plain ↦ (and_parts _ _ (and_parts _ _ plain).0).0
      | inr slider ↦ (and_parts _ _ (and_parts _ _ (and_parts _ _ slider).0).0).0
    ] in
    (rw same at name, ap (λ (z : Name). z ∷ []) same)
one_name es (y ∷ z ∷ zs) t x line among =
    elim (or_cases false false line) as (λ _. IsTrue (is_name x) × (y ∷ z ∷ zs ≡ x ∷ [])) [ inl e ↦ absurd (false≢true e) | inr e ↦ absurd (false≢true e) ]

chosen : (b : Bool) (x : Name) (targets : List Name) → IsTrue (is_among x (cond b targets [])) → IsTrue b × IsTrue (is_among x targets)
chosen true x targets among = (refl, among)
chosen false x targets among = absurd (false≢true among)

-- a line that makes a slider of this name
sliders_made : (es : Elements) (x : Name) (h : Head) → IsTrue (is_line es h) → IsTrue (makes x h) → (t : Tree) × IsTrue (is_name x) × IsTrue (makes_slider t) × (h ≡ assign (x ∷ []) t)
sliders_made es x (assign targets t) line made =
    let w = chosen (makes_slider t) x targets made in
    let n = one_name es targets t x line w.1 in
    (t, n.0, w.0, ap (λ (names : List Name). assign names t) n.1)
sliders_made es x h line made = absurd (false≢true made)

import_made : (h : Head) → IsTrue (is_import h) → h ≡ import_mo
import_made import_mo made = refl
import_made h made = absurd (false≢true made)

-- what the cells say, the lines of their file say
pub are_elements : (fs : Elements) (nb : List Cell) → IsTrue (are_cells fs 3 nb) → AreElements (text_of (file_lines nb)) (elements_of nb)
are_elements fs nb fits =
    let lines = file_lines nb in
    let unbroken = unbroken_file fs nb fits in
    let P : List ℕ → Type 0 = λ bytes. AreElements bytes (elements_of nb) in
    subst P (append-nil (text_of lines)) (record {
      sliders = λ x. (
        (λ among. let t = there_file fs nb (makes x) fits (sym (sliders_in x nb) ∙ among) in
            let made = sliders_made fs x t.head t.fits t.passes in
            let here : HasLine (text_of lines ++ []) (line_text (assign (x ∷ []) made.0)) = rw made.3 at (line_has (line_text t.head) lines [] t.among) in
            (made.0, made.1, made.2, here)),
        (λ slider. let line = slider_line x slider.0 slider.1 slider.2 in
            let head = assign (x ∷ []) slider.0 in
            let among = has_line (line_text head) lines [] (line_unbroken all_elements head line) unbroken refl slider.3 in
            sliders_in x nb ∙ passes_file fs all_elements nb head (makes x) fits line (named x slider.0 slider.2) among),
      );
      imported = (
        (λ any. let t = there_file fs nb is_import fits (sym (imports nb) ∙ any) in
            rw (import_made t.head t.passes) at (line_has (line_text t.head) lines [] t.among)),
        (λ line. let among = has_line (line_text import_mo) lines [] (line_unbroken all_elements import_mo refl) unbroken refl line in
            imports nb ∙ passes_file fs all_elements nb import_mo is_import fits refl refl among),
      );
    })

-- bytes say one thing of elements
pub one_elements : (bytes : List ℕ) (es fs : Elements) → AreElements bytes es → AreElements bytes fs → es ≡ fs
one_elements bytes es fs p q =
    let names : es.is_slider ≡ fs.is_slider = fun_ext (λ x. same_from_decides (es.is_slider x) (fs.is_slider x) (p.sliders x) (q.sliders x)) in
    let import : es.imported ≡ fs.imported = same_from_decides es.imported fs.imported p.imported q.imported in
    let by_names : (Name → Bool) → Elements = λ f. record { is_slider = f; imported = es.imported } in
    let by_import : Bool → Elements = λ b. record { is_slider = fs.is_slider; imported = b } in
    ap by_names names ∙ ap by_import import

-- the elements of the bytes of a file are those of its cells
pub same_elements : (bytes : List ℕ) (es fs : Elements) (nb : List Cell) → IsTrue (are_cells fs 3 nb) → bytes ≡ text_of (file_lines nb) → AreElements bytes es → es ≡ elements_of nb
same_elements bytes es fs nb fits text are =
    one_elements (text_of (file_lines nb)) es (elements_of nb) (rw text at are) (are_elements fs nb fits)
