-- A file of the thin form that is read.
use Rattle.std.proofs.Common.{◌≡◌, ℕ, ◌≤◌, IsTrue, List, [], ◌∷◌, ◌++◌, length, refl, sym, ◌∙◌, append-nil, arith, subst}
use Rattle.std.specs.Prelude.{flat_map}
use Rattle.std.proofs.lemmas.Bool.{and_parts, and_from, leb-true, le-leb}
use Rattle.std.proofs.lemmas.List.{append_cancel_left}
use Rattle.thin_form.specs.FileParts.{At, BeginsWith, HasCells, IsPast}
use Rattle.thin_form.specs.Places.{First, IsStuck, StopsAt}
use Rattle.thin_form.specs.Refused.{IsCauseOf}
use Rattle.thin_form.specs.declared.thin_file.ThinFault.{ThinFault}
use Rattle.thin_form.specs.declared.thin_file.ThinFault.TheVariants.{Thin, Memory}
use Rattle.thin_form.proofs.Beginnings.{stuck_fails}
use Rattle.thin_form.proofs.FileElements.{same_elements}
use Rattle.py_tree.proofs.Breaks.{text-append}
use Rattle.thin_form.proofs.Places.{past_on}
use Rattle.thin_form.proofs.WholeCells.{bodies}
use Rattle.form_meaning.specs.Fails.{AreElements}
use Rattle.form_meaning.specs.Thin.{Elements, IsForm, elements_of, are_cells, cell_lines, import_line, app_line, main_line, last_line, header, footer, file_lines}
use Rattle.py_tree.specs.TextLines.{text_of}
use Rattle.py_tree.specs.Trees.{Cell}

-- the bytes fail where reading stops, or memory was wanting
pub cause : (es : Elements) (e : ThinFault) (a : At) (bytes : List ℕ) → AreElements bytes es → a ≡ record { bytes = bytes; line = 1; room = 1000 } → length bytes ≤ 1048576 → ((nb : List Cell) → IsForm bytes nb → e ≡ Memory) → StopsAt es a First e → IsCauseOf e bytes
cause es (Thin line) a bytes are same size h stop =
    let P : At → Type 0 = λ (start : At). IsStuck es start First line in
    stuck_fails es bytes line are size (λ nb form. let e = h nb form in cc) (subst P same stop)
cause es Memory a bytes are same size h stop = tt

pub form : (es : Elements) (a b c d e f : At) (nb : List Cell) → AreElements a.bytes es → a.line ≡ 1 → a.room ≡ 1000 → length a.bytes ≤ 1048576 → IsPast a b (import_line ∷ []) 0 → IsPast b c (app_line ∷ []) 0 → HasCells es c d nb → IsPast d e (main_line ∷ []) 0 → IsPast e f (last_line ∷ []) 0 → f.bytes ≡ [] → IsForm a.bytes nb
form es a b c d e f nb are first room short p q cells r s ends =
    let line : c.line ≡ 3 = omega (arith, p.line, q.line) in
    let few : bodies nb ≤ 1000 = omega (arith, p.room, q.room, cells.past.room) in
    let last = past_on d e f (main_line ∷ []) (last_line ∷ []) 0 0 r s in
    let behind = past_on c d f (flat_map cell_lines nb) footer (bodies nb) 0 cells.past last in
    let whole = past_on a c f header (flat_map cell_lines nb ++ footer) 0 _ (past_on a b c (import_line ∷ []) (app_line ∷ []) 0 0 p q) behind in
    let text : a.bytes ≡ text_of (file_lines nb) = rw ends at whole.bytes ∙ append-nil (text_of (file_lines nb)) in
    let fits : IsTrue (are_cells es 3 nb) = rw line at cells.fits in
    let P : Elements → Type 0 = λ known. IsTrue (are_cells known 3 nb) in
    record {
      thin = and_from _ _ (subst P (same_elements a.bytes es es nb fits text are) fits) (le-leb _ _ few);
      text = text;
      short = short;
    }

pub before_first : (bytes : List ℕ) (nb : List Cell) → IsForm bytes nb → bytes ≡ text_of (import_line ∷ []) ++ text_of (app_line ∷ (flat_map cell_lines nb ++ footer))
before_first bytes nb form = form.text

pub before_second : (a b : At) (nb : List Cell) → IsPast a b (import_line ∷ []) 0 → IsForm a.bytes nb → b.bytes ≡ text_of (app_line ∷ []) ++ text_of (flat_map cell_lines nb ++ footer)
before_second a b nb p form =
    append_cancel_left (text_of (import_line ∷ [])) _ _ (sym p.bytes ∙ form.text)

-- the bytes begin with the cells and end with the last lines
pub record IsAtCells (es : Elements) (place : At) (nb : List Cell) : Type 0 where
  pub fits : IsTrue (are_cells es place.line nb)
  pub room : bodies nb ≤ place.room
  pub bytes : place.bytes ≡ text_of (flat_map cell_lines nb) ++ text_of footer

pub at_cells : (es : Elements) (a b c : At) (nb : List Cell) → AreElements a.bytes es → a.line ≡ 1 → a.room ≡ 1000 → IsPast a b (import_line ∷ []) 0 → IsPast b c (app_line ∷ []) 0 → IsForm a.bytes nb → IsAtCells es c nb
at_cells es a b c nb are first room p q form =
    let line : c.line ≡ 3 = omega (arith, p.line, q.line) in
    let left : c.room ≡ 1000 = omega (arith, p.room, q.room) in
    let few : bodies nb ≤ 1000 = leb-true _ _ (and_parts _ _ form.thin).1 in
    let thin : IsTrue (are_cells (elements_of nb) 3 nb) = (and_parts _ _ form.thin).0 in
    let P : Elements → Type 0 = λ known. IsTrue (are_cells known 3 nb) in
    let fits : IsTrue (are_cells es 3 nb) = subst P (sym (same_elements a.bytes es (elements_of nb) nb thin form.text are)) thin in
    record {
      fits = rw line fits;
      room = rw left few;
      bytes = append_cancel_left (text_of (app_line ∷ [])) _ _ (sym q.bytes ∙ before_second a b nb p form) ∙ text-append (flat_map cell_lines nb) footer;
    }

heads_apart : (b : ℕ) (x y : List ℕ) → (105 ≡ b → ⊥) → 105 ∷ x ≡ b ∷ y → ⊥
heads_apart b x y h e = h cc

-- the footer begins no body line, and no cell
pub no_line : BeginsWith 32 (text_of footer) → ⊥
no_line h = heads_apart 32 _ h.0 (λ e. omega arith) h.1

pub no_cell : BeginsWith 64 (text_of footer) → ⊥
no_cell h = heads_apart 64 _ h.0 (λ e. omega arith) h.1

pub before_last : (d e : At) → IsPast d e (main_line ∷ []) 0 → d.bytes ≡ text_of footer → e.bytes ≡ text_of (last_line ∷ []) ++ []
before_last d e p h = append_cancel_left (text_of (main_line ∷ [])) _ _ (sym p.bytes ∙ h)

pub at_end : (e f : At) → IsPast e f (last_line ∷ []) 0 → e.bytes ≡ text_of (last_line ∷ []) ++ [] → f.bytes ≡ []
at_end e f p h = append_cancel_left (text_of (last_line ∷ [])) _ _ (sym p.bytes ∙ h)

pub empty : (bytes : List ℕ) → length bytes ≡ 0 → bytes ≡ []
empty [] e = refl
empty (x ∷ xs) e = absurd (omega arith)
