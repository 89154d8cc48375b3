-- A cell that is read, and cells one after the other.
use Rattle.std.proofs.Common.{◌≡◌, ℕ, ◌+◌, ◌<◌, ◌≤◌, not, IsTrue, List, [], ◌∷◌, ◌++◌, length, ◌⊎◌, inl, inr, refl, sym, ap, ◌∙◌, append_assoc, append-nil, add-zero, zero-add, length-append, arith}
use Rattle.std.specs.Prelude.{flat_map, sum_by}
use Rattle.std.proofs.lemmas.Bool.{and_parts, and_from, false≢true}
use Rattle.std.proofs.lemmas.List.{append_cancel_left}
use Rattle.thin_form.specs.FileParts.{At, BeginsWith, HasBody, HasCell, HasCells, IsPast}
use Rattle.std.proofs.lemmas.List.Concat.{flat_map-append}
use Rattle.std.proofs.lemmas.List.Sums.{sum_by-append}
use Rattle.thin_form.proofs.Bodies.{length-lines}
use Rattle.thin_form.proofs.Parts.{cell_from, cell_parts}
use Rattle.py_tree.proofs.Breaks.{text-append}
use Rattle.thin_form.proofs.Places.{past_none, past_on}
use Rattle.form_meaning.specs.Thin.{Elements, decorator_line, definition_line, is_empty, are_lines, line_count, is_cell, are_cells, body_lines, cell_lines, is_whole}
use Rattle.py_tree.specs.TextLines.{text_of}
use Rattle.py_tree.specs.Trees.{Stmts, end, then_comes, Cell}
use Rattle.py_tree.specs.View.{view_cell, view_cells}
use Rattle.py_tree.specs.declared.tree.CellCode.{CellCode}

-- the bytes begin with the body of the cell
pub record IsAtBody (es : Elements) (place : At) (cell : Cell) (rest : List ℕ) : Type 0 where
  pub fits : IsTrue (are_lines es place.line cell.body)
  pub some : IsTrue (not (is_empty cell.body))
  pub whole : IsTrue (is_whole cell.body)
  pub room : line_count cell.body ≤ place.room
  pub bytes : place.bytes ≡ text_of (body_lines cell.body) ++ rest

pub behind_decorator : (a b : At) (cell : Cell) (rest : List ℕ) → IsPast a b (decorator_line ∷ []) 0 → a.bytes ≡ text_of (cell_lines cell) ++ rest → b.bytes ≡ text_of (definition_line ∷ []) ++ (text_of (body_lines cell.body) ++ rest)
behind_decorator a b cell rest p e =
    append_cancel_left (text_of (decorator_line ∷ [])) _ _ (sym p.bytes ∙ e)

pub at_body : (es : Elements) (a b c : At) (cell : Cell) (rest : List ℕ) → IsPast a b (decorator_line ∷ []) 0 → IsPast b c (definition_line ∷ []) 0 → IsTrue (is_cell es a.line cell) → line_count cell.body ≤ a.room → a.bytes ≡ text_of (cell_lines cell) ++ rest → IsAtBody es c cell rest
at_body es a b c cell rest p q fits room e =
    let line : c.line ≡ a.line + 2 = omega (arith, p.line, q.line) in
    let more : line_count cell.body ≤ c.room = omega (arith, p.room, q.room) in
    let w = cell_parts es a.line cell fits in
    record {
      fits = rw line w.fits;
      some = w.some;
      whole = w.whole;
      room = more;
      bytes = append_cancel_left (text_of (definition_line ∷ [])) _ _ (sym q.bytes ∙ behind_decorator a b cell rest p e);
    }

pub is_read : (es : Elements) (a b c d : At) (cell : Cell) → cell.line ≡ a.line → IsPast a b (decorator_line ∷ []) 0 → IsPast b c (definition_line ∷ []) 0 → HasBody es c d cell.body → IsTrue (not (is_empty cell.body)) → IsTrue (is_whole cell.body) → HasCell es a d cell
is_read es a b c d cell n p q body some whole =
    let line : c.line ≡ a.line + 2 = omega (arith, p.line, q.line) in
    let lines : IsTrue (are_lines es (a.line + 2) cell.body) = rw line at body.fits in
    let behind = rw zero-add at (past_on b c d (definition_line ∷ []) (body_lines cell.body) 0 (line_count cell.body) q body.past) in
    record {
      fits = cell_from es a.line cell (record { at = n; some = some; fits = lines; whole = whole });
      past = rw zero-add at (past_on a b d (decorator_line ∷ []) (definition_line ∷ body_lines cell.body) 0 (line_count cell.body) p behind);
    }

pub same_cell : (es : Elements) (line : ℕ) (body : Stmts) (place : At) (cell : Cell) → line ≡ place.line → body ≡ cell.body → IsTrue (is_cell es place.line cell) → ◌≡◌ {A = Cell} (record { line = line; body = body }) cell
same_cell es line body place cell n b fits =
    let w = cell_parts es place.line cell fits in
    let by_line : ℕ → Cell = λ m. record { line = m; body = body } in
    let by_body : Stmts → Cell = λ m. record { line = cell.line; body = m } in
    ap by_line (n ∙ sym w.at) ∙ ap by_body b

-- how many body lines they have
abbrev pub bodies : List Cell → ℕ
bodies = sum_by (λ (c : Cell). line_count c.body)

-- Of all the cells these are done, and the bytes begin with what is left of them.
pub record IsOnWay (bytes : List ℕ) (done whole : List Cell) (rest : List ℕ) : Type 0 where
  pub more : List Cell
  pub parts : whole ≡ done ++ more
  pub left : bytes ≡ text_of (flat_map cell_lines more) ++ rest

-- all cells that the bytes begin with are on their way
abbrev pub Continues : Elements → At → At → List Cell → Type 0
Continues es before place done =
    (cells : List Cell) (rest : List ℕ) → IsTrue (are_cells es before.line cells) → bodies cells ≤ before.room →
    before.bytes ≡ text_of (flat_map cell_lines cells) ++ rest → (BeginsWith 32 rest → ⊥) → (BeginsWith 64 rest → ⊥) →
    IsOnWay place.bytes done cells rest

-- a further cell comes
pub record IsNext (es : Elements) (place : At) (done whole : List Cell) (rest : List ℕ) : Type 0 where
  pub cell : Cell
  pub more : List Cell
  pub fits : IsTrue (is_cell es place.line cell)
  pub room : line_count cell.body ≤ place.room
  pub parts : whole ≡ done ++ cell ∷ more
  pub left : place.bytes ≡ text_of (cell_lines cell) ++ (text_of (flat_map cell_lines more) ++ rest)
  pub apart : BeginsWith 32 (text_of (flat_map cell_lines more) ++ rest) → ⊥

-- no further cell comes
pub record IsLast (place : At) (done whole : List Cell) (rest : List ℕ) : Type 0 where
  pub parts : whole ≡ done
  pub left : place.bytes ≡ rest

heads_apart : (x y : List ℕ) → 64 ∷ x ≡ 32 ∷ y → ⊥
heads_apart x y e = cc

apart : (more : List Cell) (rest : List ℕ) → (BeginsWith 32 rest → ⊥) → BeginsWith 32 (text_of (flat_map cell_lines more) ++ rest) → ⊥
apart [] rest u b = u b
apart (c ∷ cs) rest u b = heads_apart _ b.0 b.1

cell_length : (c : Cell) (cs : List Cell) → length (flat_map cell_lines (c ∷ cs)) ≡ 2 + line_count c.body + length (flat_map cell_lines cs)
cell_length c cs = omega (arith, length-append (body_lines c.body) (flat_map cell_lines cs), length-lines c.body)

are-appended : (es : Elements) (n : ℕ) (a b : List Cell) → IsTrue (are_cells es n a) → IsTrue (are_cells es (n + length (flat_map cell_lines a)) b) → IsTrue (are_cells es n (a ++ b))
are-appended es n [] b p q = rw add-zero at q
are-appended es n (c ∷ a) b p q =
    let e : n + length (flat_map cell_lines (c ∷ a)) ≡ n + 2 + line_count c.body + length (flat_map cell_lines a) = omega (arith, cell_length c a) in
    let w = and_parts _ _ p in
    and_from _ _ w.0 (are-appended es (n + 2 + line_count c.body) a b w.1 (rw e at q))

are-second : (es : Elements) (n : ℕ) (a b : List Cell) → IsTrue (are_cells es n (a ++ b)) → IsTrue (are_cells es (n + length (flat_map cell_lines a)) b)
are-second es n [] b p = rw add-zero p
are-second es n (c ∷ a) b p =
    let e : n + length (flat_map cell_lines (c ∷ a)) ≡ n + 2 + line_count c.body + length (flat_map cell_lines a) = omega (arith, cell_length c a) in
    rw e (are-second es (n + 2 + line_count c.body) a b (and_parts _ _ p).1)

pub bodies-cons : (c : Cell) (cs : List Cell) → bodies (c ∷ cs) ≡ line_count c.body + bodies cs
bodies-cons c cs = rw zero-add at (sum_by-append (λ (d : Cell). line_count d.body) (c ∷ []) cs)

by_more : (es : Elements) (place : At) (done more whole : List Cell) (rest : List ℕ) → whole ≡ done ++ more → place.bytes ≡ text_of (flat_map cell_lines more) ++ rest → IsTrue (are_cells es place.line more) → bodies more ≤ place.room → (BeginsWith 32 rest → ⊥) → IsNext es place done whole rest ⊎ IsLast place done whole rest
by_more es place done [] whole rest w l f r u = inr (record { parts = w ∙ append-nil done; left = l })
by_more es place done (c ∷ more) whole rest w l f r u =
    let room : line_count c.body ≤ place.room = omega (arith, bodies-cons c more) in
    inl (record {
      cell = c;
      more = more;
      fits = (and_parts _ _ f).0;
      room = room;
      parts = w;
      left = l ∙ (ap (λ (t : List ℕ). t ++ rest) (text-append (cell_lines c) (flat_map cell_lines more)) ∙ append_assoc (text_of (cell_lines c)) (text_of (flat_map cell_lines more)) rest);
      apart = apart more rest u;
    })

pub next : (es : Elements) (before place : At) (done whole : List Cell) (rest : List ℕ) → HasCells es before place done → IsTrue (are_cells es before.line whole) → bodies whole ≤ before.room → (BeginsWith 32 rest → ⊥) → IsOnWay place.bytes done whole rest → IsNext es place done whole rest ⊎ IsLast place done whole rest
next es before place done whole rest found fits room u way =
    let more : IsTrue (are_cells es place.line way.more) = rw found.past.line (are-second es before.line done way.more (rw way.parts at fits)) in
    let sum : bodies whole ≡ bodies done + bodies way.more = ap bodies way.parts ∙ sum_by-append (λ (d : Cell). line_count d.body) done way.more in
    by_more es place done way.more whole rest way.parts way.left more (omega (arith, found.past.room)) u

-- where no cell comes all are done
pub last : (es : Elements) (before place : At) (done cells : List Cell) (rest : List ℕ) → HasCells es before place done → ((cell : Cell) (after : List ℕ) → IsTrue (is_cell es place.line cell) → line_count cell.body ≤ place.room → place.bytes ≡ text_of (cell_lines cell) ++ after → (BeginsWith 32 after → ⊥) → ⊥) → IsTrue (are_cells es before.line cells) → bodies cells ≤ before.room → (BeginsWith 32 rest → ⊥) → IsOnWay place.bytes done cells rest → IsLast place done cells rest
last es before place done cells rest found none fits room u way =
    elim (next es before place done cells rest found fits room u way) as (λ _. IsLast place done cells rest) [
      | inl n ↦ absurd (none n.cell (text_of (flat_map cell_lines n.more) ++ rest) n.fits n.room n.left n.apart)
      | inr n ↦ n
    ]

pub start : (es : Elements) (a : At) → HasCells es a a []
start es a = record { fits = refl; past = past_none a }

pub begins : (es : Elements) (a : At) → Continues es a a []
begins es a cells rest f r e u v = record { more = cells; parts = refl; left = e }

-- one more cell
pub has_more : (es : Elements) (a b c : At) (done : List Cell) (cell : Cell) → HasCells es a b done → HasCell es b c cell → HasCells es a c (done ++ cell ∷ [])
has_more es a b c done cell p q = record {
  fits = are-appended es a.line done (cell ∷ []) p.fits (and_from _ _ (rw (← p.past.line) q.fits) refl);
  past = rw (flat_map-append cell_lines done (cell ∷ []), sum_by-append (λ (d : Cell). line_count d.body) done (cell ∷ [])) (past_on a b c (flat_map cell_lines done) (flat_map cell_lines (cell ∷ [])) (bodies done) (bodies (cell ∷ [])) p.past (rw (append-nil (body_lines cell.body), zero-add (line_count cell.body)) q.past));
}

pub goes_on : (es : Elements) (a b c : At) (done : List Cell) (read : Cell) → HasCells es a b done → Continues es a b done → HasCell es b c read → ((cell : Cell) (rest : List ℕ) → IsTrue (is_cell es b.line cell) → line_count cell.body ≤ b.room → b.bytes ≡ text_of (cell_lines cell) ++ rest → (BeginsWith 32 rest → ⊥) → (read ≡ cell) × (c.bytes ≡ rest)) → Continues es a c (done ++ read ∷ [])
goes_on es a b c done read found way past only cells rest f r e u v =
    elim (next es a b done cells rest found f r u (way cells rest f r e u v)) as (λ _. IsOnWay c.bytes (done ++ read ∷ []) cells rest) [
      | inl n ↦ let o = only n.cell (text_of (flat_map cell_lines n.more) ++ rest) n.fits n.room n.left n.apart in record {
        more = n.more;
        parts = n.parts ∙ (ap (λ (t : Cell). done ++ t ∷ n.more) (sym o.0) ∙ sym (append_assoc done (read ∷ []) n.more));
        left = o.1;
      }
      | inr n ↦ absurd (v (_, sym n.left ∙ past.past.bytes))
    ]

some_count : (s : Stmts) → IsTrue (not (is_empty s)) → 0 < line_count s
some_count end e = absurd (false≢true e)
some_count (then_comes s b) e = omega arith

-- a cell takes up room
pub less_room : (es : Elements) (a b : At) (cell : Cell) → HasCell es a b cell → b.room < a.room
less_room es a b cell h = omega (arith, h.past.room, some_count cell.body (let w = cell_parts es a.line cell h.fits in w.some))

pub view-push : (xs : List CellCode) (x : CellCode) → view_cells (xs ++ x ∷ []) ≡ view_cells xs ++ view_cell x ∷ []
view-push [] x = refl
view-push (y ∷ xs) x = ap (λ (l : List Cell). view_cell y ∷ l) (view-push xs x)
