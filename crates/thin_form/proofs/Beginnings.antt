-- Where reading stops, no file of the thin form begins with one line more.
use Rattle.std.proofs.Common.{◌≡◌, inl, inr, ℕ, suc, ◌+◌, ◌≤◌, Bool, true, false, not, cond, IsTrue, List, [], ◌∷◌, ◌++◌, length, take, drop, refl, sym, ap, ◌∙◌, append_assoc, add-zero, length-append, arith, subst}
use Rattle.std.specs.Prelude.{codes, flat_map}
use Rattle.std.specs.List.{count_by}
use Rattle.std.proofs.lemmas.Bool.{and_parts, and_from, or_right, false≢true}
use Rattle.std.proofs.lemmas.List.{take-append-drop, length-take-le, take_at}
use Rattle.thin_form.specs.Places.{Place, First, Second, Between, Definition, Body, AfterBody, AfterAlone, Last, Past, IsShared, Fits, first, second, decorator, main, definition, body, next_body, next_decorator, next_main, alone, decorator_behind, main_behind, last, Leads, none, then_fits, place_after, IsStuck}
use Rattle.py_tree.proofs.Breaks.{agree}
use Rattle.thin_form.proofs.Leads.{after_alone, body_is, count-append, leads-append, leads_once, leads_parts, leads_unbroken, one_fits, only_alone}
use Rattle.thin_form.proofs.Parts.{cell_from, cell_parts, line_before}
use Rattle.thin_form.proofs.Stops.{leads_cell}
use Rattle.form_meaning.specs.Fails.{is_body_line, AreElements, IsAlone, LinesFit, FailsAt}
use Rattle.form_meaning.specs.Thin.{Elements, IsForm, is_line, stands_alone, is_empty, is_plain, are_lines, line_count, are_cells, line_text, body_lines, cell_lines, import_line, app_line, decorator_line, definition_line, main_line, last_line, footer, file_lines, is_whole}
use Rattle.py_tree.specs.TextLines.{text_of}
use Rattle.py_tree.specs.Trees.{Head, literal, value, stmt, Stmts, end, then_comes, Cell}
use Rattle.py_tree.specs.declared.token.TokenKind.TheVariants as kind

-- ---- how a file goes on

-- lines from a place between cells on, the next of which has this number: cells, and the last lines
record FromBetween (es : Elements) (number : ℕ) (lines : List (List ℕ)) : Type 0 where
  cells : List Cell
  fit : IsTrue (are_cells es number cells)
  parts : lines ≡ flat_map cell_lines cells ++ footer

-- lines from a place in a body on: the lines of the body that are left, then cells and the last lines
record FromBody (es : Elements) (number : ℕ) (lines : List (List ℕ)) : Type 0 where
  left : Stmts
  cells : List Cell
  fit : IsTrue (are_lines es number left)
  cells_fit : IsTrue (are_cells es (number + line_count left) cells)
  parts : lines ≡ body_lines left ++ (flat_map cell_lines cells ++ footer)

-- lines from one behind the first of a body on
record FromAfterBody (es : Elements) (number : ℕ) (lines : List (List ℕ)) : Type 0 where
  has : FromBody es number lines
  plain : IsTrue (is_plain has.left)

-- lines from the first of a body on
record FromFirstBody (es : Elements) (number : ℕ) (lines : List (List ℕ)) : Type 0 where
  has : FromBody es number lines
  some : IsTrue (not (is_empty has.left))
  whole : IsTrue (is_whole has.left)

-- lines from one after a decorator on
record FromDefinition (es : Elements) (number : ℕ) (lines : List (List ℕ)) : Type 0 where
  rest : List (List ℕ)
  has : FromFirstBody es (number + 1) rest
  parts : lines ≡ definition_line ∷ rest

-- lines from the second of a file on
record FromSecond (es : Elements) (number : ℕ) (lines : List (List ℕ)) : Type 0 where
  rest : List (List ℕ)
  has : FromBetween es (number + 1) rest
  parts : lines ≡ app_line ∷ rest

-- all lines of a file
record FromFirst (es : Elements) (number : ℕ) (lines : List (List ℕ)) : Type 0 where
  rest : List (List ℕ)
  has : FromSecond es (number + 1) rest
  parts : lines ≡ import_line ∷ rest

-- lines with which a file goes on to its end from a place, the next of which has this number
abbrev GoesOn : Elements → Place → ℕ → List (List ℕ) → Type 0
GoesOn es First number lines = FromFirst es number lines
GoesOn es Second number lines = FromSecond es number lines
GoesOn es Between number lines = FromBetween es number lines
GoesOn es Definition number lines = FromDefinition es number lines
GoesOn es Body number lines = FromFirstBody es number lines
GoesOn es AfterBody number lines = FromAfterBody es number lines
GoesOn es AfterAlone number lines = FromBetween es number lines
GoesOn es Last number lines = lines ≡ last_line ∷ []
GoesOn es Past number lines = lines ≡ []

-- no cells, and the last lines
no_cells : (es : Elements) (n : ℕ) → FromBetween es n footer
no_cells es n = record { cells = []; fit = refl; parts = refl }

-- cells where the body has no further line
abbrev no_lines : (es : Elements) (n : ℕ) (lines : List (List ℕ)) → FromBetween es n lines → FromAfterBody es n lines
no_lines es n lines h =
    let inside : FromBody es n lines = record {
      left = end;
      cells = h.cells;
      fit = refl;
      cells_fit = rw add-zero h.fit;
      parts = h.parts;
    } in
    record { has = inside; plain = refl }

-- one more line of a body
abbrev more_lines : (es : Elements) (n : ℕ) (head : Head) (line : List ℕ) (lines : List (List ℕ)) → IsTrue (is_line es head) → line ≡ line_text head → (h : FromBody es (n + 1) lines) → FromBody es n (line ∷ lines)
more_lines es n head line lines fits text h =
    let number : n + (line_count h.left + 1) ≡ n + 1 + line_count h.left = omega arith in
    record {
      left = then_comes (stmt n head end) h.left;
      cells = h.cells;
      fit = line_before es n head h.left fits h.fit;
      cells_fit = rw number h.cells_fit;
      parts = ap (λ (l : List ℕ). l ∷ lines) text ∙ ap (λ (l : List (List ℕ)). line_text head ∷ l) h.parts;
    }

-- a line that may have others beside it
shared_line : (es : Elements) (n : ℕ) (line : List ℕ) (lines : List (List ℕ)) → IsShared es line → FromAfterBody es (n + 1) lines → FromAfterBody es n (line ∷ lines)
shared_line es n line lines s h =
    record { has = more_lines es n s.0 line lines s.1 s.3 h.has; plain = and_from _ _ s.2 h.plain }

first_shared : (es : Elements) (n : ℕ) (line : List ℕ) (lines : List (List ℕ)) → IsShared es line → FromAfterBody es (n + 1) lines → FromFirstBody es n (line ∷ lines)
first_shared es n line lines s h =
    record { has = more_lines es n s.0 line lines s.1 s.3 h.has; some = refl; whole = or_right _ _ (and_from _ _ s.2 h.plain) }

-- a line that stands alone
first_alone : (es : Elements) (n : ℕ) (line : List ℕ) (lines : List (List ℕ)) → IsAlone es line → FromBetween es (n + 1) lines → FromFirstBody es n (line ∷ lines)
first_alone es n line lines a h =
    let none = no_lines es (n + 1) lines h in
    record { has = more_lines es n a.0 line lines a.1 a.3 none.has; some = refl; whole = refl }

-- one more cell
more_cells : (es : Elements) (n : ℕ) (line : List ℕ) (lines : List (List ℕ)) → line ≡ decorator_line → FromDefinition es (n + 1) lines → FromBetween es n (line ∷ lines)
more_cells es n line lines e h =
    let b = h.has.has in
    let number : n + 1 + 1 ≡ n + 2 = omega arith in
    let inside : IsTrue (are_lines es (n + 2) b.left) = rw number at b.fit in
    let behind : IsTrue (are_cells es (n + 2 + line_count b.left) b.cells) = rw number at b.cells_fit in
    let cell : Cell = record { line = n; body = b.left } in
    record {
      cells = cell ∷ b.cells;
      fit = and_from _ _ (cell_from es n cell (record { at = refl; some = h.has.some; fits = inside; whole = h.has.whole })) behind;
      parts =
          ap (λ (l : List ℕ). l ∷ lines) e ∙
          (ap (λ (l : List (List ℕ)). decorator_line ∷ l) h.parts ∙
          (ap (λ (l : List (List ℕ)). decorator_line ∷ definition_line ∷ l) b.parts ∙
          ap (λ (l : List (List ℕ)). decorator_line ∷ definition_line ∷ l) (sym (append_assoc (body_lines b.left) (flat_map cell_lines b.cells) footer))));
    }

-- no more cells
last_cells : (es : Elements) (n : ℕ) (line : List ℕ) (lines : List (List ℕ)) → line ≡ main_line → lines ≡ last_line ∷ [] → FromBetween es n (line ∷ lines)
last_cells es n line lines e h = record {
  cells = [];
  fit = refl;
  parts = ap (λ (l : List ℕ). l ∷ lines) e ∙ ap (λ (l : List (List ℕ)). main_line ∷ l) h;
}

-- a body line of one number
one_line : (es : Elements) → IsShared es (codes "    0")
one_line es = (value (literal (record { kind = kind.Number; spelling = codes "0" })), refl, refl, refl)

-- from each place a file goes on to its end
ending : (es : Elements) (p : Place) (n : ℕ) → (lines : List (List ℕ)) × GoesOn es p n lines
ending es First n = (_, record { rest = _; has = record { rest = _; has = no_cells es (n + 1 + 1); parts = refl }; parts = refl })
ending es Second n = (_, record { rest = _; has = no_cells es (n + 1); parts = refl })
ending es Between n = (_, no_cells es n)
ending es Definition n = (_, record { rest = _; has = first_shared es (n + 1) (codes "    0") footer (one_line es) (no_lines es (n + 1 + 1) footer (no_cells es (n + 1 + 1))); parts = refl })
ending es Body n = (_, first_shared es n (codes "    0") footer (one_line es) (no_lines es (n + 1) footer (no_cells es (n + 1))))
ending es AfterBody n = (_, no_lines es n footer (no_cells es n))
ending es AfterAlone n = (_, no_cells es n)
ending es Last n = (_, refl)
ending es Past n = (_, refl)

-- a line that fits goes before those with which a file goes on from the place after it
goes_before : (es : Elements) (p q : Place) (n : ℕ) (line : List ℕ) (lines : List (List ℕ)) → Fits es p line q → GoesOn es q (n + 1) lines → GoesOn es p n (line ∷ lines)
goes_before es p q n line lines (first l e) h = record { rest = lines; has = h; parts = ap (λ (k : List ℕ). k ∷ lines) e }
goes_before es p q n line lines (second l e) h = record { rest = lines; has = h; parts = ap (λ (k : List ℕ). k ∷ lines) e }
goes_before es p q n line lines (decorator l e) h = more_cells es n l lines e h
goes_before es p q n line lines (main l e) h = last_cells es n l lines e h
goes_before es p q n line lines (definition l e) h = record { rest = lines; has = h; parts = ap (λ (k : List ℕ). k ∷ lines) e }
goes_before es p q n line lines (body l e) h = first_shared es n l lines e h
goes_before es p q n line lines (next_body l e) h = shared_line es n l lines e h
goes_before es p q n line lines (next_decorator l e) h = no_lines es n (l ∷ lines) (more_cells es n l lines e h)
goes_before es p q n line lines (next_main l e) h = no_lines es n (l ∷ lines) (last_cells es n l lines e h)
goes_before es p q n line lines (alone l e) h = first_alone es n l lines e h
goes_before es p q n line lines (decorator_behind l e) h = more_cells es n l lines e h
goes_before es p q n line lines (main_behind l e) h = last_cells es n l lines e h
goes_before es p q n line lines (last l e) h = ap (λ (k : List ℕ). k ∷ lines) e ∙ ap (λ (k : List (List ℕ)). last_line ∷ k) h

-- lines that fit go on to the end of a file
goes_on : (es : Elements) (p q : Place) (n : ℕ) (lines : List (List ℕ)) → Leads es p lines q → (more : List (List ℕ)) × GoesOn es p n (lines ++ more)
goes_on es p q n lines (none s) = ending es s n
goes_on es p q n lines (then_fits from s to line rest fit lead) =
    let w = goes_on es s to (n + 1) rest lead in
    (w.0, goes_before es from s n line (rest ++ w.0) fit w.1)

-- These are the first lines of a file of the form, whatever the number of its body lines.
record AreFirst (es : Elements) (lines : List (List ℕ)) : Type 0 where
  cells : List Cell
  more : List (List ℕ)
  fit : IsTrue (are_cells es 3 cells)
  parts : file_lines cells ≡ lines ++ more

-- lines that fit one after the other are the first ones of a file
are_first : (es : Elements) (at : Place) (lines : List (List ℕ)) → Leads es First lines at → AreFirst es lines
are_first es at lines lead =
    let w = goes_on es First at 1 lines lead in
    let h = w.1.has in
    record {
      cells = h.has.cells;
      more = w.0;
      fit = h.has.fit;
      parts = sym (w.1.parts ∙ ap (λ (l : List (List ℕ)). import_line ∷ l) (h.parts ∙ ap (λ (l : List (List ℕ)). app_line ∷ l) h.has.parts));
    }

-- ---- the lines of a file

-- the last lines, from a place where the first of them fits
footer_leads : (es : Elements) (p : Place) → Fits es p main_line Last → Leads es p footer Past
footer_leads es p fit = then_fits p Last Past _ _ fit (then_fits Last Past Past last_line [] (last last_line refl) (none Past))

behind_by : (es : Elements) (b : Bool) → Fits es (cond b AfterAlone AfterBody) decorator_line Definition × Fits es (cond b AfterAlone AfterBody) main_line Last
behind_by es true = (decorator_behind decorator_line refl, main_behind main_line refl)
behind_by es false = (next_decorator decorator_line refl, next_main main_line refl)

-- behind a cell a further one fits, and the last lines
behind_body : (es : Elements) (s : Stmts) → IsTrue (not (is_empty s)) → Fits es (place_after s) decorator_line Definition × Fits es (place_after s) main_line Last
behind_body es end some = absurd (false≢true some)
behind_body es (then_comes (stmt k h block) s) some = behind_by es (stands_alone h)

-- cells, and the last lines
cells_lead : (es : Elements) (p : Place) (n : ℕ) (cells : List Cell) → Fits es p decorator_line Definition → Fits es p main_line Last → IsTrue (are_cells es n cells) → Leads es p (flat_map cell_lines cells ++ footer) Past
cells_lead es p n [] next close f = footer_leads es p close
cells_lead es p n (c ∷ cells) next close f =
    let w = and_parts _ _ f in
    let after = place_after c.body in
    let some = cell_parts es n c w.0 in
    let fits = behind_body es c.body some.some in
    let behind = cells_lead es after (n + 2 + line_count c.body) cells fits.0 fits.1 w.1 in
    let P : List (List ℕ) → Type 0 = λ l. Leads es p l Past in
    subst P (sym (append_assoc (cell_lines c) (flat_map cell_lines cells) footer)) (leads-append es p after Past (cell_lines c) (flat_map cell_lines cells ++ footer) (leads_cell es p n c w.0 next) behind)

-- the lines of a file fit one after the other
file_leads : (es : Elements) (cells : List Cell) → IsTrue (are_cells es 3 cells) → Leads es First (file_lines cells) Past
file_leads es cells f =
    let inside = cells_lead es Between 3 cells (decorator decorator_line refl) (main main_line refl) f in
    then_fits First Second Past import_line _ (first import_line refl) (then_fits Second Between Past app_line _ (second app_line refl) inside)

-- the first lines of a file lead to a place
pub take_leads : (es : Elements) (k : ℕ) (cells : List Cell) → IsTrue (are_cells es 3 cells) → (q : Place) × Leads es First (take k (file_lines cells)) q
take_leads es k cells f =
    let P : List (List ℕ) → Type 0 = λ l. Leads es First l Past in
    let whole : Leads es First (take k (file_lines cells) ++ drop k (file_lines cells)) Past = subst P (sym (take-append-drop k (file_lines cells))) (file_leads es cells f) in
    let w = leads_parts es First Past (take k (file_lines cells)) (drop k (file_lines cells)) whole in
    (w.0, w.1)

-- ---- where reading stops

-- behind a line that stands alone is the place for that
pub alone_last : (es : Elements) (p at : Place) (lines before : List (List ℕ)) (line : List ℕ) → Leads es p lines at → lines ≡ before ++ line ∷ [] → IsAlone es line → at ≡ AfterAlone
alone_last es p at lines before line lead e a =
    let P : List (List ℕ) → Type 0 = λ l. Leads es p l at in
    let w = leads_parts es p at before (line ∷ []) (subst P e lead) in
    after_alone es w.0 at line (one_fits es w.0 at line w.2) a

-- lines that fit, for which there are few enough body lines, are a beginning
begins : (es : Elements) (bytes : List ℕ) (line : ℕ) (s : IsStuck es (record { bytes = bytes; line = 1; room = 1000 }) First line) → LinesFit es bytes (length s.lines)
begins es bytes line s =
    let f = are_first es s.at s.lines s.leads in
    let front : take (length s.lines) (file_lines f.cells) ≡ s.lines = ap (take (length s.lines)) f.parts ∙ take_at s.lines f.more (length s.lines) refl in
    let size : length (file_lines f.cells) ≡ length s.lines + length f.more = ap length f.parts ∙ length-append s.lines f.more in
    record {
      cells = f.cells;
      rest = s.rest;
      fits = f.fit;
      long = omega arith;
      few = rw front s.few;
      text = rw front s.bytes;
      alone = λ before last after e a i. s.apart (alone_last es First s.at s.lines before last s.leads (sym front ∙ e) a) (after, i);
    }

-- a list of one line
one_more : (more : List (List ℕ)) → length more ≡ 1 → (next : List ℕ) × (more ≡ next ∷ [])
one_more [] e = absurd (omega arith)
one_more (x ∷ []) e = (x, refl)
one_more (x ∷ y ∷ xs) e = absurd (omega arith)

-- one body line more
count_one : (lines : List (List ℕ)) (next : List ℕ) → is_body_line next ≡ true → count_by is_body_line (lines ++ next ∷ []) ≡ count_by is_body_line lines + 1
count_one lines next h =
    let one : count_by is_body_line (next ∷ []) ≡ 1 = rw h refl in
    count-append lines (next ∷ []) ∙ ap (λ (n : ℕ). count_by is_body_line lines + n) one

-- a line behind those that lead to a place fits there
next_fits : (es : Elements) (p at r : Place) (lines : List (List ℕ)) (next : List ℕ) → Leads es p lines at → Leads es p (lines ++ next ∷ []) r → Fits es at next r
next_fits es p at r lines next a b =
    let split = leads_parts es p r lines (next ∷ []) b in
    let F : Place → Type 0 = λ q. Fits es q next r in
    subst F (leads_once es p split.0 at lines split.1 a) (one_fits es split.0 r next split.2)

-- one line more than those that lead to a place
record IsOneMore (es : Elements) (at to : Place) (lines whole : List (List ℕ)) (bytes rest : List ℕ) : Type 0 where
  next : List ℕ
  fits : Fits es at next to
  parts : whole ≡ lines ++ next ∷ []
  left : bytes ≡ text_of (next ∷ []) ++ rest

-- two lists of lines with which the same bytes begin, the one a line longer
longer : (es : Elements) (at to : Place) (xs ys : List (List ℕ)) (a b : List ℕ) → Leads es First xs at → Leads es First ys to → length ys ≡ length xs + 1 → text_of xs ++ a ≡ text_of ys ++ b → IsOneMore es at to xs ys a b
longer es at to xs ys a b short long size e =
    let far = agree xs ys a b (leads_unbroken es First at xs short) (leads_unbroken es First to ys long) (omega arith) e in
    let sizes : length ys ≡ length xs + length far.more = ap length far.parts ∙ length-append xs far.more in
    let one = one_more far.more (omega arith) in
    let parts : ys ≡ xs ++ one.0 ∷ [] = far.parts ∙ ap (λ (l : List (List ℕ)). xs ++ l) one.1 in
    let P : List (List ℕ) → Type 0 = λ l. Leads es First l to in
    record {
      next = one.0;
      fits = next_fits es First at to xs one.0 short (subst P parts long);
      parts = parts;
      left = far.left ∙ ap (λ (l : List (List ℕ)). text_of l ++ b) one.1;
    }

-- where reading stops there is no beginning that is a line longer
no_longer : (es : Elements) (bytes : List ℕ) (line : ℕ) (s : IsStuck es (record { bytes = bytes; line = 1; room = 1000 }) First line) → LinesFit es bytes (suc (length s.lines)) → ⊥
no_longer es bytes line s b =
    let n = suc (length s.lines) in
    let ys = take n (file_lines b.cells) in
    let led = take_leads es n b.cells b.fits in
    let size : length ys ≡ length s.lines + 1 = length-take-le n (file_lines b.cells) b.long ∙ omega arith in
    let more = longer es s.at led.0 s.lines ys s.rest b.rest s.leads led.1 size (sym s.bytes ∙ b.text) in
    elim (s.stuck more.next b.rest led.0 more.left more.fits) as (λ _. ⊥) [
      | inl full ↦ let count : count_by is_body_line ys ≡ count_by is_body_line s.lines + 1 = ap (count_by is_body_line) more.parts ∙ count_one s.lines more.next (body_is es more.next full.0) in
          let many : count_by is_body_line s.lines ≡ 1000 = full.1 in
          let few : count_by is_body_line ys ≤ 1000 = b.few in
          omega arith
      | inr apart ↦ b.alone s.lines more.next apart.1.0 more.parts (only_alone es s.at led.0 more.next apart.0 more.fits) apart.1.1
    ]

-- where reading is stuck the bytes fail
pub stuck_fails : (es : Elements) (bytes : List ℕ) (line : ℕ) → AreElements bytes es → length bytes ≤ 1048576 → ((nb : List Cell) → IsForm bytes nb → ⊥) → IsStuck es (record { bytes = bytes; line = 1; room = 1000 }) First line → FailsAt bytes line
stuck_fails es bytes line are short formless s =
    let number : line ≡ suc (length s.lines) = omega (arith, s.number) in
    let P : ℕ → Type 0 = λ n. FailsAt bytes n in
    subst P (sym number) (short, es, are, begins es bytes line s, no_longer es bytes line s, formless)
