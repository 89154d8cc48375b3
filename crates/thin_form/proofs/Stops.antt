-- Where reading stops.
use Rattle.std.proofs.Common.{◌≡◌, ◌⊎◌, inl, inr, ℕ, ◌+◌, Bool, true, false, cond, not, IsTrue, List, [], ◌∷◌, ◌++◌, refl, sym, ap, ◌∙◌, append_assoc, append-nil, length-append, arith, subst}
use Rattle.std.specs.Prelude.{flat_map}
use Rattle.std.specs.List.{count_by}
use Rattle.std.proofs.lemmas.Bool.{and_parts, not-true, false≢true}
use Rattle.std.proofs.lemmas.List.Concat.{flat_map-append}
use Rattle.thin_form.specs.FileParts.{At, HasBody, HasCell, HasCells, IsIndented, IsPast}
use Rattle.thin_form.specs.Places.{Place, First, Second, Between, Definition, Body, AfterBody, AfterAlone, Last, Past, IsBody, IsNoNext, IsShared, Fits, first, second, decorator, main, definition, body, next_body, next_decorator, next_main, alone, decorator_behind, main_behind, last, Leads, none, then_fits, IsApart, IsBetween, place_after, IsStuck, StopsAt}
use Rattle.thin_form.specs.declared.thin_file.ThinFault.{ThinFault}
use Rattle.thin_form.specs.declared.thin_file.ThinFault.TheVariants.{Thin, Memory}
use Rattle.thin_form.proofs.Bodies.{IsKept}
use Rattle.thin_form.proofs.Leads.{alone_body, count-append, leads-append, leads-one, line_is_body, shared_body}
use Rattle.thin_form.proofs.Parts.{cell_parts, first_line, whole_parts}
use Rattle.py_tree.proofs.Breaks.{text-append}
use Rattle.thin_form.proofs.WholeCells.{bodies, bodies-cons}
use Rattle.form_meaning.specs.Fails.{is_body_line, IsAlone}
use Rattle.form_meaning.specs.Thin.{Elements, is_line, stands_alone, is_empty, is_plain, are_lines, line_count, is_cell, are_cells, body_lines, cell_lines, line_text, import_line, app_line, decorator_line, definition_line, main_line, last_line, is_whole}
use Rattle.py_tree.specs.TextLines.{text_of}
use Rattle.py_tree.specs.Trees.{Head, Stmts, stmt, end, then_comes, Cell}

-- ---- here, and further on

-- a line that fits and for which reading stops all the same
abbrev pub Stops : Elements → List ℕ → List ℕ → Place → Type 0 → Type 0
Stops es next after to full = (IsBody es next × full) ⊎ ((to ≡ AfterAlone) × IsIndented after)

-- Reading stops where the line that comes next doesn't fit.
pub stuck_here : (es : Elements) (a : At) (p : Place) → IsApart p a.bytes → ((next after : List ℕ) (to : Place) → a.bytes ≡ text_of (next ∷ []) ++ after → Fits es p next to → Stops es next after to (0 ≡ a.room)) → IsStuck es a p a.line
stuck_here es a p apart h = record {
  lines = [];
  at = p;
  rest = a.bytes;
  leads = none p;
  bytes = refl;
  number = omega arith;
  few = omega arith;
  apart = apart;
  stuck = h;
}

more_full : (es : Elements) (next after : List ℕ) (to : Place) (full whole : Type 0) → (full → whole) → Stops es next after to full → Stops es next after to whole
more_full es next after to full whole f (inl w) = inl (w.0, f w.1)
more_full es next after to full whole f (inr w) = inr w

-- Reading stops where it stops from further on.
pub stuck_on : (es : Elements) (a b : At) (p q : Place) (lines : List (List ℕ)) (n line : ℕ) → IsPast a b lines n → count_by is_body_line lines ≡ n → Leads es p lines q → IsStuck es b q line → IsStuck es a p line
stuck_on es a b p q lines n line past count leads s = record {
  lines = lines ++ s.lines;
  at = s.at;
  rest = s.rest;
  leads = leads-append es p q s.at lines s.lines leads s.leads;
  bytes = past.bytes ∙ (ap (λ (l : List ℕ). text_of lines ++ l) s.bytes ∙ (sym (append_assoc (text_of lines) (text_of s.lines) s.rest) ∙ ap (λ (l : List ℕ). l ++ s.rest) (sym (text-append lines s.lines))));
  number = omega (arith, past.line, s.number, length-append lines s.lines);
  few = omega (arith, past.room, s.few, count, count-append lines s.lines);
  apart = s.apart;
  stuck = λ next after to e f. more_full es next after to (count_by is_body_line s.lines ≡ b.room) (count_by is_body_line (lines ++ s.lines) ≡ a.room) (λ full. omega (arith, past.room, full, count, count-append lines s.lines)) (s.stuck next after to e f);
}

pub stops_on : (es : Elements) (a b : At) (p q : Place) (lines : List (List ℕ)) (n : ℕ) (e : ThinFault) → IsPast a b lines n → count_by is_body_line lines ≡ n → Leads es p lines q → StopsAt es b q e → StopsAt es a p e
stops_on es a b p q lines n (Thin line) past count leads s = stuck_on es a b p q lines n line past count leads s
stops_on es a b p q lines n Memory past count leads s = tt

-- behind one line that is no body line
pub stops_behind : (es : Elements) (a b : At) (p q : Place) (line : List ℕ) (e : ThinFault) → is_body_line line ≡ false → IsPast a b (line ∷ []) 0 → Fits es p line q → StopsAt es b q e → StopsAt es a p e
stops_behind es a b p q line e other past fits s =
    let count : count_by is_body_line (line ∷ []) ≡ 0 = rw other refl in
    stops_on es a b p q (line ∷ []) 0 e past count (leads-one es p q line fits) s

-- the fault names the line that comes next
pub stops_here : (es : Elements) (a : At) (p : Place) (e : ThinFault) → e ≡ Thin a.line → IsApart p a.bytes → ((next after : List ℕ) (to : Place) → a.bytes ≡ text_of (next ∷ []) ++ after → Fits es p next to → Stops es next after to (0 ≡ a.room)) → StopsAt es a p e
stops_here es a p e n apart h =
    let P : ThinFault → Type 0 = StopsAt es a p in
    subst P (sym n) (stuck_here es a p apart h)

-- ---- bodies

-- a line with an indent, at the place of a body's first line or of a later one
heads : (b c : ℕ) (x y bytes : List ℕ) → (b ≡ c → ⊥) → bytes ≡ b ∷ x → bytes ≡ c ∷ y → ⊥
heads b c x y bytes h e f = h cc

not_indented : (b : ℕ) (x bytes next after : List ℕ) → IsIndented bytes → (b ≡ 32 → ⊥) → next ≡ b ∷ x → bytes ≡ text_of (next ∷ []) ++ after → ⊥
not_indented b x bytes next after i h e f =
    let g : bytes ≡ text_of ((b ∷ x) ∷ []) ++ after = rw e at f in
    heads b 32 _ _ bytes h g i.1

-- the place of the next line of a body
abbrev pub body_place : Bool → Place
body_place initial = cond initial Body AfterBody

body_apart : (initial : Bool) (bytes : List ℕ) → IsApart (body_place initial) bytes
body_apart true bytes same i = cc
body_apart false bytes same i = cc

-- An indented line that fits there may have others beside it, or it is the first one and stands alone.
record IsLine (es : Elements) (initial : Bool) (line : List ℕ) (to : Place) : Type 0 where
  kind : IsShared es line ⊎ ((to ≡ AfterAlone) × IsTrue initial × IsAlone es line)

fits_indented : (es : Elements) (initial : Bool) (bytes next after : List ℕ) (to : Place) → IsIndented bytes → bytes ≡ text_of (next ∷ []) ++ after → Fits es (body_place initial) next to → IsLine es initial next to
fits_indented es true bytes next after to i e (body l s) = record { kind = inl s }
fits_indented es true bytes next after to i e (alone l a) = record { kind = inr (refl, refl, a) }
fits_indented es false bytes next after to i e (next_body l s) = record { kind = inl s }
fits_indented es false bytes next after to i e (next_decorator l d) = absurd (not_indented 64 _ bytes l after i (λ h. omega arith) d e)
fits_indented es false bytes next after to i e (next_main l m) = absurd (not_indented 105 _ bytes l after i (λ h. omega arith) m e)

is_body : (es : Elements) (initial : Bool) (line : List ℕ) (to : Place) → IsLine es initial line to → IsBody es line
is_body es initial line to n = elim n.kind as (λ _. IsBody es line) [ inl s ↦ shared_body es line s | inr a ↦ alone_body es line a.2 ]

-- there is no room
pub stops_full : (es : Elements) (initial : Bool) (a : At) (e : ThinFault) → e ≡ Thin a.line → IsIndented a.bytes → 0 ≡ a.room → StopsAt es a (body_place initial) e
stops_full es initial a e n i room =
    stops_here es a (body_place initial) e n (body_apart initial a.bytes) (λ next after to f fit. inl (is_body es initial next to (fits_indented es initial a.bytes next after to i f fit), room))

-- a line that comes stands alone where it may not
abbrev pub Misplaced : Elements → Bool → List ℕ → Type 0
Misplaced es initial bytes =
    (h : Head) (after : List ℕ) → IsTrue (is_line es h) → bytes ≡ text_of (line_text h ∷ []) ++ after → IsTrue (stands_alone h) × ((initial ≡ false) ⊎ IsIndented after)

misplaced : (es : Elements) (initial : Bool) (a : At) (next after : List ℕ) (to : Place) → Misplaced es initial a.bytes → a.bytes ≡ text_of (next ∷ []) ++ after → IsLine es initial next to → Stops es next after to (0 ≡ a.room)
misplaced es initial a next after to wrong e n =
    elim n.kind as (λ _. Stops es next after to (0 ≡ a.room)) [
      | inl s ↦ let w = wrong s.0 after s.1 (rw s.3 at e) in absurd (false≢true (rw w.0 at s.2))
      | inr l ↦ let w = wrong l.2.0 after l.2.1 (rw l.2.3 at e) in elim w.1 as (λ _. Stops es next after to (0 ≡ a.room)) [
        | inl later ↦ absurd (false≢true (sym later ∙ l.1))
        | inr indent ↦ inr (l.0, indent)
      ]
    ]

-- no line that comes may stand there
pub stops_misplaced : (es : Elements) (initial : Bool) (a : At) (e : ThinFault) → e ≡ Thin a.line → IsIndented a.bytes → Misplaced es initial a.bytes → StopsAt es a (body_place initial) e
stops_misplaced es initial a e n i wrong =
    stops_here es a (body_place initial) e n (body_apart initial a.bytes) (λ next after to f fit. misplaced es initial a next after to wrong f (fits_indented es initial a.bytes next after to i f fit))

pub count_body : (es : Elements) (n : ℕ) (s : Stmts) → IsTrue (are_lines es n s) → count_by is_body_line (body_lines s) ≡ line_count s
count_body es n end p = refl
count_body es n (then_comes (stmt k h block) s) p =
    let w = first_line es n k h block s p in
    let one : count_by is_body_line (line_text h ∷ []) ≡ 1 = rw (line_is_body es h w.fits) refl in
    omega (arith, one, count_body es (n + 1) s w.more, count-append (line_text h ∷ []) (body_lines s))

leads_more : (es : Elements) (n : ℕ) (s : Stmts) → IsTrue (are_lines es n s) → IsTrue (is_plain s) → Leads es AfterBody (body_lines s) AfterBody
leads_more es n end p plain = none AfterBody
leads_more es n (then_comes (stmt k h block) s) p plain =
    let w = first_line es n k h block s p in
    let v = and_parts _ _ plain in
    then_fits AfterBody AfterBody AfterBody (line_text h) (body_lines s) (next_body (line_text h) (h, w.fits, v.0, refl)) (leads_more es (n + 1) s w.more v.1)

-- the lines of a body lead to the place after it
pub leads_body : (es : Elements) (n : ℕ) (s : Stmts) → IsTrue (are_lines es n s) → IsTrue (is_whole s) → Leads es Body (body_lines s) (place_after s)
leads_body es n end p whole = none Body
leads_body es n (then_comes (stmt k h block) s) p whole =
    let w = first_line es n k h block s p in
    let L : Bool → Type 0 = λ b. Leads es Body (line_text h ∷ body_lines s) (cond b AfterAlone AfterBody) in
    elim (whole_parts k h block s whole) as (λ _. L (stands_alone h)) [
      | inl a ↦ let one = leads-one es Body AfterAlone (line_text h) (alone (line_text h) (h, w.fits, a.0, refl)) in
          let S : Stmts → Type 0 = λ t. Leads es Body (line_text h ∷ body_lines t) AfterAlone in
          subst L (sym a.0) (subst S (sym a.1) one)
      | inr b ↦ let more = leads_more es (n + 1) s w.more b.1 in
          subst L (sym (not-true (stands_alone h) b.0)) (then_fits Body AfterBody AfterBody (line_text h) (body_lines s) (body (line_text h) (h, w.fits, b.0, refl)) more)
    ]

shared_place : (b : Bool) → (b ≡ true → ⊥) → AfterBody ≡ cond b AfterAlone AfterBody
shared_place true h = absurd (h refl)
shared_place false h = refl

-- after lines so far of a body another line of it may come, or none with an indent does
pub kept_place : (done : Stmts) (bytes : List ℕ) → IsKept done bytes → ((IsIndented bytes → ⊥) → ⊥) → body_place (is_empty done) ≡ place_after done
kept_place end bytes kept i = refl
kept_place (then_comes (stmt k h block) done) bytes kept i = shared_place (stands_alone h) (λ alone. i (kept.apart (ap (λ (b : Bool). cond b AfterAlone AfterBody) alone)))

pub stops_body : (es : Elements) (a b : At) (done : Stmts) (e : ThinFault) → HasBody es a b done → IsKept done b.bytes → ((IsIndented b.bytes → ⊥) → ⊥) → StopsAt es b (body_place (is_empty done)) e → StopsAt es a Body e
stops_body es a b done e found kept i h =
    let P : Place → Type 0 = λ p. StopsAt es b p e in
    stops_on es a b Body (place_after done) (body_lines done) (line_count done) e found.past (count_body es a.line done found.fits) (leads_body es a.line done found.fits kept.whole) (subst P (kept_place done b.bytes kept i) h)

no_first : (es : Elements) (bytes next after : List ℕ) (to : Place) → IsNoNext (IsBody es) bytes → bytes ≡ text_of (next ∷ []) ++ after → Fits es Body next to → ⊥
no_first es bytes next after to absent e (body l s) = absent l after e (shared_body es l s)
no_first es bytes next after to absent e (alone l a) = absent l after e (alone_body es l a)

-- a body has a line
pub stops_empty : (es : Elements) (a b : At) (done : Stmts) (e : ThinFault) → HasBody es a b done → done ≡ end → e ≡ Thin b.line → IsNoNext (IsBody es) b.bytes → StopsAt es a Body e
stops_empty es a b end e found h n absent =
    stops_on es a b Body Body [] 0 e found.past refl (none Body) (stops_here es b Body e n (λ same i. cc) (λ next after to f fit. absurd (no_first es b.bytes next after to absent f fit)))
stops_empty es a b (then_comes s t) e found h n absent = absurd cc

-- ---- lines that are the same in each file

-- the line that comes next isn't the one that has to come
pub stops_expect : (es : Elements) (a : At) (p : Place) (text : List ℕ) (e : ThinFault) → e ≡ Thin a.line → (p ≡ AfterAlone → ⊥) → ((rest : List ℕ) → a.bytes ≡ text_of (text ∷ []) ++ rest → ⊥) → ((next : List ℕ) (to : Place) → Fits es p next to → next ≡ text) → StopsAt es a p e
stops_expect es a p text e n apart absent only =
    stops_here es a p e n (λ same i. apart same) (λ next after to f fit. absurd (absent after (rw (only next to fit) at f)))

pub first_only : (es : Elements) (next : List ℕ) (to : Place) → Fits es First next to → next ≡ import_line
first_only es next to (first l e) = e

pub second_only : (es : Elements) (next : List ℕ) (to : Place) → Fits es Second next to → next ≡ app_line
second_only es next to (second l e) = e

pub definition_only : (es : Elements) (next : List ℕ) (to : Place) → Fits es Definition next to → next ≡ definition_line
definition_only es next to (definition l e) = e

pub last_only : (es : Elements) (next : List ℕ) (to : Place) → Fits es Last next to → next ≡ last_line
last_only es next to (last l e) = e

past_none : (es : Elements) (next : List ℕ) (to : Place) → Fits es Past next to → ⊥
past_none es next to fit = elim fit [ ]

-- behind the first two lines of a cell
pub stops_in_cell : (es : Elements) (a b c : At) (p : Place) (e : ThinFault) → Fits es p decorator_line Definition → IsPast a b (decorator_line ∷ []) 0 → IsPast b c (definition_line ∷ []) 0 → StopsAt es c Body e → StopsAt es a p e
stops_in_cell es a b c p e fits q r h =
    stops_behind es a b p Definition decorator_line e refl q fits (stops_behind es b c Definition Body definition_line e refl r (definition definition_line refl) h)

-- ---- cells

between_only : (es : Elements) (next : List ℕ) (to : Place) → Fits es Between next to → (next ≡ decorator_line) ⊎ (next ≡ main_line)
between_only es next to (decorator l e) = inl e
between_only es next to (main l e) = inr e

pub alone_only : (es : Elements) (next : List ℕ) (to : Place) → Fits es AfterAlone next to → (next ≡ decorator_line) ⊎ (next ≡ main_line)
alone_only es next to (decorator_behind l e) = inl e
alone_only es next to (main_behind l e) = inr e

after_only : (es : Elements) (bytes next after : List ℕ) (to : Place) → IsNoNext (IsBody es) bytes → bytes ≡ text_of (next ∷ []) ++ after → Fits es AfterBody next to → (next ≡ decorator_line) ⊎ (next ≡ main_line)
after_only es bytes next after to absent e (next_body l s) = absurd (absent l after e (shared_body es l s))
after_only es bytes next after to absent e (next_decorator l f) = inl f
after_only es bytes next after to absent e (next_main l f) = inr f

-- before the first cell
pub between_first : (es : Elements) (bytes : List ℕ) → IsBetween es Between bytes
between_first es bytes = record {
  cell = decorator decorator_line refl;
  close = main main_line refl;
  apart = λ same i. cc;
  over = λ next after to e fit. between_only es next to fit;
}

between_by : (es : Elements) (b : Bool) (bytes : List ℕ) → IsApart (cond b AfterAlone AfterBody) bytes → IsNoNext (IsBody es) bytes → IsBetween es (cond b AfterAlone AfterBody) bytes
between_by es true bytes apart absent = record {
  cell = decorator_behind decorator_line refl;
  close = main_behind main_line refl;
  apart = apart;
  over = λ next after to e fit. alone_only es next to fit;
}
between_by es false bytes apart absent = record {
  cell = next_decorator decorator_line refl;
  close = next_main main_line refl;
  apart = apart;
  over = λ next after to e fit. after_only es bytes next after to absent e fit;
}

-- after a body
pub between_after : (es : Elements) (done : Stmts) (bytes : List ℕ) → IsTrue (not (is_empty done)) → IsApart (place_after done) bytes → IsNoNext (IsBody es) bytes → IsBetween es (place_after done) bytes
between_after es end bytes some apart absent = absurd (false≢true some)
between_after es (then_comes (stmt k h block) done) bytes some apart absent = between_by es (stands_alone h) bytes apart absent

-- the lines of a cell lead to the place after its body
pub leads_cell : (es : Elements) (p : Place) (n : ℕ) (cell : Cell) → IsTrue (is_cell es n cell) → Fits es p decorator_line Definition → Leads es p (cell_lines cell) (place_after cell.body)
leads_cell es p n cell fits f =
    let w = cell_parts es n cell fits in
    let lines = leads_body es (n + 2) cell.body w.fits w.whole in
    then_fits p Definition (place_after cell.body) decorator_line (definition_line ∷ body_lines cell.body) f (then_fits Definition Body (place_after cell.body) definition_line (body_lines cell.body) (definition definition_line refl) lines)

-- lines lead past cells
abbrev pub Led : Elements → List (List ℕ) → List ℕ → Type 0
Led es lines bytes = (at : Place) × Leads es Between lines at × IsBetween es at bytes

pub led_none : (es : Elements) (bytes : List ℕ) → Led es [] bytes
led_none es bytes = (Between, none Between, between_first es bytes)

-- past one more cell
pub led_on : (es : Elements) (b c : At) (done : List Cell) (cell : Cell) → Led es (flat_map cell_lines done) b.bytes → HasCell es b c cell → IsBetween es (place_after cell.body) c.bytes → Led es (flat_map cell_lines (done ++ cell ∷ [])) c.bytes
led_on es b c done cell led past between =
    let to = place_after cell.body in
    let same : flat_map cell_lines (done ++ cell ∷ []) ≡ flat_map cell_lines done ++ cell_lines cell = flat_map-append cell_lines done (cell ∷ []) ∙ ap (λ (ls : List (List ℕ)). flat_map cell_lines done ++ ls) (append-nil (cell_lines cell)) in
    let P : List (List ℕ) → Type 0 = λ ls. Leads es Between ls to in
    let further = leads_cell es led.0 b.line cell past.fits led.2.cell in
    (to, subst P (sym same) (leads-append es Between led.0 to (flat_map cell_lines done) (cell_lines cell) led.1 further), between)

pub count_cells : (es : Elements) (n : ℕ) (cells : List Cell) → IsTrue (are_cells es n cells) → count_by is_body_line (flat_map cell_lines cells) ≡ bodies cells
count_cells es n [] p = refl
count_cells es n (c ∷ cs) p =
    let w = and_parts (is_cell es n c) (are_cells es (n + 2 + line_count c.body) cs) p in
    let cell = cell_parts es n c w.0 in
    let one : count_by is_body_line (body_lines c.body) ≡ line_count c.body = count_body es (n + 2) c.body cell.fits in
    let more : count_by is_body_line (flat_map cell_lines cs) ≡ bodies cs = count_cells es (n + 2 + line_count c.body) cs w.1 in
    omega (arith, one, more, count-append (body_lines c.body) (flat_map cell_lines cs), bodies-cons c cs)

-- behind cells
pub stops_cells : (es : Elements) (a b : At) (done : List Cell) (e : ThinFault) → HasCells es a b done → Led es (flat_map cell_lines done) b.bytes → ((at : Place) → IsBetween es at b.bytes → StopsAt es b at e) → StopsAt es a Between e
stops_cells es a b done e found led h =
    stops_on es a b Between led.0 (flat_map cell_lines done) (bodies done) e found.past (count_cells es a.line done found.fits) led.1 (h led.0 led.2)

-- the main line has to come
pub stops_main : (es : Elements) (d : At) (at : Place) (e : ThinFault) → e ≡ Thin d.line → IsNoNext (λ line. line ≡ decorator_line) d.bytes → ((rest : List ℕ) → d.bytes ≡ text_of (main_line ∷ []) ++ rest → ⊥) → IsBetween es at d.bytes → StopsAt es d at e
stops_main es d at e n absent refused between =
    stops_here es d at e n between.apart (λ next after to f fit. absurd (elim (between.over next after to f fit) as (λ _. ⊥) [ inl h ↦ absent next after f h | inr h ↦ refused after (rw h at f) ]))

-- behind the main line
pub stops_last : (es : Elements) (d e : At) (at : Place) (fault : ThinFault) → IsPast d e (main_line ∷ []) 0 → StopsAt es e Last fault → IsBetween es at d.bytes → StopsAt es d at fault
stops_last es d e at fault past h between = stops_behind es d e at Last main_line fault refl past between.close h

-- behind the whole file
pub stops_past : (es : Elements) (e f : At) (fault : ThinFault) → IsPast e f (last_line ∷ []) 0 → fault ≡ Thin f.line → StopsAt es e Last fault
stops_past es e f fault past n =
    stops_behind es e f Last Past last_line fault refl past (last last_line refl) (stops_here es f Past fault n (λ same i. cc) (λ next after to g fit. absurd (past_none es next to fit)))

-- behind the first line, and behind both lines of the header
pub stops_second : (es : Elements) (a b : At) (e : ThinFault) → IsPast a b (import_line ∷ []) 0 → StopsAt es b Second e → StopsAt es a First e
stops_second es a b e past h = stops_behind es a b First Second import_line e refl past (first import_line refl) h

pub stops_between : (es : Elements) (a b c : At) (e : ThinFault) → IsPast a b (import_line ∷ []) 0 → IsPast b c (app_line ∷ []) 0 → StopsAt es c Between e → StopsAt es a First e
stops_between es a b c e p q h =
    stops_second es a b e p (stops_behind es b c Second Between app_line e refl q (second app_line refl) h)
