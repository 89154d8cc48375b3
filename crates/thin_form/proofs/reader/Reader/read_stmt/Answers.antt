-- A body line that comes is read.
use Rattle.std.proofs.Common.{◌≡◌, ◌⊎◌, ◌++◌, [], ◌∷◌, ◌+◌, Bool, false, List, ℕ, Some, None, sym, ◌∙◌, ap, IsTrue, arith, append_assoc, option_map}
use Rattle.form_meaning.specs.Thin.{Elements, is_line, stands_alone, head_text, line_text}
use Rattle.py_tree.specs.TextLines.{text_of, is_unbroken}
use Rattle.py_tree.specs.Trees.{Head, Stmt, stmt, Stmts, end}
use Rattle.py_tree.specs.View.{view_head, view_block}
use Rattle.thin_form.specs.SliderNames.{as_elements}
use Rattle.thin_form.specs.FileParts.{At, HasStmt, IsIndented, IsPlaced}
use Rattle.py_tree.proofs.Breaks.{cut_once}
use Rattle.thin_form.proofs.OneLine.{line_unbroken}
use Rattle.thin_form.proofs.Stops.{Misplaced, stops_full, stops_misplaced}
use Rattle.thin_form.proofs.Views.{view_line}
use Rattle.thin_form.proofs.reader.Reader.read_stmt.Goals as goal

-- the bytes begin with the indent
indent : (bytes left : List ℕ) → left ≡ bytes → (text rest : List ℕ) → left ≡ 32 ∷ 32 ∷ 32 ∷ 32 ∷ (text ++ 10 ∷ rest) → IsIndented bytes
indent bytes left v text rest e = (text ++ 10 ∷ rest, sym v ∙ e)

-- the text of the line that the bytes begin with
same_text : (es : Elements) (bytes left : List ℕ) → left ≡ bytes → (text rest : List ℕ) → left ≡ 32 ∷ 32 ∷ 32 ∷ 32 ∷ (text ++ 10 ∷ rest) → IsTrue (is_unbroken text) → (h : Head) (after : List ℕ) → IsTrue (is_line es h) → bytes ≡ text_of (line_text h ∷ []) ++ after → (text ≡ head_text h) × (rest ≡ after)
same_text es bytes left v text rest e unbroken h after line f =
    let g : 32 ∷ 32 ∷ 32 ∷ 32 ∷ (text ++ 10 ∷ rest) ≡ 32 ∷ 32 ∷ 32 ∷ 32 ∷ (head_text h ++ 10 ∷ after) = sym e ∙ (v ∙ (f ∙ simp append_assoc)) in
    cut_once text (head_text h) rest after unbroken (line_unbroken es h line) cc

printed : (text rest : List ℕ) (h : Head) → text ≡ head_text h → 32 ∷ 32 ∷ 32 ∷ 32 ∷ (text ++ 10 ∷ rest) ≡ text_of (line_text h ∷ []) ++ rest
printed text rest h e = rw e (simp append_assoc)

found : (es : Elements) (first : Bool) (before after : At) (s : Stmt) (text : List ℕ) (h : Head) (block : Stmts) → s ≡ stmt before.line h block → block ≡ end → IsTrue (is_line es h) → text ≡ head_text h → IsPlaced first h after.bytes → before.bytes ≡ 32 ∷ 32 ∷ 32 ∷ 32 ∷ (text ++ 10 ∷ after.bytes) → after.line ≡ before.line + 1 → before.room ≡ after.room + 1 → HasStmt es first before after s
found es first before after s text h block is b line t placed e n r = record {
  head = h;
  is = is ∙ ap (λ (rest : Stmts). stmt before.line h rest) b;
  fits = line;
  placed = placed;
  past = record { bytes = e ∙ printed text after.bytes h t; line = n; room = r };
}

pub returns-then-self-eq0-clause-ends : goal.returns-then-self-eq0-clause-ends
returns-then-self-eq0-clause-ends c h =
    absurd (h (indent _ _ (ap (λ (a : At). a.bytes) c.self.view_is) _ _ c.in-Some.ensures.1))

pub returns-in_err-line-clause-ends : goal.returns-in_err-line-clause-ends
returns-in_err-line-clause-ends c h =
    absurd (h (indent _ _ (ap (λ (a : At). a.bytes) c.self.view_is) _ _ c.in-Some.ensures.1))

pub returns-in_default-2-clause-only : goal.returns-in_default-2-clause-only
returns-in_default-2-clause-only c head rest line placed room e =
    let w = same_text _ _ _ (ap (λ (a : At). a.bytes) c.self.view_is) _ _ c.in-Some.ensures.1 c.in-Some.ensures.0 head rest line e in
    let here : IsPlaced c.args.first head c.in-Some.rest.now = rw w.1 placed in
    let r : option_map view_head c.in_ok-line.field-0 ≡ Some head = c.in_ok-line.ensures.only head line here w.0 in
    let n : option_map view_head None ≡ Some head = rw c.in_default-2.is at r in
    cc

pub returns-in_default-2-clause-ends : goal.returns-in_default-2-clause-ends
returns-in_default-2-clause-ends c h =
    absurd (h (indent _ _ (ap (λ (a : At). a.bytes) c.self.view_is) _ _ c.in-Some.ensures.1))

pub returns-clause-found : goal.returns-clause-found
returns-clause-found c =
    let l = c.in-Some-2.line in
    let b : view_block c.of.result ≡ end = rw c.new.ensures.items at c.of.ensures.view in
    let f = rw c.in-Some-2.is at c.in_ok-line.ensures.found in
    let bytes = ap (λ (a : At). a.bytes) c.self.view_is in
    let line = ap (λ (a : At). a.line) c.self.view_is in
    let room = ap (λ (a : At). a.room) c.self.view_is in
    let v = view_line c.self.inside.line l c.of.result ∙ ap (λ (n : ℕ). stmt n (view_head l) (view_block c.of.result)) line in
    found _ c.args.first c.args.self.now _ _ c.in-Some.text.now (view_head l) (view_block c.of.result) v b f.0 f.1 f.2 (sym bytes ∙ c.in-Some.ensures.1) (ap (λ (n : ℕ). n + 1) line) (omega arith)

pub returns-clause-only : goal.returns-clause-only
returns-clause-only c head rest line placed room e =
    let l = c.in-Some-2.line in
    let b : view_block c.of.result ≡ end = rw c.new.ensures.items at c.of.ensures.view in
    let number = ap (λ (a : At). a.line) c.self.view_is in
    let w = same_text _ _ _ (ap (λ (a : At). a.bytes) c.self.view_is) _ _ c.in-Some.ensures.1 c.in-Some.ensures.0 head rest line e in
    let here : IsPlaced c.args.first head c.in-Some.rest.now = rw w.1 placed in
    let r : option_map view_head c.in_ok-line.field-0 ≡ Some head = c.in_ok-line.ensures.only head line here w.0 in
    let n : Some (view_head l) ≡ Some head = rw c.in-Some-2.is at r in
    let h : view_head l ≡ head = cc in
    let v = view_line c.self.inside.line l c.of.result in
    (cc, w.1)

pub returns-clause-ends : goal.returns-clause-ends
returns-clause-ends c h =
    absurd (h (indent _ _ (ap (λ (a : At). a.bytes) c.self.view_is) _ _ c.in-Some.ensures.1))

pub returns-then-self-eq0-clause-stuck : goal.returns-then-self-eq0-clause-stuck
returns-then-self-eq0-clause-stuck c =
    let room : 0 ≡ c.args.self.now.room = sym c.if-self-eq0.true ∙ ap (λ (a : At). a.room) c.self.view_is in
    let i = indent _ _ (ap (λ (a : At). a.bytes) c.self.view_is) _ _ c.in-Some.ensures.1 in
    stops_full (as_elements c.args.elements.now) c.args.first c.args.self.now c.fault.result c.fault.ensures i room

pub returns-in_default-2-clause-stuck : goal.returns-in_default-2-clause-stuck
returns-in_default-2-clause-stuck c =
    let es = as_elements c.args.elements.now in
    let bytes = ap (λ (a : At). a.bytes) c.self.view_is in
    let i = indent _ _ bytes _ _ c.in-Some.ensures.1 in
    let none = rw c.in_default-2.is at c.in_ok-line.ensures.none in
    let wrong : Misplaced es c.args.first c.args.self.now.bytes = λ h after line e. let w = same_text es _ _ bytes _ _ c.in-Some.ensures.1 c.in-Some.ensures.0 h after line e in let n : IsTrue (stands_alone h) × ((c.args.first ≡ false) ⊎ IsIndented c.in-Some.rest.now) = none h line w.0 in rw w.1 at n in
    stops_misplaced es c.args.first c.args.self.now c.fault-in_default-2.result c.fault-in_default-2.ensures i wrong
