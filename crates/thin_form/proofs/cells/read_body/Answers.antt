-- Each line of a body is read in turn.
use Rattle.std.proofs.Common.{◌≡◌, ◌<◌, ℕ, Bool, eqb, List, [], ◌∷◌, ◌++◌, length, IsTrue, not, refl, inl, inr, sym, ap, ◌∙◌, arith, subst, eq-eqb, vec_len}
use Rattle.std.proofs.lemmas.Bool.{eqb-true, eqb-false, false≢true, ne_eqb}
use Rattle.std.proofs.lemmas.Result.{err_from_is_err_and}
use Rattle.thin_form.specs.SliderNames.{as_elements}
use Rattle.thin_form.specs.FileParts.{At, IsIndented}
use Rattle.thin_form.specs.Places.{IsBody, IsNoNext, StopsAt}
use Rattle.thin_form.specs.declared.thin_file.ThinFault.TheVariants.{Thin, Memory}
use Rattle.thin_form.proofs.Stops.{between_after, body_place, stops_body, stops_empty}
use Rattle.thin_form.proofs.Bodies.{begins, has_more, goes_on, joined, kept_none, kept_on, last, next, next_placed, space_first, start, view-push}
use Rattle.form_meaning.specs.Thin.{is_empty, body_lines}
use Rattle.py_tree.specs.TextLines.{text_of}
use Rattle.py_tree.specs.Trees.{end, then_comes}
use Rattle.py_tree.specs.View.{view_stmt, view_stmts}
use Rattle.py_tree.specs.declared.tree.Stmt.{Stmt}
use Rattle.thin_form.proofs.cells.read_body.Goals as goal

no_lines : (xs : List Stmt) → length xs ≡ 0 → view_stmts xs ≡ end
no_lines [] e = refl
no_lines (x ∷ xs) e = absurd (omega arith)

some_lines : (xs : List Stmt) → 0 < length xs → IsTrue (not (is_empty (view_stmts xs)))
some_lines [] e = absurd (omega arith)
some_lines (x ∷ xs) e = refl

-- whether the next line is the first one
opens : (xs : List Stmt) (n : ℕ) → length xs ≡ n → eqb n 0 ≡ is_empty (view_stmts xs)
opens [] n e = eq-eqb n 0 (sym e)
opens (x ∷ xs) n e = ne_eqb n 0 (λ none. omega arith)

pub returns-in_err-stmt-clause-only : goal.returns-in_err-stmt-clause-only
returns-in_err-stmt-clause-only c body rest fits some whole room e u =
    let es = as_elements c.args.elements.now in
    let inv = c.loop-stmts.invariant in
    let done = view_stmts c.loop-stmts.stmts.items in
    let first : c.is_empty.result ≡ is_empty done = c.is_empty.ensures ∙ opens c.loop-stmts.stmts.items (vec_len c.loop-stmts.stmts) (omega (arith, c.loop-stmts.stmts.ok.0)) in
    let only = c.in_err-stmt.ensures.only in
    let ends = c.in_err-stmt.ensures.ends in
    let memory : c.in_err-stmt.field-0.0 ≡ Memory =
    elim (next es c.args.reader.now c.loop-stmts.reader done body rest inv.found fits room (inv.continues body rest fits whole room e u)) as (λ _. c.in_err-stmt.field-0.0 ≡ Memory) [
      | inl n ↦ only n.head (text_of (body_lines n.more) ++ rest) n.fits (rw first (next_placed es c.loop-stmts.reader done body rest n whole u)) n.room n.left
      | inr n ↦ let none = ends (rw n.left (space_first rest u)) in cc
    ] in
    let p = err_from_is_err_and c.from_residual.result c.from_residual.ensures.1 in
    rw (p.1, p.2) memory

pub loop-stmts-init : goal.loop-stmts-init
loop-stmts-init c = record {
  found = rw c.new-stmts.ensures.items (start (as_elements c.args.elements.now) c.args.reader.now);
  continues = rw c.new-stmts.ensures.items (begins (as_elements c.args.elements.now) c.args.reader.now);
  kept = rw c.new-stmts.ensures.items (kept_none c.args.reader.now.bytes);
}

pub loop-stmts-preserved : goal.loop-stmts-preserved
loop-stmts-preserved c =
    let es = as_elements c.args.elements.now in
    let inv = c.loop-stmts.invariant in
    let done = view_stmts c.loop-stmts.stmts.items in
    let first : c.is_empty.result ≡ is_empty done = c.is_empty.ensures ∙ opens c.loop-stmts.stmts.items (vec_len c.loop-stmts.stmts) (omega (arith, c.loop-stmts.stmts.ok.0)) in
    let s = c.in-Some.stmt in
    let line = rw c.in-Some.is at c.in_ok-stmt.ensures.found in
    let only = rw c.in-Some.is at c.in_ok-stmt.ensures.only in
    let v : view_stmts c.push.new.self.items ≡ joined done (then_comes (view_stmt s) end) = ap view_stmts c.in_ok-push.ensures.items ∙ view-push c.loop-stmts.stmts.items s in
    record {
      found = rw v (has_more es _ _ c.loop-stmts.reader _ done (view_stmt s) inv.found line);
      continues = rw v (goes_on es _ _ c.loop-stmts.reader _ done (view_stmt s) first inv.found inv.continues line only);
      kept = rw v (kept_on es _ c.loop-stmts.reader _ done (view_stmt s) first inv.kept line);
    }

pub returns-then-is_empty-clause-only : goal.returns-then-is_empty-clause-only
returns-then-is_empty-clause-only c body rest fits some whole room e u =
    let es = as_elements c.args.elements.now in
    let inv = c.loop-stmts.invariant in
    let done = view_stmts c.loop-stmts.stmts.items in
    let first : c.is_empty.result ≡ is_empty done = c.is_empty.ensures ∙ opens c.loop-stmts.stmts.items (vec_len c.loop-stmts.stmts) (omega (arith, c.loop-stmts.stmts.ok.0)) in
    let size : vec_len c.loop-stmts.stmts ≡ 0 = eqb-true _ _ (sym c.if-is_empty.ensures) in
    let none : done ≡ end = no_lines _ (omega (arith, c.loop-stmts.stmts.ok.0)) in
    let only = rw c.in_default.is at c.in_ok-stmt.ensures.only in
    let ended = last es c.args.reader.now c.loop-stmts.reader done body rest inv.found (λ head after f p r l. (only head after f (rw first p) r l).0) fits whole room u (inv.continues body rest fits whole room e u) in
    let empty : body ≡ end = ended.parts ∙ none in
    absurd (false≢true (rw empty at some))

pub returns-clause-some : goal.returns-clause-some
returns-clause-some c =
    let size : vec_len c.loop-stmts.stmts ≡ 0 → ⊥ = eqb-false _ _ (sym c.if-is_empty.ensures) in
    some_lines _ (omega (arith, c.loop-stmts.stmts.ok.0))

pub returns-clause-whole : goal.returns-clause-whole
returns-clause-whole c = c.loop-stmts.invariant.kept.whole

pub returns-clause-only : goal.returns-clause-only
returns-clause-only c body rest fits some whole room e u =
    let es = as_elements c.args.elements.now in
    let inv = c.loop-stmts.invariant in
    let done = view_stmts c.loop-stmts.stmts.items in
    let first : c.is_empty.result ≡ is_empty done = c.is_empty.ensures ∙ opens c.loop-stmts.stmts.items (vec_len c.loop-stmts.stmts) (omega (arith, c.loop-stmts.stmts.ok.0)) in
    let same : c.read_stmt.new.self ≡ c.loop-stmts.reader = rw c.in_default.is at c.in_ok-stmt.ensures.found in
    let only = rw c.in_default.is at c.in_ok-stmt.ensures.only in
    let ended = last es c.args.reader.now c.loop-stmts.reader done body rest inv.found (λ head after f p r l. (only head after f (rw first p) r l).0) fits whole room u (inv.continues body rest fits whole room e u) in
    (sym ended.parts, ap (λ (a : At). a.bytes) same ∙ ended.left)

pub returns-in_err-stmt-clause-stuck : goal.returns-in_err-stmt-clause-stuck
returns-in_err-stmt-clause-stuck c =
    let es = as_elements c.args.elements.now in
    let inv = c.loop-stmts.invariant in
    let done = view_stmts c.loop-stmts.stmts.items in
    let first : c.is_empty.result ≡ is_empty done = c.is_empty.ensures ∙ opens c.loop-stmts.stmts.items (vec_len c.loop-stmts.stmts) (omega (arith, c.loop-stmts.stmts.ok.0)) in
    let P : Bool → Type 0 = λ t. StopsAt es c.loop-stmts.reader (body_place t) c.in_err-stmt.field-0.0 in
    let ends = c.in_err-stmt.ensures.ends in
    let indented : (IsIndented c.loop-stmts.reader.bytes → ⊥) → ⊥ = λ none. let bad = ends none in cc in
    let p = err_from_is_err_and c.from_residual.result c.from_residual.ensures.1 in
    rw (p.1, p.2) (stops_body es c.args.reader.now c.loop-stmts.reader done c.in_err-stmt.field-0.0 inv.found inv.kept indented (subst P first c.in_err-stmt.ensures.stuck))

pub returns-then-is_empty-clause-stuck : goal.returns-then-is_empty-clause-stuck
returns-then-is_empty-clause-stuck c =
    let es = as_elements c.args.elements.now in
    let size : vec_len c.loop-stmts.stmts ≡ 0 = eqb-true _ _ (sym c.if-is_empty.ensures) in
    let empty : view_stmts c.loop-stmts.stmts.items ≡ end = no_lines _ (omega (arith, c.loop-stmts.stmts.ok.0)) in
    let same : c.read_stmt.new.self ≡ c.loop-stmts.reader = rw c.in_default.is at c.in_ok-stmt.ensures.found in
    let none : IsNoNext (IsBody es) c.loop-stmts.reader.bytes = rw c.in_default.is at c.in_ok-stmt.ensures.none in
    let line = ap (λ (a : At). Thin a.line) same in
    stops_empty es c.args.reader.now c.loop-stmts.reader (view_stmts c.loop-stmts.stmts.items) c.fault.result c.loop-stmts.invariant.found empty (c.fault.ensures ∙ line) none

pub returns-clause-between : goal.returns-clause-between
returns-clause-between c =
    let es = as_elements c.args.elements.now in
    let done = view_stmts c.loop-stmts.stmts.items in
    let size : vec_len c.loop-stmts.stmts ≡ 0 → ⊥ = eqb-false _ _ (sym c.if-is_empty.ensures) in
    let some : IsTrue (not (is_empty done)) = some_lines _ (omega (arith, c.loop-stmts.stmts.ok.0)) in
    let same : c.read_stmt.new.self ≡ c.loop-stmts.reader = rw c.in_default.is at c.in_ok-stmt.ensures.found in
    let none : IsNoNext (IsBody es) c.loop-stmts.reader.bytes = rw c.in_default.is at c.in_ok-stmt.ensures.none in
    rw same (between_after es done c.loop-stmts.reader.bytes some c.loop-stmts.invariant.kept.apart none)
