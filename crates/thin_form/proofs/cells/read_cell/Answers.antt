-- The decorator, the `def` line and the body are read in turn.
use Rattle.std.proofs.Common.{◌≡◌, ◌++◌, ◌∙◌, refl}
use Rattle.std.proofs.lemmas.Result.{err_from_is_err_and}
use Rattle.thin_form.specs.SliderNames.{as_elements}
use Rattle.thin_form.specs.Places.{AfterAlone, Definition}
use Rattle.thin_form.proofs.Stops.{definition_only, stops_behind, stops_expect, stops_in_cell}
use Rattle.thin_form.proofs.WholeCells.{at_body, behind_decorator, is_read, same_cell}
use Rattle.form_meaning.specs.Thin.{body_lines, decorator_line, definition_line}
use Rattle.py_tree.specs.TextLines.{text_of}
use Rattle.thin_form.proofs.cells.read_cell.Goals as goal

pub returns-in_err-expect-clause-only : goal.returns-in_err-expect-clause-only
returns-in_err-expect-clause-only c cell rest fits room e u =
    absurd (c.in_err-expect.ensures.refused (text_of (body_lines cell.body) ++ rest) (behind_decorator c.args.reader.now c.skip.new.self cell rest c.if-not-skip.ensures e))

pub returns-in_err-body-clause-only : goal.returns-in_err-body-clause-only
returns-in_err-body-clause-only c cell rest fits room e u =
    let w = at_body (as_elements c.args.elements.now) c.args.reader.now c.skip.new.self c.expect.new.self cell rest c.if-not-skip.ensures c.in_ok-expect.ensures.found fits room e in
    let p = err_from_is_err_and c.from_residual-in_err-body.result c.from_residual-in_err-body.ensures.1 in
    rw (p.1, p.2) (c.in_err-body.ensures.only cell.body rest w.fits w.some w.whole w.room w.bytes u)

pub returns-clause-found : goal.returns-clause-found
returns-clause-found c =
    let b = c.of.ensures.view in
    let found = c.in_ok-body.ensures.found in
    let some = c.in_ok-body.ensures.some in
    let whole = c.in_ok-body.ensures.whole in
    is_read (as_elements c.args.elements.now) c.args.reader.now c.skip.new.self c.expect.new.self _ _ c.line-line.ensures c.if-not-skip.ensures c.in_ok-expect.ensures.found (rw b found) (rw b some) (rw b whole)

pub returns-clause-only : goal.returns-clause-only
returns-clause-only c cell rest fits room e u =
    let w = at_body (as_elements c.args.elements.now) c.args.reader.now c.skip.new.self c.expect.new.self cell rest c.if-not-skip.ensures c.in_ok-expect.ensures.found fits room e in
    let o = c.in_ok-body.ensures.only cell.body rest w.fits w.some w.whole w.room w.bytes u in
    (same_cell (as_elements c.args.elements.now) _ _ c.args.reader.now cell c.line-line.ensures (c.of.ensures.view ∙ o.0) fits, o.1)

pub returns-then-not-skip-clause-between : goal.returns-then-not-skip-clause-between
returns-then-not-skip-clause-between c = λ next after e line. c.if-not-skip.ensures.1 after (rw line at e)

pub returns-clause-between : goal.returns-clause-between
returns-clause-between c = rw c.of.ensures.view c.in_ok-body.ensures.between

pub returns-in_err-expect-clause-stuck : goal.returns-in_err-expect-clause-stuck
returns-in_err-expect-clause-stuck c =
    let es = as_elements c.args.elements.now in
    let p = err_from_is_err_and c.from_residual.result c.from_residual.ensures.1 in
    let apart : Definition ≡ AfterAlone → ⊥ = λ same. cc in
    let here = stops_expect es c.skip.new.self Definition definition_line c.in_err-expect.field-0.0 c.in_err-expect.ensures.line apart c.in_err-expect.ensures.refused (definition_only es) in
    rw (p.1, p.2) (λ at fits. stops_behind es c.args.reader.now c.skip.new.self at Definition decorator_line c.in_err-expect.field-0.0 refl c.if-not-skip.ensures fits here)

pub returns-in_err-body-clause-stuck : goal.returns-in_err-body-clause-stuck
returns-in_err-body-clause-stuck c =
    let es = as_elements c.args.elements.now in
    let p = err_from_is_err_and c.from_residual-in_err-body.result c.from_residual-in_err-body.ensures.1 in
    rw (p.1, p.2) (λ at fits. stops_in_cell es c.args.reader.now c.skip.new.self c.expect.new.self at c.in_err-body.field-0.0 fits c.if-not-skip.ensures c.in_ok-expect.ensures.found c.in_err-body.ensures.stuck)
