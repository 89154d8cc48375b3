-- Each cell is read in turn.
use Rattle.std.proofs.Common.{◌≡◌, [], ◌∷◌, ◌++◌, inl, inr, sym, ap, ◌∙◌}
use Rattle.std.specs.Prelude.{flat_map}
use Rattle.std.proofs.lemmas.Result.{err_from_is_err_and}
use Rattle.thin_form.specs.SliderNames.{as_elements}
use Rattle.thin_form.specs.FileParts.{At}
use Rattle.thin_form.specs.declared.thin_file.ThinFault.TheVariants.{Memory}
use Rattle.thin_form.specs.Places.{IsNoNext}
use Rattle.thin_form.proofs.Stops.{led_none, led_on, stops_cells}
use Rattle.thin_form.proofs.WholeCells.{begins, goes_on, has_more, last, less_room, next, start, view-push}
use Rattle.form_meaning.specs.Thin.{cell_lines, decorator_line}
use Rattle.py_tree.specs.TextLines.{text_of}
use Rattle.py_tree.specs.View.{view_cell, view_cells}
use Rattle.thin_form.proofs.cells.read_cells.Goals as goal

pub returns-in_err-next-clause-only : goal.returns-in_err-next-clause-only
returns-in_err-next-clause-only c cells rest fits room e u v =
    let es = as_elements c.args.elements.now in
    let inv = c.loop-cells.invariant in
    let only = c.in_err-next.ensures.only in
    let ends = c.in_err-next.ensures.ends in
    let memory : c.in_err-next.field-0.0 ≡ Memory =
    elim (next es c.args.reader.now c.loop-cells.reader (view_cells c.loop-cells.cells.items) cells rest inv.found fits room u (inv.continues cells rest fits room e u v)) as (λ _. c.in_err-next.field-0.0 ≡ Memory) [
      | inl n ↦ only n.cell (text_of (flat_map cell_lines n.more) ++ rest) n.fits n.room n.left n.apart
      | inr n ↦ let stop = ends (rw (← n.left) at v) in cc
    ] in
    let p = err_from_is_err_and c.from_residual.result c.from_residual.ensures.1 in
    rw (p.1, p.2) memory

pub loop-cells-init : goal.loop-cells-init
loop-cells-init c =
    let es = as_elements c.args.elements.now in
    record {
      found = rw c.new-cells.ensures.items (start es c.args.reader.now);
      continues = rw c.new-cells.ensures.items (begins es c.args.reader.now);
      led = rw c.new-cells.ensures.items (led_none es c.args.reader.now.bytes);
    }

pub loop-cells-preserved : goal.loop-cells-preserved
loop-cells-preserved c =
    let es = as_elements c.args.elements.now in
    let inv = c.loop-cells.invariant in
    let done = view_cells c.loop-cells.cells.items in
    let x = c.in-Some.next in
    let cell = rw c.in-Some.is at c.in_ok-next.ensures.found in
    let only = rw c.in-Some.is at c.in_ok-next.ensures.only in
    let between = rw c.in-Some.is at c.in_ok-next.ensures.between in
    let v : view_cells c.push.new.self.items ≡ done ++ view_cell x ∷ [] = ap view_cells c.in_ok-push.ensures.items ∙ view-push c.loop-cells.cells.items x in
    record {
      found = rw v (has_more es _ c.loop-cells.reader _ done (view_cell x) inv.found cell);
      led = rw v (led_on es c.loop-cells.reader _ done (view_cell x) inv.led cell between);
      continues = rw v (goes_on es _ c.loop-cells.reader _ done (view_cell x) inv.found inv.continues cell only);
    }

pub loop-cells-smaller : goal.loop-cells-smaller
loop-cells-smaller c = less_room (as_elements c.args.elements.now) c.loop-cells.reader _ (view_cell c.in-Some.next) (rw c.in-Some.is at c.in_ok-next.ensures.found)

pub returns-clause-only : goal.returns-clause-only
returns-clause-only c cells rest fits room e u v =
    let es = as_elements c.args.elements.now in
    let inv = c.loop-cells.invariant in
    let same : c.read_cell.new.reader ≡ c.loop-cells.reader = rw c.in_default.is at c.in_ok-next.ensures.found in
    let only = rw c.in_default.is at c.in_ok-next.ensures.only in
    let ended = last es c.args.reader.now c.loop-cells.reader (view_cells c.loop-cells.cells.items) cells rest inv.found (λ cell after f r l b. (only cell after f r l b).0) fits room u (inv.continues cells rest fits room e u v) in
    (sym ended.parts, ap (λ (a : At). a.bytes) same ∙ ended.left)

pub returns-in_err-next-clause-stuck : goal.returns-in_err-next-clause-stuck
returns-in_err-next-clause-stuck c =
    let es = as_elements c.args.elements.now in
    let inv = c.loop-cells.invariant in
    let stuck = c.in_err-next.ensures.stuck in
    let p = err_from_is_err_and c.from_residual.result c.from_residual.ensures.1 in
    rw (p.1, p.2) (stops_cells es c.args.reader.now c.loop-cells.reader (view_cells c.loop-cells.cells.items) c.in_err-next.field-0.0 inv.found inv.led (λ at between. stuck at between.cell))

pub returns-clause-led : goal.returns-clause-led
returns-clause-led c =
    let led = c.loop-cells.invariant.led in
    let same : c.read_cell.new.reader ≡ c.loop-cells.reader = rw c.in_default.is at c.in_ok-next.ensures.found in
    let absent : IsNoNext (λ line. line ≡ decorator_line) c.loop-cells.reader.bytes = rw c.in_default.is at c.in_ok-next.ensures.between in
    rw same (led.0, led.1, led.2, absent)
