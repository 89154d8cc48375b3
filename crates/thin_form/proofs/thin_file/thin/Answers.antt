-- The lines of a file are read in turn.
use Rattle.std.proofs.Common.{◌≤◌, [], ◌∷◌, length, sym, ap, arith}
use Rattle.std.proofs.lemmas.Bool.{eqb-true, eqb-false}
use Rattle.std.proofs.lemmas.Result.{err_from_is_err_and}
use Rattle.thin_form.specs.SliderNames.{as_elements}
use Rattle.thin_form.specs.FileParts.{At}
use Rattle.thin_form.specs.Places.{First, Second, Last}
use Rattle.thin_form.proofs.Stops.{first_only, last_only, second_only, stops_between, stops_cells, stops_expect, stops_last, stops_main, stops_past, stops_second}
use Rattle.thin_form.proofs.WholeFiles.{at_cells, at_end, before_first, before_last, before_second, cause, empty, form, no_cell, no_line}
use Rattle.form_meaning.specs.Fails.{AreElements}
use Rattle.form_meaning.specs.Thin.{import_line, app_line, last_line, footer}
use Rattle.py_tree.specs.TextLines.{text_of}
use Rattle.py_tree.specs.View.{view_cells}
use Rattle.thin_form.proofs.thin_file.thin.Goals as goal

pub returns-clause-cells : goal.returns-clause-cells
returns-clause-cells c =
    let es = as_elements c.in_ok-elements.elements in
    let bytes = ap (λ (a : At). a.bytes) c.new-reader.ensures in
    let are : AreElements c.args.bytes.now es = c.in_ok-elements.ensures in
    let here : AreElements c.new-reader.result.bytes es = rw bytes are in
    let line = ap (λ (a : At). a.line) c.new-reader.ensures in
    let room = ap (λ (a : At). a.room) c.new-reader.ensures in
    let size : length c.new-reader.result.bytes ≤ 1048576 = rw bytes (omega arith) in
    let none = empty c.expect-4.new.self.bytes (eqb-true _ _ (sym c.if-not-is_at_end.ensures)) in
    rw bytes at (form es c.new-reader.result c.expect.new.self c.expect-2.new.self c.read_cells.new.reader c.expect-3.new.self c.expect-4.new.self (view_cells c.in_ok-cells.cells.items) here line room size c.in_ok-expect.ensures.found c.in_ok-expect-2.ensures.found c.in_ok-cells.ensures.found c.in_ok-expect-3.ensures.found c.in_ok-expect-4.ensures.found none)

pub returns-clause-only : goal.returns-clause-only
returns-clause-only c nb h =
    let es = as_elements c.in_ok-elements.elements in
    let bytes = ap (λ (a : At). a.bytes) c.new-reader.ensures in
    let are : AreElements c.args.bytes.now es = c.in_ok-elements.ensures in
    let here : AreElements c.new-reader.result.bytes es = rw bytes are in
    let line = ap (λ (a : At). a.line) c.new-reader.ensures in
    let room = ap (λ (a : At). a.room) c.new-reader.ensures in
    let w = at_cells es c.new-reader.result c.expect.new.self c.expect-2.new.self nb here line room c.in_ok-expect.ensures.found c.in_ok-expect-2.ensures.found (rw bytes h) in
    (c.in_ok-cells.ensures.only nb (text_of footer) w.fits w.room w.bytes no_line no_cell).0

pub returns-in_err-expect-clause-refused : goal.returns-in_err-expect-clause-refused
returns-in_err-expect-clause-refused c =
    let p = err_from_is_err_and c.from_residual-in_err-expect.result c.from_residual-in_err-expect.ensures.1 in
    let es = as_elements c.in_ok-elements.elements in
    let bytes = ap (λ (a : At). a.bytes) c.new-reader.ensures in
    let are : AreElements c.args.bytes.now es = c.in_ok-elements.ensures in
    let here : AreElements c.new-reader.result.bytes es = rw bytes are in
    let size : length c.args.bytes.now ≤ 1048576 = omega arith in
    let stop = stops_expect es c.new-reader.result First import_line c.in_err-expect.field-0.0 c.in_err-expect.ensures.line (λ same. cc) c.in_err-expect.ensures.refused (first_only es) in
    rw (p.1, p.2) (cause es c.in_err-expect.field-0.0 c.new-reader.result c.args.bytes.now are c.new-reader.ensures size (λ nb h. absurd (c.in_err-expect.ensures.refused _ (before_first c.new-reader.result.bytes nb (rw bytes h)))) stop)

pub returns-in_err-expect-2-clause-refused : goal.returns-in_err-expect-2-clause-refused
returns-in_err-expect-2-clause-refused c =
    let p = err_from_is_err_and c.from_residual-in_err-expect-2.result c.from_residual-in_err-expect-2.ensures.1 in
    let es = as_elements c.in_ok-elements.elements in
    let bytes = ap (λ (a : At). a.bytes) c.new-reader.ensures in
    let are : AreElements c.args.bytes.now es = c.in_ok-elements.ensures in
    let here : AreElements c.new-reader.result.bytes es = rw bytes are in
    let size : length c.args.bytes.now ≤ 1048576 = omega arith in
    let stop = stops_second es c.new-reader.result c.expect.new.self c.in_err-expect-2.field-0.0 c.in_ok-expect.ensures.found (stops_expect es c.expect.new.self Second app_line c.in_err-expect-2.field-0.0 c.in_err-expect-2.ensures.line (λ same. cc) c.in_err-expect-2.ensures.refused (second_only es)) in
    rw (p.1, p.2) (cause es c.in_err-expect-2.field-0.0 c.new-reader.result c.args.bytes.now are c.new-reader.ensures size (λ nb h. absurd (c.in_err-expect-2.ensures.refused _ (before_second c.new-reader.result c.expect.new.self nb c.in_ok-expect.ensures.found (rw bytes h)))) stop)

pub returns-in_err-cells-clause-refused : goal.returns-in_err-cells-clause-refused
returns-in_err-cells-clause-refused c =
    let p = err_from_is_err_and c.from_residual-in_err-cells.result c.from_residual-in_err-cells.ensures.1 in
    let es = as_elements c.in_ok-elements.elements in
    let bytes = ap (λ (a : At). a.bytes) c.new-reader.ensures in
    let are : AreElements c.args.bytes.now es = c.in_ok-elements.ensures in
    let here : AreElements c.new-reader.result.bytes es = rw bytes are in
    let line = ap (λ (a : At). a.line) c.new-reader.ensures in
    let room = ap (λ (a : At). a.room) c.new-reader.ensures in
    let size : length c.args.bytes.now ≤ 1048576 = omega arith in
    let stop = stops_between es c.new-reader.result c.expect.new.self c.expect-2.new.self c.in_err-cells.field-0.0 c.in_ok-expect.ensures.found c.in_ok-expect-2.ensures.found c.in_err-cells.ensures.stuck in
    rw (p.1, p.2) (cause es c.in_err-cells.field-0.0 c.new-reader.result c.args.bytes.now are c.new-reader.ensures size (λ nb h.
    let w = at_cells es c.new-reader.result c.expect.new.self c.expect-2.new.self nb here line room c.in_ok-expect.ensures.found c.in_ok-expect-2.ensures.found (rw bytes h) in
    c.in_err-cells.ensures.only nb (text_of footer) w.fits w.room w.bytes no_line no_cell) stop)

pub returns-in_err-expect-3-clause-refused : goal.returns-in_err-expect-3-clause-refused
returns-in_err-expect-3-clause-refused c =
    let p = err_from_is_err_and c.from_residual-in_err-expect-3.result c.from_residual-in_err-expect-3.ensures.1 in
    let es = as_elements c.in_ok-elements.elements in
    let bytes = ap (λ (a : At). a.bytes) c.new-reader.ensures in
    let are : AreElements c.args.bytes.now es = c.in_ok-elements.ensures in
    let here : AreElements c.new-reader.result.bytes es = rw bytes are in
    let line = ap (λ (a : At). a.line) c.new-reader.ensures in
    let room = ap (λ (a : At). a.room) c.new-reader.ensures in
    let size : length c.args.bytes.now ≤ 1048576 = omega arith in
    let led = c.in_ok-cells.ensures.led in
    let stop = stops_between es c.new-reader.result c.expect.new.self c.expect-2.new.self c.in_err-expect-3.field-0.0 c.in_ok-expect.ensures.found c.in_ok-expect-2.ensures.found (stops_cells es c.expect-2.new.self c.read_cells.new.reader (view_cells c.in_ok-cells.cells.items) c.in_err-expect-3.field-0.0 c.in_ok-cells.ensures.found (led.0, led.1, led.2) (λ at. stops_main es c.read_cells.new.reader at c.in_err-expect-3.field-0.0 c.in_err-expect-3.ensures.line led.3 c.in_err-expect-3.ensures.refused)) in
    rw (p.1, p.2) (cause es c.in_err-expect-3.field-0.0 c.new-reader.result c.args.bytes.now are c.new-reader.ensures size (λ nb h.
    let w = at_cells es c.new-reader.result c.expect.new.self c.expect-2.new.self nb here line room c.in_ok-expect.ensures.found c.in_ok-expect-2.ensures.found (rw bytes h) in
    let o = c.in_ok-cells.ensures.only nb (text_of footer) w.fits w.room w.bytes no_line no_cell in
    absurd (c.in_err-expect-3.ensures.refused (text_of (last_line ∷ [])) o.1)) stop)

pub returns-in_err-expect-4-clause-refused : goal.returns-in_err-expect-4-clause-refused
returns-in_err-expect-4-clause-refused c =
    let p = err_from_is_err_and c.from_residual-in_err-expect-4.result c.from_residual-in_err-expect-4.ensures.1 in
    let es = as_elements c.in_ok-elements.elements in
    let bytes = ap (λ (a : At). a.bytes) c.new-reader.ensures in
    let are : AreElements c.args.bytes.now es = c.in_ok-elements.ensures in
    let here : AreElements c.new-reader.result.bytes es = rw bytes are in
    let line = ap (λ (a : At). a.line) c.new-reader.ensures in
    let room = ap (λ (a : At). a.room) c.new-reader.ensures in
    let size : length c.args.bytes.now ≤ 1048576 = omega arith in
    let led = c.in_ok-cells.ensures.led in
    let last = stops_expect es c.expect-3.new.self Last last_line c.in_err-expect-4.field-0.0 c.in_err-expect-4.ensures.line (λ same. cc) c.in_err-expect-4.ensures.refused (last_only es) in
    let stop = stops_between es c.new-reader.result c.expect.new.self c.expect-2.new.self c.in_err-expect-4.field-0.0 c.in_ok-expect.ensures.found c.in_ok-expect-2.ensures.found (stops_cells es c.expect-2.new.self c.read_cells.new.reader (view_cells c.in_ok-cells.cells.items) c.in_err-expect-4.field-0.0 c.in_ok-cells.ensures.found (led.0, led.1, led.2) (λ at. stops_last es c.read_cells.new.reader c.expect-3.new.self at c.in_err-expect-4.field-0.0 c.in_ok-expect-3.ensures.found last)) in
    rw (p.1, p.2) (cause es c.in_err-expect-4.field-0.0 c.new-reader.result c.args.bytes.now are c.new-reader.ensures size (λ nb h.
    let w = at_cells es c.new-reader.result c.expect.new.self c.expect-2.new.self nb here line room c.in_ok-expect.ensures.found c.in_ok-expect-2.ensures.found (rw bytes h) in
    let o = c.in_ok-cells.ensures.only nb (text_of footer) w.fits w.room w.bytes no_line no_cell in
    absurd (c.in_err-expect-4.ensures.refused [] (before_last c.read_cells.new.reader c.expect-3.new.self c.in_ok-expect-3.ensures.found o.1))) stop)

pub returns-then-not-is_at_end-clause-refused : goal.returns-then-not-is_at_end-clause-refused
returns-then-not-is_at_end-clause-refused c =
    let es = as_elements c.in_ok-elements.elements in
    let bytes = ap (λ (a : At). a.bytes) c.new-reader.ensures in
    let are : AreElements c.args.bytes.now es = c.in_ok-elements.ensures in
    let here : AreElements c.new-reader.result.bytes es = rw bytes are in
    let line = ap (λ (a : At). a.line) c.new-reader.ensures in
    let room = ap (λ (a : At). a.room) c.new-reader.ensures in
    let size : length c.args.bytes.now ≤ 1048576 = omega arith in
    let led = c.in_ok-cells.ensures.led in
    let past = stops_past es c.expect-3.new.self c.expect-4.new.self c.fault.result c.in_ok-expect-4.ensures.found c.fault.ensures in
    let stop = stops_between es c.new-reader.result c.expect.new.self c.expect-2.new.self c.fault.result c.in_ok-expect.ensures.found c.in_ok-expect-2.ensures.found (stops_cells es c.expect-2.new.self c.read_cells.new.reader (view_cells c.in_ok-cells.cells.items) c.fault.result c.in_ok-cells.ensures.found (led.0, led.1, led.2) (λ at. stops_last es c.read_cells.new.reader c.expect-3.new.self at c.fault.result c.in_ok-expect-3.ensures.found past)) in
    cause es c.fault.result c.new-reader.result c.args.bytes.now are c.new-reader.ensures size (λ nb h.
    let w = at_cells es c.new-reader.result c.expect.new.self c.expect-2.new.self nb here line room c.in_ok-expect.ensures.found c.in_ok-expect-2.ensures.found (rw bytes h) in
    let o = c.in_ok-cells.ensures.only nb (text_of footer) w.fits w.room w.bytes no_line no_cell in
    let last = before_last c.read_cells.new.reader c.expect-3.new.self c.in_ok-expect-3.ensures.found o.1 in
    let none = at_end c.expect-3.new.self c.expect-4.new.self c.in_ok-expect-4.ensures.found last in
    absurd (eqb-false _ _ (sym c.if-not-is_at_end.ensures) (ap length none))) stop
