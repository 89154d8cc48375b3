-- Each line is taken in, until none is left.
use Rattle.std.proofs.Common.{sym, subst}
use Rattle.thin_form.proofs.Scans.{Scanned, nothing_scanned, line_scanned, all_scanned}
use Rattle.thin_form.proofs.slider_names.SliderNames.of.Goals as goal

pub loop-line-init : goal.loop-line-init
loop-line-init c = subst (Scanned c.args.bytes.now c.args.bytes.now) (sym c.new-elements.ensures) (nothing_scanned c.args.bytes.now)

pub loop-line-preserved : goal.loop-line-preserved
loop-line-preserved c =
    let cut = c.in-Some.ensures in
    line_scanned c.args.bytes.now c.in-Some.line.now c.in-Some.after.now c.loop-line.elements c.learn.new.self cut.0 c.in_ok-learn.ensures
    (subst (λ bytes. Scanned c.args.bytes.now bytes c.loop-line.elements) cut.1 c.loop-line.invariant)

pub returns : goal.returns
returns c = all_scanned c.args.bytes.now c.loop-line.rest.now c.loop-line.elements c.in_default.ensures c.loop-line.invariant
