-- What the lines so far say is known.
use Rattle.std.proofs.Common.{length}
use Rattle.thin_form.proofs.Scans.{Scanned}
use Rattle.thin_form.proofs.slider_names.SliderNames.of.Given as goal

abbrev pub invariant-loop-line : goal.invariant-loop-line
invariant-loop-line l = Scanned l.fn.bytes l.rest l.elements

abbrev pub decreases-loop-line : goal.decreases-loop-line
decreases-loop-line l = length l.rest
