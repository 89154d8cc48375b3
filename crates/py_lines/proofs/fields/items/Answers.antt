use Rattle.py_lines.specs.FieldSteps.{inside}
use Rattle.py_lines.proofs.FieldScan.{field_stepped, field_ended}
use Rattle.py_lines.proofs.fields.items.Goals as goal

pub loop-found-smaller : goal.loop-found-smaller
loop-found-smaller c =
    let r = field_stepped c.args.text.now (inside c.loop-found.found) c.loop-found.rest.now (inside c.step.new.self) c.in-Some.behind.now c.loop-found.invariant.reached (rw c.in-Some.is at c.in_ok-behind.ensures.steps) in r.shorter

pub loop-found-preserved : goal.loop-found-preserved
loop-found-preserved c =
    let r = field_stepped c.args.text.now (inside c.loop-found.found) c.loop-found.rest.now (inside c.step.new.self) c.in-Some.behind.now c.loop-found.invariant.reached (rw c.in-Some.is at c.in_ok-behind.ensures.steps) in
    record { reached = r.reached; text = rw c.in-Some.is at c.in_ok-behind.ensures.text }

pub returns : goal.returns
returns c = field_ended c.args.text.now (inside c.loop-found.found) c.loop-found.rest.now (inside c.step.new.self) c.loop-found.invariant.reached (rw c.in_default.is at c.in_ok-behind.ensures.steps)
