-- A step takes the scan one piece further, or ends it where no piece may stand.
use Rattle.std.proofs.Common.{arith}
use Rattle.py_lexer.specs.ScanView.{state}
use Rattle.py_lexer.proofs.Scanning.{reached_small, says_reached, says_ended}
use Rattle.py_lexer.proofs.scan.cut.Goals as goal

pub step-requires-clause-line : goal.step-requires-clause-line
step-requires-clause-line g c = let s = reached_small c.args.text.now (state c.loop-scan.scan) c.loop-scan.rest.now c.loop-scan.invariant.reached in omega (arith, s.line, c.requires.small)

pub step-requires-clause-indent : goal.step-requires-clause-indent
step-requires-clause-indent g c = let s = reached_small c.args.text.now (state c.loop-scan.scan) c.loop-scan.rest.now c.loop-scan.invariant.reached in omega (arith, s.indent, c.requires.small)

pub loop-scan-smaller : goal.loop-scan-smaller
loop-scan-smaller g c =
    let r = says_reached c.args.text.now (state c.loop-scan.scan) c.loop-scan.rest.now (state c.step.new.self) c.in-Some.behind.now c.loop-scan.invariant.reached (rw c.in-Some.is at c.in_ok-behind.ensures.steps) in r.shorter

pub loop-scan-preserved : goal.loop-scan-preserved
loop-scan-preserved g c =
    let r = says_reached c.args.text.now (state c.loop-scan.scan) c.loop-scan.rest.now (state c.step.new.self) c.in-Some.behind.now c.loop-scan.invariant.reached (rw c.in-Some.is at c.in_ok-behind.ensures.steps) in
    record { reached = r.reached; text = rw c.in-Some.is at c.in_ok-behind.ensures.text }

pub returns : goal.returns
returns g c = says_ended c.args.text.now (state c.loop-scan.scan) c.loop-scan.rest.now (state c.step.new.self) c.loop-scan.invariant.reached (rw c.in_default.is at c.in_ok-behind.ensures.steps)
