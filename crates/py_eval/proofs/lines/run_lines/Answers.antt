-- A line more.
use Rattle.std.proofs.Common.{◌∙◌, refl, arith}
use Rattle.py_eval.proofs.Blocks.{place, first_meant, rest_meant, first_binds, rest_binds}
use Rattle.py_eval.proofs.Kept.{keeps}
use Rattle.py_eval.proofs.Sequence.{exit, onward, paid}
use Rattle.py_eval.proofs.lines.run_lines.Goals as goal

pub run_line-requires : goal.run_line-requires
run_line-requires c =
    first_meant _ _ _ _ _ (place c.args.stmts.now c.loop-stmt.stmt-index c.stmt-item.result c.get.result.now c.loop-stmt-test.true c.stmt-item.is c.get.ensures) c.loop-stmt.invariant.meant

pub returns-in_err-last-clause-meets : goal.returns-in_err-last-clause-meets
returns-in_err-last-clause-meets c =
    rw (← c.loop-stmt.invariant.meets, place c.args.stmts.now c.loop-stmt.stmt-index c.stmt-item.result c.get.result.now c.loop-stmt-test.true c.stmt-item.is c.get.ensures, paid _ _ _ _ _ c.in_ok-charge.ensures.meets)
    (exit _ _ _ _ _ _ _ c.from_residual-in_err-last.ensures.1 c.in_err-last.ensures.meets)

pub returns-in_err-last-clause-kept : goal.returns-in_err-last-clause-kept
returns-in_err-last-clause-kept c =
    let at = place c.args.stmts.now c.loop-stmt.stmt-index c.stmt-item.result c.get.result.now c.loop-stmt-test.true c.stmt-item.is c.get.ensures in
    keeps _ _ _ _ (λ x h. c.loop-stmt.invariant.binds x (first_binds _ _ _ _ _ at x h)) c.run_line.ensures.kept ∙ c.loop-stmt.invariant.kept

pub loop-stmt-preserved : goal.loop-stmt-preserved
loop-stmt-preserved c =
    let at = place c.args.stmts.now c.loop-stmt.stmt-index c.stmt-item.result c.get.result.now c.loop-stmt-test.true c.stmt-item.is c.get.ensures in
    record {
      meets = rw (← c.loop-stmt.invariant.meets, at, paid _ _ _ _ _ c.in_ok-charge.ensures.meets, onward _ _ _ _ _ c.in_ok-last.ensures.meets) refl;
      meant = rest_meant _ _ _ _ _ at c.loop-stmt.invariant.meant;
      binds = λ x h. c.loop-stmt.invariant.binds x (rest_binds _ _ _ _ _ at x h);
      kept = keeps _ _ _ _ (λ x h. c.loop-stmt.invariant.binds x (first_binds _ _ _ _ _ at x h)) c.run_line.ensures.kept ∙ c.loop-stmt.invariant.kept;
      used = omega (arith, c.in_ok-charge.ensures.used, c.in_ok-last.ensures.used);
    }
