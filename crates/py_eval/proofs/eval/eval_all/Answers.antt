-- An argument more.
use Rattle.std.proofs.Common.{refl, arith}
use Rattle.py_eval.proofs.Sequence.{exit, onward}
use Rattle.py_eval.proofs.TreeViews.{place_tree, rest_meant}
use Rattle.py_eval.proofs.eval.eval_all.Goals as goal

pub returns-in_err-eval-clause-meets : goal.returns-in_err-eval-clause-meets
returns-in_err-eval-clause-meets c =
    rw (← c.loop-argument.invariant.meets, place_tree c.args.arguments.now c.loop-argument.argument-index c.argument-item.result c.loop-argument-test.true c.argument-item.is c.in-Positional.tree c.get.result.now c.in-Positional.is c.get.ensures)
    (exit _ _ _ _ _ _ _ c.from_residual.ensures.1 c.in_err-eval.ensures.meets)

pub loop-argument-preserved : goal.loop-argument-preserved
loop-argument-preserved c =
    let at = place_tree c.args.arguments.now c.loop-argument.argument-index c.argument-item.result c.loop-argument-test.true c.argument-item.is c.in-Positional.tree c.get.result.now c.in-Positional.is c.get.ensures in
    record {
      meets = rw (← c.loop-argument.invariant.meets, at, onward _ _ c.in_ok-eval.field-0 _ _ c.in_ok-eval.ensures.meets, c.in_ok-push.ensures.items) refl;
      meant = rest_meant _ _ _ at c.loop-argument.invariant.meant;
      used = omega (arith, c.in_ok-eval.ensures.used, c.loop-argument.invariant.used);
    }
