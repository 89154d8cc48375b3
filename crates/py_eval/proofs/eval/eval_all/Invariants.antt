-- What is left of the arguments goes on as all of them would.
use Rattle.std.proofs.Common.{◌≡◌, ◌≤◌, [], drop, IsTrue}
use Rattle.run_meaning.specs.Meaning.{values_after}
use Rattle.run_meaning.specs.Spending.{spend}
use Rattle.py_eval.specs.Shows.{scene_of}
use Rattle.py_tree.specs.Meant.{arguments_have_meaning}
use Rattle.py_tree.specs.View.{view_arguments}
use Rattle.py_eval.proofs.eval.eval_all.Given as goal

abbrev pub invariant-loop-argument : goal.invariant-loop-argument
invariant-loop-argument l =
    let rest = view_arguments (drop l.argument-index l.arguments) in
    record {
      meets : spend (values_after l.values.items (scene_of l.scene) l.env l.line rest) l.left [] ≡ spend (values_after [] (scene_of l.scene) l.env l.line (view_arguments l.arguments)) l.fn.left [];
      meant : IsTrue (arguments_have_meaning rest);
      used : l.left ≤ l.fn.left;
    }
