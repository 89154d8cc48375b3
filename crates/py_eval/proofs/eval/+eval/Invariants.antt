-- Each node is charged before its parts are evaluated.
use Rattle.py_eval.proofs.eval.+eval.Given as goal

abbrev pub decreases-eval : goal.decreases-eval
decreases-eval l = l.left.now
