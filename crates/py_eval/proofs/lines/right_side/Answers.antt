-- The arguments of a call that is spelled well.
use Rattle.py_eval.proofs.TreeViews.{is_call, arguments_meant}
use Rattle.py_eval.proofs.lines.right_side.Goals as goal

pub call_value-requires : goal.call_value-requires
call_value-requires c = arguments_meant _ _ _ _ (is_call _ _ _ _ _ _ c.in-Call.is c.get.ensures c.items-arguments.ensures) c.requires
