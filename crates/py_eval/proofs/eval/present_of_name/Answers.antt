-- The name is charged and read, and then the element.
use Rattle.py_eval.proofs.Sequence.{exit, onward, paid}
use Rattle.py_eval.proofs.eval.present_of_name.Goals as goal

pub returns-in_err-bound_value-clause-meets : goal.returns-in_err-bound_value-clause-meets
returns-in_err-bound_value-clause-meets c =
    rw (paid _ 1 c.args.line _ _ c.in_ok-charge.ensures.meets)
    (exit _ _ _ _ _ _ _ c.from_residual-in_err-bound_value.ensures.1 (c.in_err-bound_value.ensures _))

pub returns-clause-meets : goal.returns-clause-meets
returns-clause-meets c =
    rw (paid _ 1 c.args.line _ _ c.in_ok-charge.ensures.meets, onward _ _ _ _ _ (c.in_ok-bound_value.ensures _))
    (c.present_of.ensures _)
