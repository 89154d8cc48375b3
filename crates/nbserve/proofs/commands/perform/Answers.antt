-- The last text stands behind the frames.
use Rattle.std.proofs.Common.{refl}
use Rattle.py_tree.specs.View.{view_cells}
use Rattle.nbserve.proofs.Execution.{done_after}
use Rattle.script_run.specs.Cut as cut
use Rattle.nbserve.specs.Execution as done
use Rattle.nbserve.proofs.commands.perform.Goals as goal

pub returns-in-Ok-clause-done : goal.returns-in-Ok-clause-done
returns-in-Ok-clause-done g c = λ stays are.
    done_after (view_cells c.args.notebook.now) stays c.args.label.now c.args.last.now c.end_with.result _ _ _ _ _ _ _ _
    (c.in-Ok.ensures.written stays are) (c.in-Ok.ensures.steps stays are) c.in-Ok.ensures.later c.end_with.ensures.ended

pub returns-in-Err-WriteFault-clause-done : goal.returns-in-Err-WriteFault-clause-done
returns-in-Err-WriteFault-clause-done g c = λ stays are.
    done.cut refl (c.in-Err-WriteFault.ensures.failed c.in-Err-WriteFault.field-0-is) (cut.in_frame (c.in-Err-WriteFault.ensures.cut c.in-Err-WriteFault.field-0-is stays are))

pub returns-in-Err-Memory-clause-done : goal.returns-in-Err-Memory-clause-done
returns-in-Err-Memory-clause-done g c = λ stays are. done.prefix refl (c.in-Err-Memory.ensures.prefix c.in-Err-Memory.field-0-is stays are)
