-- All cells are to run, from nothing.
use Rattle.kernel.specs.declared.pending.Cells.TheVariants as cells
use Rattle.kernel.proofs.TakenMessage.{opened_kept, opened_taken}
use Rattle.kernel.proofs.state.KernelState.start.Goals as goal

pub returns-clause-kept : goal.returns-clause-kept
returns-clause-kept c = opened_kept c.args.self.now (cells.Lent c.order.result) c.requires.kept c.requires.before c.order.ensures.order

pub returns-clause-taken : goal.returns-clause-taken
returns-clause-taken c = opened_taken c.args.self.now (cells.Lent c.order.result) c.requires.kept c.requires.before c.order.ensures.order
