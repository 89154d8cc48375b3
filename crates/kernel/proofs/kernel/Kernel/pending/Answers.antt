-- The frames to come are counted.
use Rattle.kernel.proofs.KeptState.{pending_of}
use Rattle.kernel.proofs.kernel.Kernel.pending.Goals as goal

pub returns-clause-count : goal.returns-clause-count
returns-clause-count c = λ sound. pending_of c.self.inside.spoiled c.self.inside.state c.args.self.now c.count.result c.self.view_is c.self.invariant sound c.count.ensures
