-- What is kept stands.
use Rattle.kernel.proofs.KeptState.{stands_of}
use Rattle.kernel.proofs.kernel.Kernel.present.Goals as goal

pub returns-clause-stands : goal.returns-clause-stands
returns-clause-stands c = stands_of c.self.inside.spoiled c.self.inside.state c.args.self.now c.self.view_is c.self.invariant
