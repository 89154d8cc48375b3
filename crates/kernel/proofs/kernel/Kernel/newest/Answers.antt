-- What is kept stands.
use Rattle.kernel.proofs.KeptState.{stands_of}
use Rattle.kernel.proofs.kernel.Kernel.newest.Goals as goal

pub returns-in-Some-Some-clause-stands : goal.returns-in-Some-Some-clause-stands
returns-in-Some-Some-clause-stands c = stands_of c.self.inside.spoiled c.self.inside.state c.args.self.now c.self.view_is c.self.invariant

pub returns-in_default-clause-stands : goal.returns-in_default-clause-stands
returns-in_default-clause-stands c = stands_of c.self.inside.spoiled c.self.inside.state c.args.self.now c.self.view_is c.self.invariant
