-- What is kept stands.
use Rattle.kernel.proofs.KeptState.{stands_now}
use Rattle.kernel.proofs.kernel.Kernel.step.Goals as goal

pub returns-clause-stands : goal.returns-clause-stands
returns-clause-stands g c = stands_now c.next_frame.new.self c.in_ok-stepped.ensures.kept
