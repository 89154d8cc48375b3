-- The frames to come are counted, and what is kept stands.
use Rattle.std.proofs.Common.{◌≡◌, ◌∙◌, refl, sym, ap, length, arith}
use Rattle.kernel.specs.Visit.{Visit}
use Rattle.kernel.proofs.KeptState.{pending_of, stands_now}
use Rattle.kernel.proofs.kernel.Kernel.deliver.Goals as goal

pub returns-then-pending-gt0-clause-delivers : goal.returns-then-pending-gt0-clause-delivers
returns-then-pending-gt0-clause-delivers c =
    let sound = ap (λ (v : Visit). v.spoiled) (sym c.self.view_is) ∙ c.if-self.false in
    let counted : c.count-pending.result ≡ length c.args.self.now.pending =
    pending_of c.self.inside.spoiled c.self.inside.state c.args.self.now c.count-pending.result c.self.view_is c.self.invariant sound c.count-pending.ensures in
    (omega arith, counted, refl)

pub returns-clause-stands : goal.returns-clause-stands
returns-clause-stands c = stands_now c.take.new.self c.in_ok-delivered.ensures.kept
