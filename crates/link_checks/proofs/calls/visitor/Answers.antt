-- Where a visitor is given, one is out.
use Rattle.std.proofs.Common.{refl}
use Rattle.link_checks.proofs.calls.visitor.Goals as goal

pub returns-in-Visitor : goal.returns-in-Visitor
returns-in-Visitor g c = (c.in-Visitor.ensures.visitor c.in-Visitor.link refl).0
