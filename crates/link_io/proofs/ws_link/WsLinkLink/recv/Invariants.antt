-- no failure is counted yet
use Rattle.std.proofs.Common.{◌≡◌}
use Rattle.link_io.proofs.ws_link.WsLinkLink.recv.Given as goal

abbrev pub invariant-loop : goal.invariant-loop
invariant-loop l = l.self.faults ≡ l.fn.self.faults
