-- so many doors so far, all new, and room for the rest
use Rattle.std.proofs.Common.{◌≡◌, ◌≤◌, ◌+◌, false, vec_len}
use Rattle.std.specs.Prelude.{All}
use Rattle.std.specs.Vec.{vec_capacity}
use Rattle.link_io.proofs.tcp_porch.TcpPorchPorch.doors.Given as goal

abbrev pub invariant-loop : goal.invariant-loop
invariant-loop g l =
    (l.self.faults ≡ l.fn.self.faults) × (vec_len l.doors + 1 ≡ l.counter) × (l.n ≤ vec_capacity l.doors)
    × All (λ d. (d.faults ≡ 0) × (d.has_visitor ≡ false)) l.doors.items
