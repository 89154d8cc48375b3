-- no cell so far has a frame
use Rattle.std.proofs.Common.{◌≡◌}
use Rattle.std.specs.Prelude.{None, replicate}
use Rattle.kernel.proofs.state.KernelState.new.Given as goal

abbrev pub invariant-loop : goal.invariant-loop
invariant-loop l = l.newest.items ≡ replicate l.index None
