-- the names so far
use Rattle.std.proofs.Common.{◌≡◌, map, take}
use Rattle.kernel.proofs.state.setting.names_of.Given as goal

abbrev pub invariant-loop-set : goal.invariant-loop-set
invariant-loop-set l = l.names.items ≡ map (λ s. s.0) (take l.set-index l.sets)
