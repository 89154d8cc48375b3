-- the values so far are kept
use Rattle.std.proofs.Common.{◌≡◌}
use Rattle.std.specs.Prelude.{fold}
use Rattle.kernel.specs.Sets.{with_kept}
use Rattle.kernel.proofs.state.setting.keep_values.Given as goal

abbrev pub invariant-loop-name : goal.invariant-loop-name
invariant-loop-name l = fold with_kept l.present l.name-iterator.rest.items ≡ fold with_kept l.fn.present l.fn.sets.items
