-- The elements so far are set, and are like they were.
use Rattle.std.proofs.Common.{◌≡◌, take}
use Rattle.std.specs.Prelude.{fold}
use Rattle.py_value.specs.Maps.{IsSortedMap}
use Rattle.visit_meaning.proofs.SetValues.{IsLike}
use Rattle.kernel.specs.Sets.{with_set}
use Rattle.kernel.proofs.state.setting.set_elements.Given as goal

abbrev pub invariant-loop-set : goal.invariant-loop-set
invariant-loop-set l = record {
  so_far : l.env ≡ fold with_set l.fn.env (take l.set-index l.sets);
  sorted : IsSortedMap l.env;
  like : IsLike l.fn.env l.env;
}
