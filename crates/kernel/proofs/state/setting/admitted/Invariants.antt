-- The values of the items so far, and those that are still to come.
use Rattle.std.proofs.Common.{◌≡◌, ◌++◌, map}
use Rattle.visit_meaning.specs.Answer.{first_unfit}
use Rattle.kernel.specs.Sets.{set_by, set_to}
use Rattle.kernel.proofs.state.setting.admitted.Given as goal

abbrev pub invariant-loop-item : goal.invariant-loop-item
invariant-loop-item l = record {
  so_far : map (set_by l.env) l.fn.items ≡ map set_to l.sets.items ++ map (set_by l.env) l.item-iterator.rest.items;
  unfit : first_unfit l.env l.fn.items ≡ first_unfit l.env l.item-iterator.rest.items;
}
