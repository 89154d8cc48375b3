-- Each element is in being when it is set.
use Rattle.std.proofs.Common.{◌∙◌, refl, sym, ap, subst, take}
use Rattle.std.specs.Prelude.{IsSome, fold}
use Rattle.std.proofs.lemmas.List.Sums.{fold_more}
use Rattle.py_tree.specs.Names.{Name}
use Rattle.py_value.specs.Maps.{IsSortedMap}
use Rattle.py_value.specs.declared.types.Value.{Value}
use Rattle.visit_meaning.specs.Answer.{element_in}
use Rattle.visit_meaning.proofs.SetValues.{IsLike, same_element}
use Rattle.kernel.specs.Sets.{with_set}
use Rattle.kernel.proofs.Sets.{set_like, set_sorted, still_there}
use Rattle.kernel.proofs.state.setting.set_elements.Goals as goal

pub loop-set-init : goal.loop-set-init
loop-set-init c = record { so_far = refl; sorted = c.requires.sorted; like = λ x. same_element (element_in c.args.env.now x) }

pub set_element-requires-clause-there : goal.set_element-requires-clause-there
set_element-requires-clause-there c =
    let l = c.loop-set in
    let s = c.set-item.result in
    let there = c.requires.there l.set-index s c.loop-set-test.true in
    still_there (l.invariant.like s.0) (subst (λ (t : Name × Value). IsSome (element_in c.args.env.now t.0)) (sym c.set-item.is) there)

pub loop-set-preserved : goal.loop-set-preserved
loop-set-preserved c =
    let l = c.loop-set in
    let s = c.set-item.result in
    let all = c.args.sets.now in
    let now = c.in_ok-set_element.ensures in
    record {
      so_far = now ∙ ap (λ e. with_set e s) l.invariant.so_far
          ∙ ap (with_set (fold with_set c.args.env.now (take l.set-index all))) c.set-item.is
          ∙ sym (fold_more with_set c.args.env.now all l.set-index s c.loop-set-test.true);
      sorted = subst IsSortedMap (sym now) (set_sorted l.env s l.invariant.sorted);
      like = subst (IsLike c.args.env.now) (sym now) (set_like c.args.env.now l.env s l.invariant.like);
    }
