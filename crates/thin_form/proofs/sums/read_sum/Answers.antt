-- Each turn reads one term more, and each return is what reading comes to there.
use Rattle.std.proofs.Common.{◌+◌, Bor, List, ℕ, sym, ap, ◌∙◌, arith}
use Rattle.std.specs.Prelude.{option_map}
use Rattle.thin_form.specs.SliderNames.{as_elements}
use Rattle.thin_form.specs.Sums.{read_more}
use Rattle.thin_form.specs.Words.{words, words_left}
use Rattle.form_meaning.specs.Thin.{terms}
use Rattle.py_tree.specs.View.{view}
use Rattle.thin_form.proofs.Cuts.{some_word}
use Rattle.thin_form.proofs.SumSteps.{one_term, no_more, one_longer, too_many}
use Rattle.thin_form.proofs.sums.read_sum.Goals as goal

pub loop-terms-init : goal.loop-terms-init
loop-terms-init c =
    let first = one_term (as_elements c.args.elements.now) _ _ _ _ c.next_word.ensures (rw c.in-Some.is at c.in_ok-tree.ensures) in
    record { count = first.0; same = first.1 }

pub returns-in_default-2 : goal.returns-in_default-2
returns-in_default-2 c =
    let none = rw c.in_default-2.is at c.in_ok-longer.ensures in
    let stop = no_more (as_elements c.args.elements.now) (view c.loop-terms.tree) (words c.in-Some-rest.text.now) (omega arith) (some_word c.in-Some-rest.text.now) none in
    sym ((rw c.in-Some-rest.is at c.loop-terms.invariant.same) ∙ stop)

pub loop-terms-preserved : goal.loop-terms-preserved
loop-terms-preserved c =
    let after = words_left (option_map (λ (t : Bor (List ℕ)). t.now) c.in-Some-2.after) in
    let some = rw c.in-Some-2.is at c.in_ok-longer.ensures in
    let step = one_longer (as_elements c.args.elements.now) (view c.loop-terms.tree) (view c.in-Some-2.longer) (words c.in-Some-rest.text.now) after (omega arith) some in
    let same = rw c.in-Some-rest.is at c.loop-terms.invariant.same in
    record { count = ap (λ n. n + 1) c.loop-terms.invariant.count ∙ sym step.0; same = same ∙ step.1 }

pub returns-in-Some-rest-2 : goal.returns-in-Some-rest-2
returns-in-Some-rest-2 c =
    let same = rw c.in-Some-rest-2.is at c.loop-terms.invariant.same in
    let full = too_many (as_elements c.args.elements.now) (view c.loop-terms.tree) _ (omega arith) (some_word c.in-Some-rest-2.field-0.now) in
    sym (same ∙ full)
