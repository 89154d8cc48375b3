-- The worked notebook with a slider is computed.
use Rattle.std.proofs.Common.{zero, suc, ap, refl, lit≤}
use Rattle.std.specs.Prelude.{sum}
use Rattle.std.specs.Fmt.{digits}
use Rattle.graph_meaning.specs.Graph.{NoneDoubled}
use Rattle.program_meaning.specs.Samples.{with_slider}
use Rattle.run_meaning.specs.Spending.{pay, show}
use Rattle.graph_meaning.proofs.Orders.{full_is_free}
use Rattle.py_value.proofs.Computes.{same_text, a_number, a_text}
use Rattle.program_meaning.proofs.laws.worked_slider.Goals as goal

none_doubled : NoneDoubled with_slider
none_doubled zero = refl
none_doubled (suc zero) = refl
none_doubled (suc (suc zero)) = refl
none_doubled (suc (suc (suc c))) = refl

pub returns-clause-accepted : goal.returns-clause-accepted
returns-clause-accepted c =
    record { form = record { thin = refl; text = refl; short = lit≤ tt }; once = none_doubled; free = full_is_free with_slider refl }

pub returns-clause-text : goal.returns-clause-text
unfolding digits pay show
returns-clause-text c = simp (same_text, a_number, a_text)

pub returns-clause-costs : goal.returns-clause-costs
unfolding pay show
returns-clause-costs c = simp (same_text, a_number, a_text)

pub returns-clause-work : goal.returns-clause-work
returns-clause-work c = ap sum (returns-clause-costs c)

pub returns-clause-present : goal.returns-clause-present
unfolding digits pay show
returns-clause-present c = simp (same_text, a_number, a_text)

pub returns-clause-own : goal.returns-clause-own
unfolding pay show
returns-clause-own c e h = rw h refl
