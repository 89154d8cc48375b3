-- Each worked notebook is computed.
use Rattle.std.proofs.Common.{◌≡◌, ℕ, zero, suc, ◌<◌, ◌≤◌, ◌==◌, true, false, ⊎_elim, List, [], ◌∷◌, ◌++◌, None, refl, subst, arith, lit≤}
use Rattle.std.proofs.lemmas.Bool.{both_ways, eqb-true, or_cases}
use Rattle.std.specs.Fmt.{digits}
use Rattle.graph_meaning.specs.Graph.{edge, is_in, IsPath, LiesOnCycle, name_again, NoneDoubled}
use Rattle.program_meaning.specs.Samples.{three_cells, doubled, cyclic}
use Rattle.run_meaning.specs.Spending.{pay, show}
use Rattle.graph_meaning.proofs.Orders.{full_is_free, from_cell}
use Rattle.program_meaning.proofs.laws.worked_notebooks.Goals as goal

pub returns-clause-three : goal.returns-clause-three
unfolding digits pay show
returns-clause-three c = refl

pub returns-clause-costs : goal.returns-clause-costs
unfolding pay show
returns-clause-costs c = refl

pub returns-clause-none : goal.returns-clause-none
unfolding digits
returns-clause-none c = refl

pub returns-clause-unbound : goal.returns-clause-unbound
unfolding digits pay show
returns-clause-unbound c = refl

pub returns-clause-cancelled : goal.returns-clause-cancelled
unfolding digits pay show
returns-clause-cancelled c = refl

none_doubled : NoneDoubled three_cells
none_doubled zero = refl
none_doubled (suc zero) = refl
none_doubled (suc (suc zero)) = refl
none_doubled (suc (suc (suc c))) = refl

pub returns-clause-accepted : goal.returns-clause-accepted
returns-clause-accepted c =
    record { form = record { thin = refl; text = refl; short = lit≤ tt }; once = none_doubled; free = full_is_free three_cells refl }

none_again : (c : ℕ) → c < 3 → name_again doubled c ≡ None
none_again zero h = refl
none_again (suc zero) h = refl
none_again (suc (suc zero)) h = refl
none_again (suc (suc (suc c))) h = absurd (omega arith)

pub returns-clause-doubled : goal.returns-clause-doubled
returns-clause-doubled c =
    (doubled, record { thin = refl; text = refl; short = lit≤ tt }, record { again = refl; soonest = none_again; earliest = refl })

pub returns-clause-doubled_line : goal.returns-clause-doubled_line
unfolding digits
returns-clause-doubled_line c = refl

pub returns-clause-cycle_line : goal.returns-clause-cycle_line
unfolding digits
returns-clause-cycle_line c = refl

-- no edge leads from the last cell on, so no path does
none_from_last : (c : ℕ) → edge cyclic 3 c ≡ false
none_from_last zero = refl
none_from_last (suc zero) = refl
none_from_last (suc (suc zero)) = refl
none_from_last (suc (suc (suc zero))) = refl
none_from_last (suc (suc (suc (suc c)))) = refl

none_on : (between : List ℕ) (c : ℕ) → IsPath cyclic (3 ∷ between ++ c ∷ []) → ⊥
none_on [] c path = both_ways _ (none_from_last c) path.0
none_on (d ∷ ds) c path = both_ways _ (none_from_last d) path.0

none_doubled_cyclic : NoneDoubled cyclic
none_doubled_cyclic zero = refl
none_doubled_cyclic (suc zero) = refl
none_doubled_cyclic (suc (suc zero)) = refl
none_doubled_cyclic (suc (suc (suc zero))) = refl
none_doubled_cyclic (suc (suc (suc (suc c)))) = refl

from_first : LiesOnCycle cyclic 0
from_first = (1 ∷ 2 ∷ [], (refl, (refl, (refl, tt))))

from_second : LiesOnCycle cyclic 1
from_second = (2 ∷ 0 ∷ [], (refl, (refl, (refl, tt))))

from_third : LiesOnCycle cyclic 2
from_third = (0 ∷ 1 ∷ [], (refl, (refl, (refl, tt))))

on_cycle : (c : ℕ) → is_in c (0 ∷ 1 ∷ 2 ∷ []) ≡ true → LiesOnCycle cyclic c
on_cycle c h = ⊎_elim
    (λ first. subst (LiesOnCycle cyclic) (eqb-true 0 c first) from_first)
    (λ later. ⊎_elim
    (λ second. subst (LiesOnCycle cyclic) (eqb-true 1 c second) from_second)
    (λ last. ⊎_elim
    (λ third. subst (LiesOnCycle cyclic) (eqb-true 2 c third) from_third)
    (λ no. absurd (both_ways false refl no))
    (or_cases (2 == c) false last))
    (or_cases (1 == c) _ later))
    (or_cases (0 == c) _ h)

-- no edge leads from a number past the last cell
none_from_past : (c d : ℕ) → 4 ≤ c → edge cyclic c d ≡ true → ⊥
none_from_past c d past h = let below : c < 4 = from_cell cyclic c d h in omega arith

none_on_past : (between : List ℕ) (c d : ℕ) → 4 ≤ c → IsPath cyclic (c ∷ between ++ d ∷ []) → ⊥
none_on_past [] c d past path = none_from_past c d past path.0
none_on_past (e ∷ es) c d past path = none_from_past c e past path.0

only_on : (c : ℕ) → LiesOnCycle cyclic c → is_in c (0 ∷ 1 ∷ 2 ∷ []) ≡ true
only_on zero cycle = refl
only_on (suc zero) cycle = refl
only_on (suc (suc zero)) cycle = refl
only_on (suc (suc (suc zero))) cycle = absurd (none_on cycle.0 3 cycle.1)
only_on (suc (suc (suc (suc c)))) cycle =
    absurd (none_on_past cycle.0 (suc (suc (suc (suc c)))) (suc (suc (suc (suc c)))) (omega arith) cycle.1)

pub returns-clause-cycle : goal.returns-clause-cycle
returns-clause-cycle c = (
  cyclic,
  record { thin = refl; text = refl; short = lit≤ tt },
  record { once = none_doubled_cyclic; all = record { each = on_cycle; every = only_on; rising = refl }; some = lit≤ tt },
)

pub returns-clause-range : goal.returns-clause-range
unfolding digits pay show
returns-clause-range c = refl

pub returns-clause-range_costs : goal.returns-clause-range_costs
unfolding pay show
returns-clause-range_costs c = refl

pub returns-clause-fits : goal.returns-clause-fits
unfolding pay show
returns-clause-fits c = refl

pub returns-clause-spent : goal.returns-clause-spent
unfolding pay show
returns-clause-spent c = refl
