-- Both are lemmas about the present values that messages leave.
use Rattle.visit_meaning.proofs.Going.{Runs}
use Rattle.visit_meaning.proofs.InBeing.{in_being}
use Rattle.visit_meaning.proofs.PresentValues.{settled}
use Rattle.visit_meaning.proofs.laws.elements_in_being.Goals as goal

pub returns-clause-being : goal.returns-clause-being
returns-clause-being c = λ nb runnable once free budget ms ui led.
    let runs : Runs nb = record { runnable = runnable; once = once; free = free } in in_being nb budget ui runs (settled nb budget ms ui runs led).0

pub returns-clause-present : goal.returns-clause-present
returns-clause-present c = λ nb runnable once free budget ms ui led.
    let runs : Runs nb = record { runnable = runnable; once = once; free = free } in (settled nb budget ms ui runs led).1
