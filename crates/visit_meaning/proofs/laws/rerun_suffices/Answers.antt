-- Cells that run one after the other lead to what is computed afresh.
use Rattle.std.specs.Prelude.{[]}
use Rattle.visit_meaning.proofs.AfterCells.{opened_afresh, rerun_afresh, rerun_answers}
use Rattle.visit_meaning.proofs.AtKept.{none_kept}
use Rattle.visit_meaning.proofs.Going.{Runs}
use Rattle.visit_meaning.proofs.laws.rerun_suffices.Goals as goal

pub returns-clause-opened : goal.returns-clause-opened
returns-clause-opened c = λ nb runnable once free budget newest.
    let runs : Runs nb = record { runnable = runnable; once = once; free = free } in opened_afresh nb budget [] runs newest none_kept

pub returns-clause-kept : goal.returns-clause-kept
returns-clause-kept c = λ nb runnable once free budget ui items kept afresh all.
    let runs : Runs nb = record { runnable = runnable; once = once; free = free } in rerun_afresh nb budget ui items kept runs afresh all

pub returns-clause-given : goal.returns-clause-given
returns-clause-given c = λ nb runnable once free budget ui items kept afresh all.
    let runs : Runs nb = record { runnable = runnable; once = once; free = free } in rerun_answers nb budget ui items kept runs afresh all
