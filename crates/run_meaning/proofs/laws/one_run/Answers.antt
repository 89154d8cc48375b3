-- Each trace has one run.
use Rattle.run_meaning.specs.Meaning.{value_of, block_of}
use Rattle.run_meaning.proofs.OneRun as runs
use Rattle.run_meaning.proofs.laws.one_run.Goals as goal

pub returns-clause-expression : goal.returns-clause-expression
returns-clause-expression c = λ scene env line t. runs.one_run (value_of scene env line t)

pub returns-clause-block : goal.returns-clause-block
returns-clause-block c = λ scene env block. runs.one_run (block_of scene env block)
