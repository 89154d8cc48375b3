-- The names that a block binds are those of its lines.
use Rattle.py_eval.proofs.run.run_block.Goals as goal

pub returns-clause-kept : goal.returns-clause-kept
returns-clause-kept g c = rw c.items.ensures.view c.run_lines-ended.ensures.kept
