-- The steps are counted in the blank ledger that is given.
use Rattle.value_checks.proofs.blocks.run_sample.Given as goal

abbrev pub ghosts-run : goal.ghosts-run
ghosts-run a = record { name = a.blank.name; parts = a.blank.parts }
