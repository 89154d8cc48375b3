-- The steps are counted in the blank ledger that is given.
use Rattle.nbserve.proofs.tests.answered.Given as goal

abbrev pub ghosts-run : goal.ghosts-run
ghosts-run g a = record { name = a.blank.name; parts = a.blank.parts }
