-- The steps are counted in the blank ledger that is given.
use Rattle.visit_checks.proofs.visits.lines_of.Given as goal

abbrev pub ghosts-calls_lines : goal.ghosts-calls_lines
ghosts-calls_lines a = record { name = a.blank.name; parts = a.blank.parts }
