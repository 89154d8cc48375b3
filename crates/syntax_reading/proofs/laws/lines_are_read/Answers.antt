use Rattle.syntax_reading.proofs.LineLaws.{line_found, line_only}
use Rattle.syntax_reading.proofs.laws.lines_are_read.Goals as goal

pub returns-clause-found : goal.returns-clause-found
returns-clause-found c = line_found

pub returns-clause-only : goal.returns-clause-only
returns-clause-only c = line_only
