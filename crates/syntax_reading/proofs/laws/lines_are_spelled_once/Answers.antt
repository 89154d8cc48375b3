use Rattle.syntax_reading.proofs.LineLaws.{one_of_form, one_line}
use Rattle.syntax_reading.proofs.laws.lines_are_spelled_once.Goals as goal

pub returns-clause-form : goal.returns-clause-form
returns-clause-form c = one_of_form

pub returns-clause-line : goal.returns-clause-line
returns-clause-line c = one_line
