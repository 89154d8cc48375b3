use Rattle.syntax_reading.proofs.LineLaws.{some_line}
use Rattle.syntax_reading.proofs.laws.spelled_lines_are_lines.Goals as goal

pub returns : goal.returns
returns c = some_line
