use Rattle.syntax_reading.proofs.LineLaws as laws
use Rattle.syntax_reading.proofs.laws.spelled_once.Goals as goal

pub returns : goal.returns
returns c = laws.spelled_once
