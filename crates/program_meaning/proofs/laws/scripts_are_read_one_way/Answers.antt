-- Lines of a script hold no line end, so bytes have one list of lines.
use Rattle.program_meaning.proofs.ScriptTexts.{one, one_line, scripts_go_on}
use Rattle.program_meaning.proofs.laws.scripts_are_read_one_way.Goals as goal

pub returns : goal.returns
returns c = record { script = scripts_go_on; one = one; line = one_line }
