-- With no `\n` all bytes are the first line.
use Rattle.std.proofs.Common.{inr, refl}
use Rattle.script_run.proofs.ScriptLines.{unbroken}
use Rattle.script_run.proofs.script.first_line.Goals as goal

pub returns-in-None : goal.returns-in-None
returns-in-None c = record { unbroken = unbroken c.args.bytes.now c.in-None.ensures; text = inr (refl, refl, c.requires) }
