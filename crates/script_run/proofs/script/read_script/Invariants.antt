-- how far the lines are read, and how much of them is left
use Rattle.std.proofs.Common.{length, map}
use Rattle.script_run.proofs.ScriptLines.{IsReadTo}
use Rattle.script_run.proofs.script.read_script.Given as goal

abbrev pub invariant-loop-rest : goal.invariant-loop-rest
invariant-loop-rest l = IsReadTo l.bytes (map (λ t. t.now) l.sent.items) l.there l.count l.rest

abbrev pub decreases-loop-rest : goal.decreases-loop-rest
decreases-loop-rest l = length l.rest
