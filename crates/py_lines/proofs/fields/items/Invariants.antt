-- The text so far is items that may stand one after the other, and the rest is text.
use Rattle.std.proofs.Common.{length}
use denote.Shadow.{shadow}
use denote.Text.{Utf8}
use Rattle.py_lines.specs.FieldCuts.{FieldReached}
use Rattle.py_lines.specs.FieldSteps.{inside}
use Rattle.py_lines.proofs.fields.items.Given as goal

abbrev pub invariant-loop-found : goal.invariant-loop-found
invariant-loop-found l = record { reached : FieldReached l.text (inside l.found) l.rest; text : shadow (Utf8 l.rest) }

abbrev pub decreases-loop-found : goal.decreases-loop-found
decreases-loop-found l = length l.rest
