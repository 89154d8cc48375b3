-- No three quotes stand in what is passed.
use Rattle.std.proofs.Common.{◌≡◌, drop}
use Rattle.lexical_form.specs.Fields.{has_three}
use Rattle.py_lines.proofs.field_ends.has_three.Given as goal

abbrev pub invariant-loop-i : goal.invariant-loop-i
invariant-loop-i l = has_three l.mark (drop l.i l.bytes) ≡ has_three l.mark l.bytes
