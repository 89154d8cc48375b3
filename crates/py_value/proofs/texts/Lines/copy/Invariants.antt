-- the texts so far are copied
use Rattle.std.proofs.Common.{◌≡◌, take}
use Rattle.py_value.proofs.texts.Lines.copy.Given as goal

abbrev pub invariant-loop-line : goal.invariant-loop-line
invariant-loop-line l = l.copied.items ≡ take l.line-index l.line-items
