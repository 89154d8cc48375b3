use Rattle.std.proofs.Common.{◌≡◌, ◌≤◌, take}
use Rattle.lexical_form.specs.Lines.{line_ends}
use Rattle.py_lexer.proofs.scan.line_ends.Given as goal

abbrev pub invariant-loop-byte : goal.invariant-loop-byte
invariant-loop-byte l = record {
  is : l.ends ≡ line_ends (take l.byte-index l.bytes);
  small : l.ends ≤ l.byte-index;
}
