-- What is counted and what is left to count make up the whole.
use Rattle.std.proofs.Common.{length, ◌+◌, ◌-◌, ◌≤◌, ◌≡◌, drop}
use Rattle.py_lexer.specs.Clean.{even_len}
use Rattle.py_lexer.proofs.file_text.even_len.Given as goal

abbrev pub invariant-loop-len : goal.invariant-loop-len
invariant-loop-len l = record {
  in_range : l.len ≤ length l.bytes;
  same : l.len + even_len (drop l.len l.bytes) ≡ even_len l.bytes;
}

abbrev pub decreases-loop-len : goal.decreases-loop-len
decreases-loop-len l = length l.bytes - l.len
