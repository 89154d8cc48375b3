-- What is read so far, and what would be read behind it, are what would be read at first.
use Rattle.std.proofs.Common.{length, ◌-◌, ◌≡◌, ℕ, ◌≤◌, take, drop, List}
use Rattle.py_tree.specs.Names.{is_digit}
use Rattle.lexical_form.specs.Reading.{span}
use Rattle.py_lexer.proofs.SpanLoop.{with_front}
use Rattle.py_lexer.proofs.formats.digits.Given as goal

abbrev pub invariant-loop-len : goal.invariant-loop-len
invariant-loop-len l = record {
  in_range : l.len ≤ length l.bytes;
  same : ◌≡◌ {A = List ℕ × List ℕ} (with_front (take l.len l.bytes) (span is_digit (drop l.len l.bytes))) (span is_digit l.bytes);
}

abbrev pub decreases-loop-len : goal.decreases-loop-len
decreases-loop-len l = length l.bytes - l.len
