-- What is read so far, and what would be read behind it, are what would be read at first.
use Rattle.std.proofs.Common.{length, ◌-◌, ◌≡◌, ℕ, ◌≤◌, take, drop, List}
use Rattle.lexical_form.specs.Reading.{span}
use Rattle.py_lexer.specs.Views.{quotes}
use Rattle.py_lexer.proofs.SpanLoop.{with_front}
use Rattle.py_lines.specs.Characters.{is_run_byte}
use Rattle.py_lines.proofs.runs.run_len.Given as goal

abbrev pub invariant-loop-len : goal.invariant-loop-len
invariant-loop-len l = record {
  in_range : l.len ≤ length l.bytes;
  same : ◌≡◌ {A = List ℕ × List ℕ} (with_front (take l.len l.bytes) (span (is_run_byte (quotes l.q)) (drop l.len l.bytes))) (span (is_run_byte (quotes l.q)) l.bytes);
}

abbrev pub decreases-loop-len : goal.decreases-loop-len
decreases-loop-len l = length l.bytes - l.len
