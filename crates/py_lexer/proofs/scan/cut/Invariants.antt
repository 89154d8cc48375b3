-- The scan has come to the rest by pieces that may stand one after the other.
use Rattle.std.proofs.Common.{length}
use denote.Shadow.{shadow}
use denote.Text.{Utf8}
use Rattle.py_lexer.specs.ScanView.{state}
use Rattle.py_lexer.proofs.Scanning.{Reached}
use Rattle.py_lexer.proofs.scan.cut.Given as goal

abbrev pub invariant-loop-scan : goal.invariant-loop-scan
invariant-loop-scan g l = record { reached : Reached l.text (state l.scan) l.rest; text : shadow (Utf8 l.rest) }

abbrev pub decreases-loop-scan : goal.decreases-loop-scan
decreases-loop-scan g l = length l.rest
