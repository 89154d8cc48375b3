-- The text so far is items, which say what is held, and the rest is text.
use Rattle.std.proofs.Common.{length}
use denote.Text.{Utf8}
use denote.Shadow.{shadow}
use Rattle.py_lexer.specs.Views.{quotes}
use Rattle.py_lines.specs.PieceView.{built}
use Rattle.py_lines.proofs.ItemLaws.{PiecesReached}
use Rattle.py_lines.proofs.pieces.pieces.Given as goal

abbrev pub invariant-loop-behind : goal.invariant-loop-behind
invariant-loop-behind l = record { reached : PiecesReached (quotes l.q) l.text (built l.said) l.rest; text : shadow (Utf8 l.rest) }

abbrev pub decreases-loop-behind : goal.decreases-loop-behind
decreases-loop-behind l = length l.rest
