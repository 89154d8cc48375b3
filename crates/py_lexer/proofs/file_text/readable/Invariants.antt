-- What is copied, and what is read of the rest, is what is read of all; the rest is text.
use Rattle.std.proofs.Common.{length, ◌++◌, string_bytes, ◌≡◌}
use denote.Text.{Utf8}
use denote.Shadow.{shadow}
use Rattle.lexical_form.specs.Readable.{readable}
use Rattle.py_lexer.proofs.file_text.readable.Given as goal

abbrev pub invariant-loop-front : goal.invariant-loop-front
invariant-loop-front l = record { reads : string_bytes l.copy ++ readable l.rest ≡ readable l.bytes; text : shadow (Utf8 l.rest) }

abbrev pub decreases-loop-front : goal.decreases-loop-front
decreases-loop-front l = length l.rest
