-- A text may be cut behind digits.
use Rattle.std.proofs.Common.{subst}
use Rattle.py_lines.specs.Characters.{IsEscape}
use Rattle.py_lines.proofs.Boundaries.{escape_boundary}
use Rattle.py_lines.proofs.said.Said.long_escape.Goals as goal

pub split_at-requires : goal.split_at-requires
split_at-requires c = escape_boundary c.args.text.now c.in-Some.len c.utf8.text (subst (λ xs. IsEscape xs c.in-Some.len) c.as_bytes.ensures.value c.in-Some.ensures.1)
