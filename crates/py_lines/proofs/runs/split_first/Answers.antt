-- A text may be cut behind an ASCII byte.
use Rattle.py_lexer.proofs.Scanning.{first_boundary}
use Rattle.py_lines.proofs.runs.split_first.Goals as goal

pub split_at-requires : goal.split_at-requires
split_at-requires c = first_boundary c.args.text.now c.utf8.text c.requires
