-- Anything odd begins a character.
use Rattle.std.proofs.Common.{◌∙◌, ap}
use Rattle.py_lexer.specs.Clean.{even_len}
use Rattle.py_lexer.proofs.EvenFronts.{even_boundary}
use Rattle.py_lexer.proofs.file_text.split_even.Goals as goal

pub split_at-requires : goal.split_at-requires
split_at-requires c = even_boundary c.args.bytes.now c.even_len.result (c.even_len.ensures.is ∙ ap even_len c.as_bytes.ensures.value)
