-- The pieces of an f-text so far, as the code holds them.
use Rattle.std.specs.Prelude.{ℕ, List, map, string_bytes}
use Rattle.lexical_form.specs.Tokens as pure
use Rattle.py_tokens.specs.TokenView.{view_piece}
use Rattle.py_lines.specs.declared.said.Said.{Said}

-- the pieces that are done, and the characters since the last field
abbrev pub built : Said → List pure.Piece × List ℕ
built s = (map view_piece s.pieces.items, string_bytes s.front)
