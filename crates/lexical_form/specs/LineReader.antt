-- Reading the pieces of a text.
use Rattle.std.specs.Prelude.{ℕ, if◌then◌else◌, not, ◌==◌, List, [], ◌∷◌, Some, None}
use Rattle.lexical_form.specs.Reading.{Read, read_all, span}
use Rattle.lexical_form.specs.Tokens.{Token}
use Rattle.lexical_form.specs.TokenReader.{next}
use Rattle.lexical_form.specs.Lines.{Piece, a_token, space, tab, comment, line_end, State, start, after, may_take}

abbrev pub fitting : State → Read Token → Read Piece
fitting s None = None
fitting s (Some p) = if may_take s p.0 then Some (a_token p.0, p.1) else None

abbrev pub comment_at : ℕ → List ℕ → Read Piece
comment_at c cs = let r = span (λ d. not (d == 10)) cs in Some (comment (c ∷ r.0), r.1)

abbrev pub piece_at : State → List ℕ → Read Piece
piece_at s [] = None
piece_at s (c ∷ cs) =
    if c == 32 then Some (space, cs)
    else if c == 9 then Some (tab, cs)
    else if c == 10 then Some (line_end, cs)
    else if c == 35 then comment_at c cs
    else fitting s (next (c ∷ cs))

abbrev pub pieces : List ℕ → List Piece × List ℕ
pieces text = read_all piece_at after start text
