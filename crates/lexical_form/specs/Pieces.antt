-- What a text is made of (Python language reference, sections 2.1.3 to 2.1.9), and what holds at a place of it: `before` lists the pieces
-- before that place, the nearest first.
use Rattle.std.specs.Prelude.{ℕ, ◌+◌, Bool, false, if◌then◌else◌, not, ◌&&◌, ◌||◌, ◌==◌, List, [], ◌∷◌, ◌++◌, drop, count_by}
use Rattle.std.specs.List.{list_all}
use Rattle.lexical_form.specs.Bytes.{is_empty}
use Rattle.lexical_form.specs.Brackets.{single, closing_of, is_closing}
use Rattle.lexical_form.specs.Tokens.{Token, spelling}

pub data Piece : Type 0 where
  a_token : Token → Piece
  space : Piece
  tab : Piece
  -- with its `#`
  comment : List ℕ → Piece
  line_end : Piece

abbrev pub piece_spelling : Piece → List ℕ
piece_spelling (a_token t) = spelling t
piece_spelling space = 32 ∷ []
piece_spelling tab = 9 ∷ []
piece_spelling (comment cs) = cs
piece_spelling line_end = 10 ∷ []

-- `#` and no line end
abbrev pub is_comment : List ℕ → Bool
is_comment [] = false
is_comment (c ∷ cs) = (c == 35) && list_all (λ d. not (d == 10)) cs

abbrev pub line_ends : List ℕ → ℕ
line_ends cs = count_by (λ c. c == 10) cs

-- the line of the file in which the place is, from 1
abbrev pub line_at : List Piece → ℕ
line_at [] = 1
line_at (p ∷ before) = line_at before + line_ends (piece_spelling p)

-- a bracket that is open: the byte that closes it, and its line
pub record Bracket : Type 0 where
  pub closing : ℕ
  pub line : ℕ

-- the byte closes no bracket but the innermost
abbrev pub may_close : List Bracket → ℕ → Bool
may_close [] c = not (is_closing c)
may_close (b ∷ bs) c = not (is_closing c) || (b.closing == c)

-- behind the byte of a mark in this line
abbrev pub brackets_after : List Bracket → ℕ → ℕ → List Bracket
brackets_after brackets line c =
    if is_closing c then drop 1 brackets
    else if closing_of c == 0 then brackets
    else (record { closing = closing_of c; line = line } ∷ brackets)

-- the brackets that are open there, the innermost first
abbrev pub open_at : List Piece → List Bracket
open_at [] = []
open_at (a_token t ∷ before) = brackets_after (open_at before) (line_at before) (single (spelling t))
open_at (p ∷ before) = open_at before

-- A line end outside brackets ends a logical line; inside brackets the line goes on behind it (sections 2.1.1 and 2.1.6).
abbrev pub ends_line : List Piece → Piece → Bool
ends_line before line_end = is_empty (open_at before)
ends_line before p = false

-- the pieces of the logical line there: those behind the last line end outside brackets
abbrev pub row_at : List Piece → List Piece
row_at [] = []
row_at (p ∷ before) = if ends_line before p then [] else (p ∷ row_at before)

-- the tokens among pieces, in their order in the text
abbrev pub tokens_in : List Piece → List Token
tokens_in [] = []
tokens_in (a_token t ∷ before) = tokens_in before ++ t ∷ []
tokens_in (p ∷ before) = tokens_in before

-- the pieces before the logical line's first token, all where it has none
abbrev pub before_first : List Piece → List Piece
before_first [] = []
before_first (p ∷ before) = if is_empty (tokens_in (row_at (p ∷ before))) then (p ∷ before) else before_first before
