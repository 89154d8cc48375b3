-- Logical lines: what a file's text is cut into, and the line at which it is refused (Python language reference, section 2.1). As in `Pieces`,
-- `before` lists the pieces before a place of the text, the nearest first.
use Rattle.std.specs.Prelude.{◌≡◌, ℕ, Bool, true, false, if◌then◌else◌, not, ◌&&◌, ◌==◌, IsTrue, List, [], ◌∷◌, ◌++◌, count_by, Option, Some, None}
use Rattle.std.specs.List.{list_any}
use Rattle.lexical_form.specs.Bytes.{is_empty, starts}
use Rattle.lexical_form.specs.Brackets.{single}
use Rattle.lexical_form.specs.Tokens.{Token, spelling}
use Rattle.lexical_form.specs.Longest.{Longest}
use Rattle.lexical_form.specs.Readable.{readable, is_readable}
use Rattle.lexical_form.specs.Pieces.{Piece, a_token, space, tab, comment, piece_spelling, is_comment, Bracket, may_close, line_at, open_at, ends_line, row_at, tokens_in, before_first}

-- a logical line: the line of the file in which its first token begins, from 1, the number of spaces before that token, its tokens
pub record Line : Type 0 where
  pub line : ℕ
  pub indent : ℕ
  pub tokens : List Token

abbrev pub is_space : Piece → Bool
is_space space = true
is_space p = false

abbrev pub is_tab : Piece → Bool
is_tab tab = true
is_tab p = false

-- the logical line up to this place, if it has tokens: so neither blank lines nor lines with only a comment are any (section 2.1.7)
abbrev pub line_of : List Piece → List Line
line_of before =
    if is_empty (tokens_in (row_at before))
    then []
    else
    (
    record {
      line = line_at (before_first before);
      indent = count_by is_space (row_at (before_first before));
      tokens = tokens_in (row_at before);
    }
    ∷ []
    )

-- the logical lines that are ended
abbrev pub lines_ended : List Piece → List Line
lines_ended [] = []
lines_ended (p ∷ before) = lines_ended before ++ (if ends_line before p then line_of before else [])

-- a tab stands in a logical line that has no token yet, so none may come (section 2.1.8, narrower)
abbrev pub is_tabbed : List Piece → Bool
is_tabbed before = is_empty (tokens_in (row_at before)) && list_any is_tab (row_at before)

-- Behind the pieces `before` this one may stand directly before the text `rest`. A token is the longest one there, and closes no bracket but
-- the innermost. A comment goes on up to the line's end.
abbrev pub MayStand : List Piece → Piece → List ℕ → Type 0
MayStand before (a_token t) rest =
    Longest (spelling t ++ rest) t rest × IsTrue (may_close (open_at before) (single (spelling t)) && not (is_tabbed before))
MayStand before (comment cs) rest = IsTrue (is_comment cs && not (starts (λ c. not (c == 10)) rest))
MayStand before p rest = Unit {0}

-- The text is these pieces, the last one first, and then `rest`, and each may stand where it stands.
abbrev pub IsMadeOf : List ℕ → List Piece → List ℕ → Type 0
IsMadeOf text [] rest = text ≡ rest
IsMadeOf text (p ∷ before) rest = MayStand before p rest × IsMadeOf text before (piece_spelling p ++ rest)

-- The same, and no piece may stand at the front of `rest`.
abbrev pub IsCut : List ℕ → List Piece → List ℕ → Type 0
IsCut text before rest =
    IsMadeOf text before rest × ((p : Piece) (more : List ℕ) → MayStand before p more → rest ≡ piece_spelling p ++ more → ⊥)

-- The bytes are these logical lines: pieces make up all of them, no bracket is left open, and no character stands there that stands in no file.
abbrev pub Spelled : List ℕ → List Line → Type 0
Spelled bytes lines =
    IsTrue (is_readable bytes) × (before : List Piece) × IsCut (readable bytes) before [] × (open_at before ≡ [])
    × (lines ≡ lines_ended before ++ line_of before)

-- the line of the outermost bracket
abbrev pub first_open : List Bracket → Option ℕ
first_open [] = None
first_open (b ∷ []) = Some b.line
first_open (b ∷ c ∷ cs) = first_open (c ∷ cs)

-- The line at which bytes are refused whose pieces go as far as `rest`, if they are: where all is readable and nothing is left, that of the
-- outermost open bracket; else that of what stands behind the pieces, which is the front of `rest` or a character that stands in no file.
abbrev pub refused_at : Bool → List Piece → List ℕ → Option ℕ
refused_at whole before rest = if whole && is_empty rest then first_open (open_at before) else Some (line_at before)

abbrev pub Refused : List ℕ → ℕ → Type 0
Refused bytes n =
    (before : List Piece) × (rest : List ℕ) × IsCut (readable bytes) before rest × (refused_at (is_readable bytes) before rest ≡ Some n)
