-- One scan over the pieces of a text, which computes what `LogicalLines` says. That it does is proved; no definition speaks of it.
use Rattle.std.specs.Prelude.{◌≡◌, ℕ, ◌+◌, Bool, false, if◌then◌else◌, not, ◌&&◌, ◌||◌, ◌==◌, IsTrue, List, [], ◌∷◌, ◌++◌, Option, Some, None}
use Rattle.lexical_form.specs.Bytes.{is_empty, starts}
use Rattle.lexical_form.specs.Brackets.{single}
use Rattle.lexical_form.specs.Cuts.{Cuts, state_after}
use Rattle.lexical_form.specs.Tokens.{Token, spelling}
use Rattle.lexical_form.specs.Longest.{Longest}
use Rattle.lexical_form.specs.Readable.{readable, is_readable}
pub use Rattle.lexical_form.specs.Pieces.{Piece, a_token, space, tab, comment, line_end, piece_spelling, is_comment, line_ends, Bracket, may_close, brackets_after}
pub use Rattle.lexical_form.specs.LogicalLines.{Line}

-- Behind some pieces: the line, from 1; the brackets that are open, the innermost first; the lines that are done; of the line that isn't,
-- the spaces before its first token, whether a tab is among them, the line of its first token, and its tokens.
pub record State : Type 0 where
  pub line : ℕ
  pub brackets : List Bracket
  pub done : List Line
  pub indent : ℕ
  pub tabbed : Bool
  pub number : ℕ
  pub tokens : List Token

abbrev pub start : State
start = record { line = 1; brackets = []; done = []; indent = 0; tabbed = false; number = 1; tokens = [] }

-- the lines, where nothing more comes
abbrev pub lines_of : State → List Line
lines_of s = if is_empty s.tokens then s.done else (s.done ++ record { line = s.number; indent = s.indent; tokens = s.tokens } ∷ [])

abbrev pub after : State → Piece → State
after s (a_token t) = record s {
  line = s.line + line_ends (spelling t);
  brackets = brackets_after s.brackets s.line (single (spelling t));
  number = if is_empty s.tokens then s.line else s.number;
  tokens = s.tokens ++ t ∷ [];
}
after s space = record s { indent = if is_empty s.tokens then s.indent + 1 else s.indent }
after s tab = record s { tabbed = is_empty s.tokens || s.tabbed }
after s (comment cs) = s
after s line_end =
    if is_empty s.brackets
    then record { line = s.line + 1; brackets = []; done = lines_of s; indent = 0; tabbed = false; number = 1; tokens = [] }
    else record s { line = s.line + 1 }

-- the token closes no bracket but the innermost, and no tab is among the blanks before a line's first token
abbrev pub may_take : State → Token → Bool
may_take s t = may_close s.brackets (single (spelling t)) && not (is_empty s.tokens && s.tabbed)

-- in the state `s` the piece may stand directly before this text
abbrev pub Fits : State → Piece → List ℕ → Type 0
Fits s (a_token t) rest = Longest (spelling t ++ rest) t rest × IsTrue (may_take s t)
Fits s (comment cs) rest = IsTrue (is_comment cs && not (starts (λ c. not (c == 10)) rest))
Fits s p rest = Unit {0}

-- no piece may begin there
abbrev pub Stuck : State → List ℕ → Type 0
Stuck s ts = (p : Piece) (rest : List ℕ) → Fits s p rest → ts ≡ piece_spelling p ++ rest → ⊥

-- The text is made of pieces, as far as they go; then comes `rest`, and the state is `s`.
abbrev pub Cut : List ℕ → State → List ℕ → Type 0
Cut text s rest = (ps : List Piece) × Cuts piece_spelling Fits after start text ps rest × (s ≡ state_after after start ps) × Stuck s rest

-- the line of the outermost bracket
abbrev pub outermost : List Bracket → ℕ
outermost [] = 0
outermost (b ∷ []) = b.line
outermost (b ∷ c ∷ cs) = outermost (c ∷ cs)

-- the line at which bytes are refused whose pieces end before `rest`
abbrev pub refused_line : Bool → State → List ℕ → Option ℕ
refused_line whole s [] =
    if whole then (if is_empty s.brackets then None else Some (outermost s.brackets)) else Some s.line
refused_line whole s (c ∷ cs) = Some s.line

-- what bytes are that are scanned
abbrev pub ScannedAs : List ℕ → List Line → Type 0
ScannedAs bytes lines =
    IsTrue (is_readable bytes) × (s : State) × Cut (readable bytes) s [] × (s.brackets ≡ []) × (lines ≡ lines_of s)

abbrev pub ScanFails : List ℕ → ℕ → Type 0
ScanFails bytes n = (s : State) × (rest : List ℕ) × Cut (readable bytes) s rest × (refused_line (is_readable bytes) s rest ≡ Some n)
