-- What the code's scan stands for.
use Rattle.std.specs.Prelude.{ℕ, cond, IfSome, MatchOption, [], ◌∷◌, not, ◌==◌, List, map, Option, Some, None, Result, Ok, Err, IfOk}
use Rattle.std.specs.Global.{Vec}
use Rattle.std.specs.Borrow.{Bor, MutBor}
use Rattle.std.specs.declared.alloc.AllocError.{AllocError}
use Rattle.std.specs.declared.alloc.Global.{Global}
use Rattle.py_tokens.specs.declared.names.Names.{Names}
use Rattle.py_tokens.specs.declared.token.Token.{Token}
use Rattle.lexical_form.specs.Tokens as pure_tokens
use Rattle.lexical_form.specs.Reading.{span}
use Rattle.lexical_form.specs.TokenReader.{next}
use Rattle.py_tokens.specs.TokenView.{view_line, view_token}
use Rattle.lexical_form.specs.Lines as pure
use Rattle.lexical_form.specs.Lines.{State, Piece, a_token, space, tab, line_end, after, may_take}
use Rattle.std.specs.Str.{IsUtf8}
use Rattle.lexical_form.specs.Longest.{Longest, NoToken}
use Rattle.lexical_form.specs.LineReader.{piece_at}
use Rattle.py_tokens.specs.declared.line.LogicalLine.{LogicalLine}
use Rattle.py_lexer.specs.BracketView.{opened}
use Rattle.py_lexer.specs.declared.scan.Scan.{Scan}

abbrev pub state : Scan → State
state s = record {
  line = s.line;
  brackets = opened s.brackets;
  done = map view_line s.done.items;
  indent = s.indent;
  tabbed = s.tabbed;
  number = s.number;
  tokens = map view_token s.tokens.items;
}

-- what is behind a comment, of which the `#` is read
abbrev pub comment_end : List ℕ → List ℕ
comment_end ts = (span (λ d. not (d == 10)) ts).1

-- the state behind the piece at the front, and the text behind it; none where none may stand
abbrev pub stepped : State → Option (Piece × List ℕ) → State × Option (List ℕ)
stepped s None = (s, None)
stepped s (Some p) = (after s p.0, Some p.1)

abbrev pub step_of : State → List ℕ → State × Option (List ℕ)
step_of s ts = stepped s (piece_at s ts)

-- the same, by the first byte
abbrev pub token_says : State → Option (pure_tokens.Token × List ℕ) → State × Option (List ℕ)
token_says s None = (s, None)
token_says s (Some p) = cond {A = State × Option (List ℕ)} (may_take s p.0) (after s (a_token p.0), Some p.1) (s, None)

abbrev pub step_says : State → List ℕ → State × Option (List ℕ)
step_says s [] = (s, None)
step_says s (c ∷ cs) =
    cond {A = State × Option (List ℕ)} (c == 32) (after s space, Some cs)
    (cond {A = State × Option (List ℕ)} (c == 9) (after s tab, Some cs)
    (cond {A = State × Option (List ℕ)} (c == 10) (after s line_end, Some cs)
    (cond {A = State × Option (List ℕ)} (c == 35) (s, Some (comment_end cs)) (token_says s (next (c ∷ cs))))))

-- a token and what is behind it, as the code sees them
abbrev pub seen : Option (Token × Bor (List ℕ)) → Option (pure_tokens.Token × List ℕ)
seen None = None
seen (Some p) = Some (view_token p.0, p.1.now)

-- what reading a token gives, or want of memory
abbrev pub Reading : Type 0
Reading = Result (Option (Token × Bor (List ℕ))) AllocError

-- A function value that reads the longest token at the front of a text in UTF-8, and none exactly where no token begins. Nothing is said of
-- the names that it notes.
pub record ReadsTokens (pre : Global → MutBor Names → Bor (List ℕ) → Type 0) (post : Global → MutBor Names → Bor (List ℕ) → Reading → MutBor Names → Type 0) : Type 0 where
  pub callable : (alloc : Global) (names : MutBor Names) (text : Bor (List ℕ)) → pre alloc names text
  pub reads : (alloc : Global) (names left : MutBor Names) (text : Bor (List ℕ)) (r : Reading) → IsUtf8 text.now → post alloc names text r left
      → IfOk r (λ o. MatchOption (seen o) (NoToken text.now) (λ p. Longest text.now p.0 p.1))
  pub is_text : (alloc : Global) (names left : MutBor Names) (text : Bor (List ℕ)) (r : Reading) → IsUtf8 text.now → post alloc names text r left
      → IfOk r (λ o. IfSome o (λ p. IsUtf8 p.1.now))

abbrev pub view_lines : {E : Type 0} → Result (Vec LogicalLine) E → Result (List pure.Line) E
view_lines (Ok v) = Ok (map view_line v.items)
view_lines (Err e) = Err e
