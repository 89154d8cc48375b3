-- What `lines_by` answers.
use Rattle.std.specs.Prelude.{◌≡◌, ℕ, Bool, List, Some, None, Result, Ok, Err}
use Rattle.lexical_form.specs.Answer.{IsAnswer, accepted, no_utf8, no_token}
use Rattle.lexical_form.specs.Lines.{Line, State, Cut, lines_of, refused_line}
use Rattle.py_lexer.specs.declared.fault.LexFault.{LexFault}
use Rattle.py_lexer.specs.declared.fault.LexFault.TheVariants as fault

-- behind the pieces: the lines where nothing is refused, else the refused line
abbrev pub Ends : Bool → State → List ℕ → Result (List Line) LexFault → Type 0
Ends whole s rest (Ok ls) = (refused_line whole s rest ≡ None) × (ls ≡ lines_of s)
Ends whole s rest (Err (fault.Token n)) = refused_line whole s rest ≡ Some n
Ends whole s rest (Err (fault.NotUtf8 n)) = ⊥
Ends whole s rest (Err fault.Memory) = Unit {0}

-- The bytes spell these lines, or are refused so.
abbrev pub Answers : List ℕ → Result (List Line) LexFault → Type 0
Answers bytes (Ok ls) = IsAnswer bytes (accepted ls)
Answers bytes (Err (fault.Token n)) = IsAnswer bytes (no_token n)
Answers bytes (Err (fault.NotUtf8 n)) = IsAnswer bytes (no_utf8 n)
Answers bytes (Err fault.Memory) = Unit {0}

-- the same of a text that is cut
abbrev pub Answered : Bool → List ℕ → Result (List Line) LexFault → Type 0
Answered whole text (Ok ls) = (s : State) × (rest : List ℕ) × Cut text s rest × Ends whole s rest (Ok ls)
Answered whole text (Err (fault.Token n)) = (s : State) × (rest : List ℕ) × Cut text s rest × Ends whole s rest (Err (fault.Token n))
Answered whole text (Err (fault.NotUtf8 n)) = ⊥
Answered whole text (Err fault.Memory) = Unit {0}
