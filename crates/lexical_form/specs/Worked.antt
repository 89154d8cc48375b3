-- The words of worked examples: texts with what they are. No definition speaks of them.
-- Where the languages agree, the tokens, lines and indents are those of Python's own `tokenize` (3.11), and the characters those of its literals.
use Prim.Native.String.{String}
use Rattle.std.specs.Prelude.{ℕ, List, [], ◌∷◌, codes, map, ⊤, Option, Some, None}
use Rattle.lexical_form.specs.Tokens as tokens
use Rattle.lexical_form.specs.Tokens.{Token, token, Piece, Convert, Spec, characters, pieces_of, tokens_of}
use Rattle.lexical_form.specs.LogicalLines.{Line}
use Rattle.lexical_form.specs.Answer.{Answer, IsAnswer, accepted, no_token}

-- each text of a table is what stands beside it
abbrev pub AreAnswers : List (List ℕ × Answer) → Type 0
AreAnswers [] = ⊤
AreAnswers (row ∷ rows) = IsAnswer row.0 row.1 × AreAnswers rows

-- ---- tokens by their spellings
abbrev pub name : String → Token
name x = token tokens.name (codes x)

abbrev pub number : String → Token
number x = token tokens.number (codes x)

abbrev pub text : String → Token
text x = token tokens.text (codes x)

abbrev pub mark : String → Token
mark x = token tokens.mark (codes x)

abbrev pub f_text : String → List Piece → Token
f_text x ps = token (tokens.f_text (pieces_of ps)) (codes x)

-- ---- pieces of f-texts
abbrev pub chars : String → Piece
chars x = characters (codes x)

abbrev pub whole_field : List Token → Convert → Option Spec → Piece
whole_field ts c s = tokens.field (tokens_of ts) c s

abbrev pub field : List Token → Piece
field ts = whole_field ts tokens.as_is None

-- a field that is the name `a`, and the same with a format
abbrev pub field_a : Piece
field_a = field (name "a" ∷ [])

abbrev pub field_a_as : Spec → Piece
field_a_as s = whole_field (name "a" ∷ []) tokens.as_is (Some s)

-- ---- rows
abbrev pub line_of : ℕ → ℕ → List Token → Line
line_of n indent ts = record { line = n; indent = indent; tokens = ts }

abbrev pub lines : String → List Line → List ℕ × Answer
lines x ls = (codes x, accepted ls)

-- one line without an indent
abbrev pub row : String → List Token → List ℕ × Answer
row x ts = lines x (line_of 1 0 ts ∷ [])

abbrev pub is_name : String → List ℕ × Answer
is_name x = row x (name x ∷ [])

abbrev pub is_number : String → List ℕ × Answer
is_number x = row x (number x ∷ [])

abbrev pub is_text : String → List ℕ × Answer
is_text x = row x (text x ∷ [])

abbrev pub is_f_text : String → List Piece → List ℕ × Answer
is_f_text x ps = row x (f_text x ps ∷ [])

abbrev pub refused : ℕ → String → List ℕ × Answer
refused n x = (codes x, no_token n)

abbrev pub all_refused : List String → List (List ℕ × Answer)
all_refused xs = map (refused 1) xs
