-- Worked examples are computed: the tokens of a text by the readers of `lexical_form`, expressions and lines by the readers here.
use Rattle.std.proofs.Common.{◌≡◌, ℕ, Bool, true, List, [], ◌∷◌, Option, Some, None, sym, ap, ◌∙◌}
use Rattle.std.specs.Prelude.{map}
use Rattle.std.specs.Str.{is_utf8}
use Rattle.py_tree.specs.Trees.{Tree, Head}
use Rattle.lexical_form.specs.Answer.{Answer, accepted}
use Rattle.lexical_form.specs.Tokens.{Token}
use Rattle.lexical_form.specs.LogicalLines.{Line}
use Rattle.lexical_form.proofs.Basics.{head_is, tail_is}
use Rattle.lexical_form.proofs.WorkedRows.{computed, answer_is}
use Rattle.syntax_form.specs.Depth.{depth_limit}
use Rattle.syntax_form.specs.Expressions.{IsExpression}
use Rattle.syntax_form.specs.Lines.{SpellsLine, IsLine}
use Rattle.syntax_form.specs.SpelledTokens.{AreTokens}
use Rattle.syntax_form.proofs.LineTokens.{of_tokens}
use Rattle.syntax_reading.specs.Reading.{read_expression}
use Rattle.syntax_reading.specs.LineReading.{read_line}
use Rattle.syntax_reading.specs.Worked.{IsOneLine, Says, AreRows, AreExpressions, AreLines}
use Rattle.syntax_reading.proofs.ExpressionLaws.{expression_found, expression_only}
use Rattle.syntax_reading.proofs.LineLaws.{line_found, no_line}

abbrev first_tokens : List Line → List Token
first_tokens [] = []
first_tokens (l ∷ ls) = l.tokens

-- of the first line, where the bytes are lines
abbrev answer_tokens : Answer → List Token
answer_tokens (accepted ls) = first_tokens ls
answer_tokens a = []

abbrev one_line : List Token → Answer
one_line ts = accepted (record { line = 1; indent = 0; tokens = ts } ∷ [])

abbrev Row : Type 0 → Type 0
Row A = List ℕ × Option A

-- whether the text is UTF-8, what it is, and what its tokens are read as
abbrev Seen : Type 0 → Type 0
Seen A = Bool × Answer × Option A

module _ {A : Type 0} (reader : List Token → Option A) where
  abbrev seen : List ℕ → Seen A
  seen text = let a = computed text in (is_utf8 text, a, reader (answer_tokens a))

  abbrev wanted : Row A → Seen A
  wanted row = (true, one_line (answer_tokens (computed row.0)), row.1)

  abbrev all_seen : List (Row A) → List (Seen A)
  all_seen rows = map (λ (row : Row A). seen row.0) rows

  abbrev all_wanted : List (Row A) → List (Seen A)
  all_wanted rows = map wanted rows

  -- a table that is computed
  abbrev pub Computed : List (Row A) → Type 0
  Computed rows = all_seen rows ≡ all_wanted rows

module _ {A : Type 0} (Is Spells : List Token → A → Type 0) (reader : List Token → Option A)
    (found : (ts : List Token) (x : A) → AreTokens ts → reader ts ≡ Some x → Is ts x)
    (refused : (ts : List Token) → reader ts ≡ None → (x : A) → Spells ts x → ⊥) where
  says : (ts : List Token) (o : Option A) → AreTokens ts → reader ts ≡ o → Says Is Spells ts o
  says ts (Some x) spelled e = found ts x spelled e
  says ts None spelled e = refused ts e

  row_says : (row : Row A) → seen reader row.0 ≡ wanted reader row → (ts : List Token) × IsOneLine row.0 ts × Says Is Spells ts row.1
  row_says row e =
      let ts = answer_tokens (computed row.0) in
      let line : IsOneLine row.0 ts = answer_is row.0 (one_line ts) (ap (λ (s : Seen A). s.0) e) (ap (λ (s : Seen A). s.1) e) in
      (ts, line, says ts row.1 (of_tokens row.0 (record { line = 1; indent = 0; tokens = ts } ∷ []) line.1).0 (ap (λ (s : Seen A). s.2) e))

  are_rows : (rows : List (Row A)) → Computed reader rows → AreRows Is Spells rows
  are_rows [] e = tt
  are_rows (row ∷ rows) e = (
    row_says row (head_is {A = Seen A} (seen reader row.0) (wanted reader row) (all_seen reader rows) (all_wanted reader rows) e),
    are_rows rows (tail_is {A = Seen A} (seen reader row.0) (wanted reader row) (all_seen reader rows) (all_wanted reader rows) e),
  )

-- where no expression is read, the tokens are none
no_expression : (ts : List Token) → read_expression depth_limit ts ≡ None → (t : Tree) → IsExpression depth_limit ts t → ⊥
no_expression ts e t h = let none : None ≡ Some t = sym e ∙ expression_only depth_limit ts t h in cc

pub are_expressions : (rows : List (Row Tree)) → Computed (read_expression depth_limit) rows → AreExpressions rows
are_expressions rows e =
    are_rows (IsExpression depth_limit) (IsExpression depth_limit) (read_expression depth_limit) (expression_found depth_limit) no_expression rows e

pub are_lines : (rows : List (Row Head)) → Computed read_line rows → AreLines rows
are_lines rows e = are_rows IsLine SpellsLine read_line line_found no_line rows e
