-- Worked examples are computed by the readers.
use Rattle.std.proofs.Common.{◌≡◌, ℕ, Bool, true, false, List, [], ◌∷◌, Option, Some, None, refl, sym, ap, subst, ◌∙◌}
use Rattle.std.specs.Prelude.{map}
use Rattle.std.specs.List.{list_all}
use Rattle.std.specs.Str.{IsUtf8, is_utf8}
use Rattle.std.proofs.lemmas.Str.{IsUtf8-from_is_utf8, is_utf8-from_IsUtf8}
use Rattle.lexical_form.specs.Answer.{Answer, IsAnswer, accepted, no_token, utf8_line}
use Rattle.lexical_form.specs.Cuts.{state_after}
use Rattle.lexical_form.specs.Readable.{readable, is_readable}
use Rattle.lexical_form.specs.Lines.{State, Cut, start, after, lines_of, refused_line}
use Rattle.lexical_form.specs.LogicalLines.{Line}
use Rattle.lexical_form.specs.LineReader.{pieces}
use Rattle.lexical_form.specs.Worked.{AreAnswers}
use Rattle.lexical_form.specs.WorkedFiles.{AreNoUtf8}
use Rattle.lexical_form.proofs.Basics.{head_is, tail_is, and_left, and_right}
use Rattle.lexical_form.proofs.CutLaws.{cut_is, cut_spells, cut_refuses}

-- the state behind all pieces, and what is left
abbrev ends : List ℕ → State × List ℕ
ends bytes = let r = pieces (readable bytes) in (state_after after start r.0, r.1)

abbrev answer_by : List Line → Option ℕ → Answer
answer_by ls None = accepted ls
answer_by ls (Some n) = no_token n

-- what bytes are that are UTF-8
abbrev pub computed : List ℕ → Answer
computed bytes = let e = ends bytes in answer_by (lines_of e.0) (refused_line (is_readable bytes) e.0 e.1)

found : (bytes : List ℕ) (s : State) (rest : List ℕ) (o : Option ℕ) → refused_line (is_readable bytes) s rest ≡ o → IsUtf8 bytes → Cut (readable bytes) s rest → IsAnswer bytes (answer_by (lines_of s) o)
found bytes s rest None e u cut = (u, cut_spells bytes s rest cut e)
found bytes s rest (Some n) e u cut = (u, cut_refuses bytes s rest n cut e)

pub computed_is : (bytes : List ℕ) → IsUtf8 bytes → IsAnswer bytes (computed bytes)
computed_is bytes u = found bytes (ends bytes).0 (ends bytes).1 (refused_line (is_readable bytes) (ends bytes).0 (ends bytes).1) refl u (cut_is (readable bytes))

-- a row, and rows
pub answer_is : (bytes : List ℕ) (a : Answer) → is_utf8 bytes ≡ true → computed bytes ≡ a → IsAnswer bytes a
answer_is bytes a u e = subst (IsAnswer bytes) e (computed_is bytes (IsUtf8-from_is_utf8 bytes u))

abbrev pub are_utf8 : List (List ℕ × Answer) → Bool
are_utf8 rows = list_all (λ (row : List ℕ × Answer). is_utf8 row.0) rows

abbrev pub all_computed : List (List ℕ × Answer) → List Answer
all_computed rows = map (λ (row : List ℕ × Answer). computed row.0) rows

abbrev pub all_wanted : List (List ℕ × Answer) → List Answer
all_wanted rows = map (λ (row : List ℕ × Answer). row.1) rows

pub all_answers : (rows : List (List ℕ × Answer)) → are_utf8 rows ≡ true → all_computed rows ≡ all_wanted rows → AreAnswers rows
all_answers [] u e = tt
all_answers (row ∷ rows) u e = (
  answer_is row.0 row.1 (and_left (is_utf8 row.0) (are_utf8 rows) u) (head_is (computed row.0) row.1 (all_computed rows) (all_wanted rows) e),
  all_answers rows (and_right (is_utf8 row.0) (are_utf8 rows) u) (tail_is (computed row.0) row.1 (all_computed rows) (all_wanted rows) e),
)

-- bytes that aren't UTF-8
abbrev pub Found : Type 0
Found = Bool × ℕ

abbrev pub all_found : List (List ℕ × ℕ) → List Found
all_found rows = map (λ (row : List ℕ × ℕ). (is_utf8 row.0, utf8_line row.0)) rows

abbrev pub all_bad : List (List ℕ × ℕ) → List Found
all_bad rows = map (λ (row : List ℕ × ℕ). (false, row.1)) rows

never_utf8 : (bytes : List ℕ) → is_utf8 bytes ≡ false → IsUtf8 bytes → ⊥
never_utf8 bytes e u = let none : true ≡ false = sym (is_utf8-from_IsUtf8 bytes u) ∙ e in cc

pub all_no_utf8 : (rows : List (List ℕ × ℕ)) → all_found rows ≡ all_bad rows → AreNoUtf8 rows
all_no_utf8 [] e = tt
all_no_utf8 (row ∷ rows) e =
    let here = head_is {A = Found} (is_utf8 row.0, utf8_line row.0) (false, row.1) (all_found rows) (all_bad rows) e in (
      (never_utf8 row.0 (ap (λ (f : Found). f.0) here), sym (ap (λ (f : Found). f.1) here)),
      all_no_utf8 rows (tail_is {A = Found} (is_utf8 row.0, utf8_line row.0) (false, row.1) (all_found rows) (all_bad rows) e),
    )
