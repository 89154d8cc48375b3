-- Bytes are UTF-8 or not, and each text has one cut.
use Rattle.std.proofs.Common.{◌≡◌, ℕ, Bool, true, false, List, refl, sym, ap, ◌∙◌}
use Rattle.std.specs.Str.{is_utf8}
use Rattle.std.proofs.lemmas.Str.{IsUtf8-from_is_utf8, is_utf8-from_IsUtf8}
use Rattle.lexical_form.specs.Answer as answers
use Rattle.lexical_form.specs.Answer.{Answer, IsAnswer, utf8_line}
use Rattle.lexical_form.proofs.CutLaws.{spelled_once, refused_once, spelled_not_refused}
use Rattle.lexical_form.proofs.WorkedRows.{computed, computed_is}
use Rattle.lexical_form.proofs.laws.one_answer.Goals as goal

of_bytes : (bytes : List ℕ) (b : Bool) → is_utf8 bytes ≡ b → (a : Answer) × IsAnswer bytes a
of_bytes bytes true e = (computed bytes, computed_is bytes (IsUtf8-from_is_utf8 bytes e))
of_bytes bytes false e = (answers.no_utf8 (utf8_line bytes), (λ u. let yes = is_utf8-from_IsUtf8 bytes u in let none : true ≡ false = sym yes ∙ e in cc, refl))

pub returns-clause-some : goal.returns-clause-some
returns-clause-some c = λ bytes. of_bytes bytes (is_utf8 bytes) refl

same : (bytes : List ℕ) (a b : Answer) → IsAnswer bytes a → IsAnswer bytes b → a ≡ b
same bytes (answers.accepted ls) (answers.accepted ms) h k = ap answers.accepted (spelled_once bytes ls ms h.1 k.1)
same bytes (answers.accepted ls) (answers.no_utf8 n) h k = absurd (k.0 h.0)
same bytes (answers.accepted ls) (answers.no_token n) h k = absurd (spelled_not_refused bytes ls n h.1 k.1)
same bytes (answers.no_utf8 m) (answers.accepted ls) h k = absurd (h.0 k.0)
same bytes (answers.no_utf8 m) (answers.no_utf8 n) h k = ap answers.no_utf8 (h.1 ∙ sym k.1)
same bytes (answers.no_utf8 m) (answers.no_token n) h k = absurd (h.0 k.0)
same bytes (answers.no_token m) (answers.accepted ls) h k = absurd (spelled_not_refused bytes ls m k.1 h.1)
same bytes (answers.no_token m) (answers.no_utf8 n) h k = absurd (k.0 h.0)
same bytes (answers.no_token m) (answers.no_token n) h k = ap answers.no_token (refused_once bytes m n h.1 k.1)

pub returns-clause-once : goal.returns-clause-once
returns-clause-once c = same
