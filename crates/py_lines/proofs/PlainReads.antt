-- The longest token is what the reader reads.
use Rattle.std.proofs.Common.{◌≡◌, ℕ, List, Option, Some, None, refl, sym}
use Rattle.std.specs.Prelude.{MatchOption}
use Rattle.std.specs.Borrow.{Bor}
use Rattle.lexical_form.specs.Reading.{Read}
use Rattle.lexical_form.specs.Plain.{Plain, LongestPlain, NoPlain}
use Rattle.lexical_form.specs.PlainReader.{next_plain}
use Rattle.lexical_form.proofs.PlainLongest.{read_longest, longest_read}
use Rattle.py_lexer.specs.declared.plain.PlainKind.{PlainKind}
use Rattle.py_lines.specs.PlainView.{plain_of, seen_plain}

none_read : (ts : List ℕ) (r : Read Plain) → next_plain ts ≡ r → NoPlain ts → r ≡ None
none_read ts None e h = refl
none_read ts (Some p) e h = let l = read_longest ts p.0 p.1 e in absurd (h p.0 p.1 l.stands l.spelled)

pub plain_read : (ts : List ℕ) (o : Option (PlainKind × Bor (List ℕ) × Bor (List ℕ))) → MatchOption o (NoPlain ts) (λ p. LongestPlain ts (plain_of p.0 p.1.now) p.2.now) → seen_plain o ≡ next_plain ts
plain_read ts None h = sym (none_read ts (next_plain ts) refl h)
plain_read ts (Some p) h = sym (longest_read ts (plain_of p.0 p.1.now) p.2.now h)
