-- What the reader gives is the longest token, and each longest token is what it gives.
use Rattle.std.proofs.Common.{◌≡◌, ℕ, List, Some, None, refl, sym, ◌∙◌, ◌⊎◌, inl, inr}
use Rattle.lexical_form.specs.Reading.{Read}
use Rattle.lexical_form.specs.Tokens.{Token}
use Rattle.lexical_form.specs.Longest.{Longest, NoToken}
use Rattle.lexical_form.specs.TokenReader.{next}
use Rattle.lexical_form.proofs.Basics.{read_is}
use Rattle.lexical_form.proofs.NextLaws.{next_longest, no_token, longest_next}
use Rattle.lexical_form.proofs.laws.longest_token.Goals as goal

found : (ts : List ℕ) (r : Read Token) → next ts ≡ r → ((t : Token) × (rest : List ℕ) × Longest ts t rest) ⊎ NoToken ts
found ts None e = inr (no_token ts e)
found ts (Some p) e = inl (p.0, p.1, next_longest ts p.0 p.1 e)

pub returns-clause-some : goal.returns-clause-some
returns-clause-some c = λ ts. found ts (next ts) refl

pub returns-clause-once : goal.returns-clause-once
returns-clause-once c = λ ts t u rest after l m. read_is t u rest after (sym (longest_next ts t rest l) ∙ longest_next ts u after m)
