-- The token that is read is the longest one.
use Rattle.std.proofs.Common.{◌≡◌, ℕ, List, Option, Some, None, sym, subst}
use Rattle.std.specs.Prelude.{MatchOption, IfOk, Result, Ok, Err}
use Rattle.std.specs.Borrow.{Bor}
use Rattle.std.specs.declared.alloc.AllocError.{AllocError}
use Rattle.lexical_form.specs.Reading.{Read}
use Rattle.lexical_form.specs.Tokens as pure
use Rattle.lexical_form.specs.Longest.{Longest, NoToken}
use Rattle.lexical_form.specs.TokenReader.{next}
use Rattle.lexical_form.proofs.NextLaws.{Decided, next_decides}
use Rattle.py_tokens.specs.declared.token.Token.{Token}
use Rattle.py_lexer.specs.ScanView.{seen}

matched : (ts : List ℕ) (r : Read pure.Token) → Decided ts r → MatchOption r (NoToken ts) (λ p. Longest ts p.0 p.1)
matched ts None h = h
matched ts (Some p) h = h

pub token_longest : (ts : List ℕ) (r : Result (Option (Token × Bor (List ℕ))) AllocError) → IfOk r (λ o. seen o ≡ next ts)
    → IfOk r (λ o. MatchOption (seen o) (NoToken ts) (λ p. Longest ts p.0 p.1))
token_longest ts (Ok o) h = matched ts (seen o) (subst (Decided ts) (sym h) (next_decides ts))
token_longest ts (Err e) h = tt
