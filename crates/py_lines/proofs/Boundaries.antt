-- Where a text may be cut.
use Rattle.std.proofs.Common.{◌≡◌, ℕ, ◌+◌, ◌-◌, ◌<◌, Bool, true, false, cond, List, [], ◌∷◌, length, get_or, refl, sym, subst, arith}
use Rattle.std.specs.Prelude.{nat_lt, ◌==◌}
use Rattle.std.specs.Str.{IsUtf8, IsCharBoundary}
use Rattle.std.proofs.lemmas.Str.{IsCharBoundary-after_ascii, IsCharBoundary-start}
use Rattle.std.proofs.lemmas.Bool.Decides.{nat_tests}
use Rattle.lexical_form.specs.Bytes.{is_quote, is_brace, starts}
use Rattle.lexical_form.specs.Texts.{Quotes}
use Rattle.lexical_form.specs.TextReader.{lead_one, lead_two, lead}
use Rattle.lexical_form.proofs.Basics.{is_code}
use Rattle.py_lines.specs.Characters.{IsEscape}

quote_small : (m c : ℕ) → is_quote m ≡ true → (c == m) ≡ true → c < 128
quote_small m c k e = let same = is_code c m e in grind (arith, nat_tests)

at_zero : (ts : List ℕ) (n : ℕ) → IsUtf8 ts → n ≡ 0 → IsCharBoundary ts n
at_zero ts n u e = subst (λ k. IsCharBoundary ts k) (sym e) (IsCharBoundary-start ts u)

behind_quote : (ts : List ℕ) (i n : ℕ) → IsUtf8 ts → i < length ts → get_or ts i 0 < 128 → n ≡ i + 1 → IsCharBoundary ts n
behind_quote ts i n u l small e = subst (λ k. IsCharBoundary ts k) (sym e) (IsCharBoundary-after_ascii ts i u (omega (arith, l)) small)

second_at : (m : ℕ) (c : ℕ) (cs : List ℕ) (n : ℕ) → is_quote m ≡ true → IsUtf8 (c ∷ cs) → c < 128 → n ≡ 1 + lead_one m cs → IsCharBoundary (c ∷ cs) n
second_at m c [] n k u small e = behind_quote (c ∷ []) 0 n u (omega arith) small e
second_at m c (d ∷ ds) n k u small e = go (d == m) refl e
  where
    go : (b : Bool) → (d == m) ≡ b → n ≡ 1 + cond b 1 0 → IsCharBoundary (c ∷ d ∷ ds) n
    go true f e = behind_quote (c ∷ d ∷ ds) 1 n u (omega arith) (quote_small m d k f) e
    go false f e = behind_quote (c ∷ d ∷ ds) 0 n u (omega arith) small e

two_at : (m : ℕ) (ts : List ℕ) (n : ℕ) → is_quote m ≡ true → IsUtf8 ts → n ≡ lead_two m ts → IsCharBoundary ts n
two_at m [] n k u e = at_zero [] n u e
two_at m (c ∷ cs) n k u e = go (c == m) refl e
  where
    go : (b : Bool) → (c == m) ≡ b → n ≡ cond b (1 + lead_one m cs) 0 → IsCharBoundary (c ∷ cs) n
    go true f e = second_at m c cs n k u (quote_small m c k f) e
    go false f e = at_zero (c ∷ cs) n u e

-- behind the quotes before a part
pub lead_boundary : (q : Quotes) (ts : List ℕ) (n : ℕ) → is_quote q.mark ≡ true → IsUtf8 ts → n ≡ lead q ts → IsCharBoundary ts n
lead_boundary q ts n k u e = go q.three e
  where
    go : (b : Bool) → n ≡ cond b (lead_two q.mark ts) 0 → IsCharBoundary ts n
    go true e = two_at q.mark ts n k u e
    go false e = at_zero ts n u e

-- behind an escape
pub escape_boundary : (ts : List ℕ) (n : ℕ) → IsUtf8 ts → IsEscape ts n → IsCharBoundary ts n
escape_boundary ts n u h = behind_quote ts (n - 1) n u (omega (arith, IsEscape.in_range h, IsEscape.some h)) (IsEscape.ascii h) (omega (arith, IsEscape.some h))

-- braces are ASCII
pub brace_ascii : (ts : List ℕ) → starts is_brace ts ≡ true → starts (λ c. nat_lt c 128) ts ≡ true
brace_ascii [] h = h
brace_ascii (c ∷ cs) h = grind (arith, nat_tests)
