-- A loop that goes over the longest run of bytes that pass a test.
use Rattle.std.proofs.Common.{◌≡◌, ℕ, zero, suc, ◌<◌, Bool, true, false, List, [], ◌∷◌, ◌++◌, length, take, drop, get_or, refl, sym, ap, subst, arith}
use Rattle.lexical_form.specs.Reading.{cons_if, span}

abbrev pub with_front : List ℕ → List ℕ × List ℕ → List ℕ × List ℕ
with_front front s = (front ++ s.0, s.1)

-- one byte more
pub run_more : (p : ℕ → Bool) (xs : List ℕ) (i j : ℕ) → j ≡ suc i → i < length xs → p (get_or xs i 0) ≡ true
    → with_front (take i xs) (span p (drop i xs)) ≡ with_front (take j xs) (span p (drop j xs))
run_more p xs i j e l h = subst (λ k. with_front (take i xs) (span p (drop i xs)) ≡ with_front (take k xs) (span p (drop k xs))) (sym e) (at p xs i l h)
  where
    at : (p : ℕ → Bool) (xs : List ℕ) (i : ℕ) → i < length xs → p (get_or xs i 0) ≡ true → with_front (take i xs) (span p (drop i xs)) ≡ with_front (take (suc i) xs) (span p (drop (suc i) xs))
    at p [] i l h = absurd (omega (arith, l))
    at p (x ∷ xs) zero l h = ap (λ b. cons_if b x (span p xs) (x ∷ xs)) h
    at p (x ∷ xs) (suc i) l h = ap (λ (s : List ℕ × List ℕ). (x ∷ s.0, s.1)) (at p xs i (omega (arith, l)) h)

-- the end of the run, or of the bytes
pub run_ends : (p : ℕ → Bool) (xs : List ℕ) (i : ℕ) → (i < length xs → p (get_or xs i 0) ≡ false) → with_front (take i xs) (span p (drop i xs)) ≡ (take i xs, drop i xs)
run_ends p [] zero h = refl
run_ends p [] (suc i) h = refl
run_ends p (x ∷ xs) zero h = ap (λ b. cons_if b x (span p xs) (x ∷ xs)) (h (omega arith))
run_ends p (x ∷ xs) (suc i) h = ap (λ (s : List ℕ × List ℕ). (x ∷ s.0, s.1)) (run_ends p xs i (λ l. h (omega (arith, l))))
