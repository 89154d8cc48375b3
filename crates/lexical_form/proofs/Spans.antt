-- The longest run of bytes that pass a test.
use Rattle.std.proofs.Common.{◌≡◌, ℕ, Bool, true, false, List, [], ◌∷◌, ◌++◌, refl, ap, ◌∙◌}
use Rattle.std.specs.List.{list_all}
use Rattle.lexical_form.specs.Bytes.{starts}
use Rattle.lexical_form.specs.Reading.{cons_if, span}
use Rattle.lexical_form.proofs.Basics.{and_left, and_right, both}

pub record Runs (p : ℕ → Bool) (ts : List ℕ) (s : List ℕ × List ℕ) : Type 0 where
  pub each : list_all p s.0 ≡ true
  pub front : ts ≡ s.0 ++ s.1
  pub stops : starts p s.1 ≡ false

step : (p : ℕ → Bool) (b : Bool) (c : ℕ) (cs : List ℕ) (s : List ℕ × List ℕ) → p c ≡ b → Runs p cs s → Runs p (c ∷ cs) (cons_if b c s (c ∷ cs))
step p true c cs s is r = record { each = both (p c) (list_all p s.0) is r.each; front = ap (λ xs. c ∷ xs) r.front; stops = r.stops }
step p false c cs s is r = record { each = refl; front = refl; stops = is }

pub span_runs : (p : ℕ → Bool) (ts : List ℕ) → Runs p ts (span p ts)
span_runs p [] = record { each = refl; front = refl; stops = refl }
span_runs p (c ∷ cs) = step p (p c) c cs (span p cs) refl (span_runs p cs)

-- a run that the rest doesn't go on with
pub span_is : (p : ℕ → Bool) (cs rest : List ℕ) → list_all p cs ≡ true → starts p rest ≡ false → span p (cs ++ rest) ≡ (cs, rest)
span_is p [] [] h e = refl
span_is p [] (d ∷ ds) h e = ap (λ b. cons_if b d (span p ds) (d ∷ ds)) e
span_is p (c ∷ cs) rest h e =
    let first = and_left (p c) (list_all p cs) h in
    let others = span_is p cs rest (and_right (p c) (list_all p cs) h) e in
    ap (λ b. cons_if b c (span p (cs ++ rest)) (c ∷ (cs ++ rest))) first ∙ ap (λ (s : List ℕ × List ℕ). (c ∷ s.0, s.1)) others
