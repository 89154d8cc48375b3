-- The code's step is the reader's.
use Rattle.std.proofs.Common.{◌≡◌, ℕ, ◌≤◌, ◌<◌, Bool, true, false, cond, List, [], ◌∷◌, length, get_or, Option, Some, None, refl, arith}
use Rattle.std.specs.Str.{IsUtf8, IsCharBoundary}
use Rattle.std.proofs.lemmas.Str.{IsCharBoundary-after_ascii}
use Rattle.std.proofs.lemmas.Bool.Decides.{nat_tests}
use Rattle.lexical_form.specs.Tokens as pure
use Rattle.lexical_form.specs.Reading.{Read}
use Rattle.lexical_form.specs.Plain.{Plain}
use Rattle.lexical_form.specs.PlainReader.{next_plain}
use Rattle.lexical_form.specs.Fields.{FieldItem, plain_token, blank, is_blank, may_come}
use Rattle.lexical_form.specs.FieldReader.{field_token}
use Rattle.lexical_form.specs.TokenReader.{some_plain}
use Rattle.py_lines.specs.FieldSteps.{item_after, item_stepped, item_step, token_stepped, step_says}

abbrev Stepped : Type 0
Stepped = (List ℕ × List pure.Token) × Option (List ℕ)

token_same : (s : List ℕ × List pure.Token) (r : Read Plain) → ◌≡◌ {A = Stepped} (item_stepped s (field_token s.0 r)) (token_stepped s (some_plain r))
token_same s None = refl
token_same s (Some p) = go (may_come s.0 (Plain.spelling p.0))
  where
    go : (b : Bool) → ◌≡◌ {A = Stepped} (item_stepped s (cond {A = Read FieldItem} b (Some (plain_token p.0, p.1)) None))
        (cond {A = Stepped} b (item_after s (plain_token p.0), Some p.1) (s, None))
    go true = refl
    go false = refl

pub step_same : (s : List ℕ × List pure.Token) (ts : List ℕ) → ◌≡◌ {A = Stepped} (item_step s ts) (step_says s ts)
step_same s [] = refl
step_same s (c ∷ cs) = go (is_blank c)
  where
    go : (b : Bool) → ◌≡◌ {A = Stepped} (item_stepped s (cond {A = Read FieldItem} b (Some (blank c, cs)) (field_token s.0 (next_plain (c ∷ cs)))))
        (cond {A = Stepped} b (s, Some cs) (token_stepped s (some_plain (next_plain (c ∷ cs)))))
    go true = refl
    go false = token_same s (next_plain (c ∷ cs))

-- behind a blank the text may be cut
pub blank_boundary : (ts : List ℕ) → IsUtf8 ts → 1 ≤ length ts → is_blank (get_or ts 0 0) ≡ true → IsCharBoundary ts 1
blank_boundary ts u l h = let small : get_or ts 0 0 < 128 = grind (arith, nat_tests) in IsCharBoundary-after_ascii ts 0 u (omega (arith, l)) small
