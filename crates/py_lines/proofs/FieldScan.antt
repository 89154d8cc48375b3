-- The loop over a field's items.
use Rattle.std.proofs.Common.{◌≡◌, ℕ, ◌<◌, List, [], ◌∷◌, ◌++◌, length, Option, Some, None, refl, sym, ap, subst, ◌∙◌, length-append, arith}
use Rattle.lexical_form.specs.Tokens as pure
use Rattle.lexical_form.specs.Reading.{Read}
use Rattle.lexical_form.specs.Cuts.{state_after}
use Rattle.lexical_form.specs.Fields.{FieldItem, plain_token, blank, field_item_spelling, FieldFits, open_behind}
use Rattle.lexical_form.specs.FieldReader.{field_item_at}
use Rattle.lexical_form.specs.FTexts.{token_of, field_tokens}
use Rattle.py_lines.specs.FieldSteps.{item_after, item_stepped, step_says}
use Rattle.py_lines.specs.FieldCuts.{FieldReached, FieldCut}
use Rattle.lexical_form.proofs.Basics.{some_is, not_some}
use Rattle.lexical_form.proofs.Runs.{cuts_more, state_more}
use Rattle.lexical_form.proofs.FieldLaws.{field_reads}
use Rattle.py_lines.proofs.FieldStepLaws.{step_same}

abbrev State : Type 0
State = List ℕ × List pure.Token

pub field_start : (ts : List ℕ) → FieldReached ts ([], []) ts
field_start ts = ([], refl, refl, refl)

tokens_more : (is : List FieldItem) (p : FieldItem) (s : State) → s.1 ≡ field_tokens is → (item_after s p).1 ≡ field_tokens (is ++ p ∷ [])
tokens_more [] (plain_token t) s e = ap (λ ts. ts ++ token_of t ∷ []) e
tokens_more [] (blank c) s e = e
tokens_more (plain_token u ∷ is) (plain_token t) s e = ap (λ ts. ts ++ token_of t ∷ []) e ∙ ap (λ ts. token_of u ∷ ts) (tokens_more is (plain_token t) (s.0, field_tokens is) refl)
tokens_more (plain_token u ∷ is) (blank c) s e = e ∙ ap (λ ts. token_of u ∷ ts) (tokens_more is (blank c) (s.0, field_tokens is) refl)
tokens_more (blank d ∷ is) p s e = tokens_more is p s e

brackets_are : (s : State) (p : FieldItem) → (item_after s p).0 ≡ open_behind s.0 p
brackets_are s (plain_token t) = refl
brackets_are s (blank c) = refl

pub record FieldStepped (ts rest : List ℕ) (t : State) (more : List ℕ) : Type 0 where
  pub reached : FieldReached ts t more
  pub shorter : length more < length rest

stepped_by : (ts : List ℕ) (s : State) (rest : List ℕ) (t : State) (more : List ℕ) (r : Read FieldItem) → FieldReached ts s rest → field_item_at s.0 rest ≡ r
    → ◌≡◌ {A = State × Option (List ℕ)} (t, Some more) (item_stepped s r) → FieldStepped ts rest t more
stepped_by ts s rest t more None h e f = not_some more (sym (ap (λ (x : State × Option (List ℕ)). x.1) f))
stepped_by ts s rest t more (Some p) h e f =
    let same : t ≡ item_after s p.0 = ap (λ (x : State × Option (List ℕ)). x.0) f in
    let behind : more ≡ p.1 = some_is more p.1 (ap (λ (x : State × Option (List ℕ)). x.1) f) in
    let g = field_reads.found s.0 rest p.0 p.1 e in
    let fits : FieldFits (state_after open_behind [] h.0) p.0 p.1 = subst (λ x. FieldFits x p.0 p.1) h.2 g.0 in
    let some = field_reads.some s.0 p.0 p.1 g.0 in
    let l = ap length g.1 ∙ length-append (field_item_spelling p.0) p.1 in
    let n = ap length behind in
    let here : FieldReached ts (item_after s p.0) p.1 = (
      h.0 ++ p.0 ∷ [],
      cuts_more field_item_spelling FieldFits open_behind [] ts h.0 rest p.0 p.1 h.1 fits g.1,
      brackets_are s p.0 ∙ (ap (λ x. open_behind x p.0) h.2 ∙ sym (state_more open_behind [] h.0 p.0)),
      tokens_more h.0 p.0 s h.3,
    ) in
    record { reached = subst (λ x. FieldReached ts x more) (sym same) (subst (λ xs. FieldReached ts (item_after s p.0) xs) (sym behind) here); shorter = omega arith }

pub field_stepped : (ts : List ℕ) (s : State) (rest : List ℕ) (t : State) (more : List ℕ) → FieldReached ts s rest → ◌≡◌ {A = State × Option (List ℕ)} (t, Some more) (step_says s rest) → FieldStepped ts rest t more
field_stepped ts s rest t more h f = stepped_by ts s rest t more (field_item_at s.0 rest) h refl (f ∙ sym (step_same s rest))

ended_by : (ts : List ℕ) (s : State) (rest : List ℕ) (t : State) (r : Read FieldItem) → FieldReached ts s rest → field_item_at s.0 rest ≡ r
    → ◌≡◌ {A = State × Option (List ℕ)} (t, None) (item_stepped s r) → FieldCut ts t rest
ended_by ts s rest t None h e f = let same : t ≡ s = ap (λ (x : State × Option (List ℕ)). x.0) f in subst (λ x. FieldCut ts x rest) (sym same) (h, e)
ended_by ts s rest t (Some p) h e f = not_some p.1 (ap (λ (x : State × Option (List ℕ)). x.1) f)

pub field_ended : (ts : List ℕ) (s : State) (rest : List ℕ) (t : State) → FieldReached ts s rest → ◌≡◌ {A = State × Option (List ℕ)} (t, None) (step_says s rest) → FieldCut ts t rest
field_ended ts s rest t h f = ended_by ts s rest t (field_item_at s.0 rest) h refl (f ∙ sym (step_same s rest))
