-- Which way a choice went, where it gave something.
use Rattle.std.proofs.Common.{◌≡◌, ℕ, ◌<◌, ◌⊎◌, inl, inr, Bool, true, false, List, [], ◌∷◌, Option, Some, None, refl, sym, ap, ◌∙◌, nat_lt, arith}
use Rattle.std.specs.Prelude.{if◌then◌else◌}
use Rattle.std.proofs.lemmas.Bool.Decides.{nat_tests}
use Rattle.syntax_reading.specs.Words.{Fixed, same, Word, fixed}
use Rattle.syntax_reading.specs.Readers.{Read, Reader, ◌>>=◌, choose, with_rest, on_table, is_word, on, guarded, Closing, by, at_end, on_closing}
use Rattle.syntax_reading.proofs.Spelling.{closes}
use Rattle.syntax_reading.proofs.WordLaws.{same_is}

pub bind_ok : {A B : Type 0} (r : Read A) (f : A → Reader B) (y : B × List Word) → (r >>= f) ≡ Some y → (p : A × List Word) × (r ≡ Some p) × (f p.0 p.1 ≡ Some y)
bind_ok None f y e = absurd (cc)
bind_ok (Some p) f y e = (p, refl, e)

pub guarded_ok : {A : Type 0} (b : Bool) (r : Read A) (y : A × List Word) → guarded b r ≡ Some y → (b ≡ true) × (r ≡ Some y)
guarded_ok true r y e = (refl, e)
guarded_ok false r y e = absurd (cc)

pub lt_of : (m n : ℕ) → nat_lt m n ≡ true → m < n
lt_of m n e = grind (arith, nat_tests)

pub choose_ok : {A B : Type 0} (other_way : Read A) (take : B → Reader A) (r : Read B) (y : A × List Word) → choose other_way take r ≡ Some y →
    ((p : B × List Word) × (r ≡ Some p) × (take p.0 p.1 ≡ Some y)) ⊎ ((r ≡ None) × (other_way ≡ Some y))
choose_ok other_way take None y e = inr (refl, e)
choose_ok other_way take (Some p) y e = inl (p, refl, e)

-- a word of the table stood there and was taken
pub record Hit {A B : Type 0} (table : Fixed → Option B) (take : B → Reader A) (ts : List Word) (y : A × List Word) : Type 0 where
  pub word : Fixed
  pub entry : B
  pub after : List Word
  pub listed : table word ≡ Some entry
  pub stood : ts ≡ fixed word ∷ after
  pub taken : take entry after ≡ Some y

pub on_table_ok : {A B : Type 0} (table : Fixed → Option B) (other_way : Read A) (take : B → Reader A) (ts : List Word) (y : A × List Word) →
    on_table table other_way take ts ≡ Some y → Hit table take ts y ⊎ (other_way ≡ Some y)
on_table_ok table other_way take [] y e = inr e
on_table_ok {A} {B} table other_way take (fixed f ∷ ts) y e = by_case (table f) refl e
  where
    by_case : (o : Option B) → table f ≡ o → choose other_way take (with_rest ts o) ≡ Some y → Hit table take (fixed f ∷ ts) y ⊎ (other_way ≡ Some y)
    by_case None h g = inr g
    by_case (Some b) h g = inl (record { word = f; entry = b; after = ts; listed = h; stood = refl; taken = g })
on_table_ok table other_way take (w ∷ ts) y e = inr e

pub is_word_is : (f g : Fixed) (u : Unit {0}) → is_word f g ≡ Some u → f ≡ g
is_word_is f g u e = by_test (same f g) refl e
  where
    by_test : (b : Bool) → same f g ≡ b → (if b then Some tt else None) ≡ Some u → f ≡ g
    by_test true h k = same_is f g h
    by_test false h k = absurd (cc)

-- the word stood there and was taken
abbrev pub Took : {A : Type 0} → (List Word → List Word) → Reader A → List Word → A × List Word → Type 0
Took before take ts y = (us : List Word) × (ts ≡ before us) × (take us ≡ Some y)

pub on_ok : {A : Type 0} (f : Fixed) (other_way : Read A) (take : Reader A) (ts : List Word) (y : A × List Word) → on f other_way take ts ≡ Some y →
    Took (λ us. fixed f ∷ us) take ts y ⊎ (other_way ≡ Some y)
on_ok f other_way take ts y e = elim (on_table_ok (is_word f) other_way (λ u. take) ts y e) [
  | inl h ↦ (
      let same_word : f ≡ h.word = is_word_is f h.word h.entry h.listed in
      inl (h.after, h.stood ∙ ap (λ g. fixed g ∷ h.after) (sym same_word), h.taken))
  | inr o ↦ inr o
]

pub on_only_ok : {A : Type 0} (f : Fixed) (take : Reader A) (ts : List Word) (y : A × List Word) → on f None take ts ≡ Some y → Took (λ us. fixed f ∷ us) take ts y
on_only_ok f take ts y e = elim (on_ok f None take ts y e) [
  | inl t ↦ t
  | inr o ↦ absurd (cc)
]

-- what may stand after a list that closes so
abbrev pub Ends : Closing → List Word → Type 0
Ends (by f) rest = Unit {0}
Ends at_end rest = rest ≡ []

pub on_closing_ok : {A : Type 0} (c : Closing) (other_way : Read A) (take : Reader A) (ts : List Word) (y : A × List Word) → on_closing c other_way take ts ≡ Some y →
    ((us : List Word) × (ts ≡ closes c us) × (take us ≡ Some y) × Ends c us) ⊎ (other_way ≡ Some y)
on_closing_ok (by f) other_way take ts y e = elim (on_ok f other_way take ts y e) [
  | inl t ↦ inl (t.0, t.1, t.2, tt)
  | inr o ↦ inr o
]
on_closing_ok at_end other_way take [] y e = inl ([], refl, e, refl)
on_closing_ok at_end other_way take (w ∷ ts) y e = inr e
