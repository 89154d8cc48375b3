-- What is repeated as often as it begins: what reading gives is spelled so.
use Rattle.std.proofs.Common.{◌≡◌, ℕ, zero, suc, inl, inr, List, [], ◌∷◌, ◌++◌, Some, sym, ap, ◌∙◌, subst, append_assoc, append-nil}
use Rattle.py_tree.specs.Expressions.{Tree}
use Rattle.syntax_reading.specs.Words.{Word}
use Rattle.syntax_reading.specs.Readers.{Reader, ◌>>=◌}
use Rattle.syntax_reading.specs.Items.{each}
use Rattle.syntax_reading.proofs.Spelling.{spell}
use Rattle.syntax_reading.proofs.Choices.{bind_ok, choose_ok}
use Rattle.syntax_reading.proofs.ItemsFound.{AllGood, IsItem}

module _ {B : Type 0} (begin : B → List Word → List Word) where
  abbrev pub spell_each : List (B × Tree) → List Word → List Word
  spell_each [] rest = rest
  spell_each (l ∷ ls) rest = begin l.0 (spell l.1 (spell_each ls rest))

-- those that followed those found
pub record Repeats {B : Type 0} (begin : B → List Word → List Word) (Good : Tree → Type 0) (found : List (B × Tree)) (ts : List Word) (a : List (B × Tree)) (rest : List Word) : Type 0 where
  pub new : List (B × Tree)
  pub all : a ≡ found ++ new
  pub good : AllGood (λ l. Good l.1) new
  pub spelled : ts ≡ spell_each begin new rest

module _ {B : Type 0} (start : Reader B) (inner : Reader Tree) (begin : B → List Word → List Word) (Good : Tree → Type 0)
    (began : (ts : List Word) (p : B × List Word) → start ts ≡ Some p → ts ≡ begin p.0 p.1) (sound : IsItem inner spell Good) where
  pub each_found : (n : ℕ) (found : List (B × Tree)) (ts : List Word) (y : List (B × Tree) × List Word) → each start inner n found ts ≡ Some y → Repeats begin Good found ts y.0 y.1
  unfolding each
  each_found zero found ts y e = absurd (cc)
  each_found (suc n) found ts y e =
      let step = λ (b : B) (us : List Word). inner us >>= λ t. each start inner n (found ++ (b, t) ∷ []) in
      elim (choose_ok (Some (found, ts)) step (start ts) y e) [
        | inl c ↦ (
            let b = c.0.0 in
            let q = bind_ok (inner c.0.1) (λ t. each start inner n (found ++ (b, t) ∷ [])) y c.2 in
            let t = q.0.0 in
            let s = sound c.0.1 q.0 q.1 in
            let m = each_found n (found ++ (b, t) ∷ []) q.0.1 y q.2 in
            record {
              new = (b, t) ∷ m.new;
              all = m.all ∙ append_assoc found ((b, t) ∷ []) m.new;
              good = (s.1, m.good);
              spelled = began ts c.0 c.1 ∙ ap (begin b) (s.0 ∙ ap (spell t) m.spelled);
            })
        | inr o ↦ (
            let last = o.1 in
            let is : found ≡ y.0 = cc (last) in
            let after : ts ≡ y.1 = cc (last) in
            record { new = []; all = sym is ∙ sym (append-nil found); good = tt; spelled = after })
      ]

  -- all of them
  pub each_all : (n : ℕ) (ts : List Word) (y : List (B × Tree) × List Word) → each start inner n [] ts ≡ Some y → (ts ≡ spell_each begin y.0 y.1) × AllGood (λ l. Good l.1) y.0
  each_all n ts y e =
      let m = each_found n [] ts y e in
      (m.spelled ∙ ap (λ ls. spell_each begin ls y.1) (sym m.all), subst (AllGood (λ l. Good l.1)) (sym m.all) m.good)
