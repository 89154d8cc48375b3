-- One part of a run after another, under a budget.
use Rattle.std.proofs.Common.{◌≡◌, ℕ, List, [], refl, sym, ap, ◌∙◌, subst}
use Rattle.std.specs.Prelude.{Result, Err, IsErrAnd}
use Rattle.std.proofs.lemmas.Result.{err_from_is_err_and}
use Rattle.run_meaning.specs.Trace.{Trace, Gives, Faults, Charges, Prints, ◌>>=◌}
use Rattle.run_meaning.specs.Spending.{Spending, Got, Failed, Spent, then_spend, pay, show, spend}
use Rattle.py_eval.specs.declared.meter.Halt.{Halt}
use Rattle.py_eval.specs.declared.meter.Halt.TheVariants as halt
use Rattle.py_eval.specs.Meets.{Meets, Halts, unit}

-- one after the other, and then another
then-then : {A B C : Type 0} (s : Spending A) (f : A → ℕ → List (List ℕ) → Spending B) (g : B → ℕ → List (List ℕ) → Spending C) →
    then_spend (then_spend s f) g ≡ then_spend s (λ a l c. then_spend (f a l c) g)
then-then (Got a l c) f g = refl
then-then (Failed k n l c) f g = refl
then-then (Spent n l c) f g = refl

pub spend-bind : {A B : Type 0} (t : Trace A) (f : A → Trace B) (l : ℕ) (c : List (List ℕ)) → spend (t >>= f) l c ≡ then_spend (spend t l c) (λ a. spend (f a))
spend-bind (Gives a) f l c = refl
spend-bind (Faults k n) f l c = refl
spend-bind (Charges m n t) f l c =
    (λ i. then_spend (pay m n l c) (λ _ l' c'. spend-bind t f l' c' i)) ∙ sym (then-then (pay m n l c) (λ _. spend t) (λ a. spend (f a)))
spend-bind (Prints x t) f l c =
    (λ i. then_spend (show x l c) (λ _ l' c'. spend-bind t f l' c' i)) ∙ sym (then-then (show x l c) (λ _. spend t) (λ a. spend (f a)))

-- a part that stops ends the whole
halt_then : {A B : Type 0} (e : Halt) (m : ℕ) (s : Spending A) (g : A → ℕ → List (List ℕ) → Spending B) → Halts e m s → Halts e m (then_spend s g)
halt_then halt.Memory m s g h = tt
halt_then (halt.Fault k n) m s g h = ap (λ s. then_spend s g) h
halt_then (halt.Spent n) m s g h = ap (λ s. then_spend s g) h

handed : {Y A : Type 0} (view : Y → A) (r : Result Y Halt) (e : Halt) (m : ℕ) (s : Spending A) → IsErrAnd r (λ y. y ≡ e) → Halts e m s → Meets view r m s
handed view r e m s h k =
    let p = err_from_is_err_and r h in
    let all : r ≡ Err e = p.1 ∙ ap Err p.2 in
    subst (λ r. Meets view r m s) (sym all) k

-- the first part stops
pub exit : {Y A B : Type 0} (view : Y → B) (r : Result Y Halt) (e : Halt) (m : ℕ) (t : Trace A) (f : A → Trace B) (l : ℕ) →
    IsErrAnd r (λ y. y ≡ e) → Halts e m (spend t l []) → Meets view r m (spend (t >>= f) l [])
exit view r e m t f l h k = subst (Meets view r m) (sym (spend-bind t f l [])) (handed view r e m _ h (halt_then e m (spend t l []) (λ a. spend (f a)) k))

-- the first part gives something
pub onward : {A B : Type 0} (t : Trace A) (f : A → Trace B) (a : A) (l m : ℕ) → spend t l [] ≡ Got a m [] → spend (t >>= f) l [] ≡ spend (f a) m []
onward t f a l m h = spend-bind t f l [] ∙ ap (λ s. then_spend s (λ a. spend (f a))) h

-- a charge that fits
pub paid : {A : Type 0} (t : Trace A) (n line l m : ℕ) → pay n line l [] ≡ Got (unit n) m [] → spend (Charges n line t) l [] ≡ spend t m []
paid t n line l m h = ap (λ s. then_spend s (λ _. spend t)) h

-- a charge that doesn't fit
pub unpaid : {Y A : Type 0} (view : Y → A) (r : Result Y Halt) (e : Halt) (m n line : ℕ) (t : Trace A) (l : ℕ) →
    IsErrAnd r (λ y. y ≡ e) → Halts e m (pay n line l []) → Meets view r m (spend (Charges n line t) l [])
unpaid view r e m n line t l h k = handed view r e m _ h (halt_then e m (pay n line l []) (λ _. spend t) k)
