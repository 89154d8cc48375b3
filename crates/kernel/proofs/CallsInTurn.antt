-- Calls, and further calls behind them.
use Rattle.std.proofs.Common.{◌≡◌, refl, ap, subst, ℕ, List, [], ◌∷◌, ◌++◌}
use Rattle.kernel.specs.Visit.{Visit}
use Rattle.kernel.specs.Calls.{Call, Deliver, Step, Leads, given_by, taken_by}
use Rattle.kernel.specs.declared.answers.Delivered.TheVariants as delivered
use Rattle.kernel.specs.declared.answers.Stepped.TheVariants as stepped

pub leads_append : (xs ys : List Call) (v w x : Visit) (a b c : ℕ) → Leads xs v w a b → Leads ys w x b c → Leads (xs ++ ys) v x a c
leads_append [] ys v w x a b c led next =
    subst (λ n. Leads ys v x n c) led.1 (subst (λ z. Leads ys z x b c) led.0 next)
leads_append (Deliver bytes answer ∷ xs) ys v w x a b c led next = (led.0, led.1, leads_append xs ys led.0 w x a b c led.2 next)
leads_append (Step answer ∷ xs) ys v w x a b c led next = (led.0, led.1, led.2, leads_append xs ys led.0 w x led.1 b c led.3 next)

pub taken_append : (xs ys : List Call) → taken_by (xs ++ ys) ≡ taken_by xs ++ taken_by ys
taken_append [] ys = refl
taken_append (Deliver bytes (delivered.Busy pending) ∷ xs) ys = taken_append xs ys
taken_append (Deliver bytes delivered.Taken ∷ xs) ys = ap (λ ts. bytes ∷ ts) (taken_append xs ys)
taken_append (Deliver bytes delivered.Closed ∷ xs) ys = ap (λ ts. bytes ∷ ts) (taken_append xs ys)
taken_append (Step answer ∷ xs) ys = taken_append xs ys

pub given_append : (xs ys : List Call) → given_by (xs ++ ys) ≡ given_by xs ++ given_by ys
given_append [] ys = refl
given_append (Deliver bytes answer ∷ xs) ys = given_append xs ys
given_append (Step stepped.Idle ∷ xs) ys = given_append xs ys
given_append (Step (stepped.Frame f) ∷ xs) ys = ap (λ fs. f ∷ fs) (given_append xs ys)
