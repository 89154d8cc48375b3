-- Only a close message ends a visit.
use Rattle.std.proofs.Common.{◌≡◌, refl, ap, ℕ, Bool, true, false, List, [], ◌∷◌, Option, Some, None}
use Rattle.messages.specs.declared.message.Message.{Message}
use Rattle.messages.specs.declared.message.Message.TheVariants.{Open, Set, Close}
use Rattle.messages.specs.declared.message.SetItem.{SetItem}
use Rattle.py_tree.specs.Trees.{Cell}
use Rattle.py_value.specs.Maps.{Map}
use Rattle.py_value.specs.declared.types.Value.{Value}
use Rattle.run_meaning.specs.Meaning.{Env}
use Rattle.visit_meaning.specs.Answer.{State, Before, On, Ended, answer, answer_by, first_unfit, first_unknown, state_after, values_sent}
use Rattle.visit_meaning.specs.Whole.{whole}

-- none of the messages is a close message
abbrev pub HasNoClose : List (Option Message) → Type 0
HasNoClose [] = Unit {0}
HasNoClose (m ∷ ms) = (m ≡ Some Close → ⊥) × HasNoClose ms

abbrev is_over : State → Bool
is_over Ended = true
is_over state = false

on_by : (nb : List Cell) (budget : ℕ) (env : Env) (ui sets : Map Value) (unknown unfit : Option SetItem)
    → is_over (answer_by nb budget env ui sets unknown unfit).state ≡ false
on_by nb budget env ui sets (Some i) unfit = refl
on_by nb budget env ui sets None (Some i) = refl
on_by nb budget env ui sets None None = refl

goes_on : (nb : List Cell) (budget : ℕ) (state : State) (m : Option Message) → is_over state ≡ false → (m ≡ Some Close → ⊥)
    → is_over (answer nb budget state m).state ≡ false
goes_on nb budget Ended m on other = absurd (cc)
goes_on nb budget Before None on other = refl
goes_on nb budget Before (Some Open) on other = refl
goes_on nb budget Before (Some (Set items)) on other = refl
goes_on nb budget Before (Some Close) on other = absurd (other refl)
goes_on nb budget (On ui) None on other = refl
goes_on nb budget (On ui) (Some Open) on other = refl
goes_on nb budget (On ui) (Some (Set items)) on other =
    let env : Env = (whole nb budget ui).env in
    on_by nb budget env ui (values_sent items) (first_unknown env items) (first_unfit env items)
goes_on nb budget (On ui) (Some Close) on other = absurd (other refl)

on_after : (nb : List Cell) (budget : ℕ) (state : State) (ms : List (Option Message)) → HasNoClose ms → is_over state ≡ false
    → is_over (state_after nb budget state ms) ≡ false
on_after nb budget state [] others on = on
on_after nb budget state (m ∷ ms) others on =
    on_after nb budget (answer nb budget state m).state ms others.1 (goes_on nb budget state m on others.0)

-- From the beginning on messages of which none is a close message don't end a visit.
pub not_ended : (nb : List Cell) (budget : ℕ) (ms : List (Option Message)) → HasNoClose ms → state_after nb budget Before ms ≡ Ended → ⊥
not_ended nb budget ms others over =
    let on = on_after nb budget Before ms others refl in
    let closed = ap is_over over in
    absurd (cc)
