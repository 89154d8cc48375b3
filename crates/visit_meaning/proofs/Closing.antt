-- Behind a close message nothing is answered.
use Rattle.std.proofs.Common.{◌≡◌, ◌∙◌, refl, ap, ℕ, List, [], ◌∷◌, ◌++◌, Option, Some}
use Rattle.messages.specs.declared.message.Message.{Message}
use Rattle.messages.specs.declared.message.Message.TheVariants.{Close}
use Rattle.py_tree.specs.Trees.{Cell}
use Rattle.visit_meaning.specs.Answer.{Answered, State, Before, On, Ended, Part, answer, nothing_more, parts_from, state_after}

closes : (nb : List Cell) (budget : ℕ) (state : State) → answer nb budget state (Some Close) ≡ nothing_more
closes nb budget Before = refl
closes nb budget (On ui) = refl
closes nb budget Ended = refl

no_parts : (nb : List Cell) (budget : ℕ) (ms : List (Option Message)) → parts_from nb budget Ended ms ≡ []
no_parts nb budget [] = refl
no_parts nb budget (m ∷ ms) = no_parts nb budget ms

stays_ended : (nb : List Cell) (budget : ℕ) (ms : List (Option Message)) → state_after nb budget Ended ms ≡ Ended
stays_ended nb budget [] = refl
stays_ended nb budget (m ∷ ms) = stays_ended nb budget ms

-- a message and those behind it, by its answer
abbrev parts_by : List Cell → ℕ → List (Option Message) → Answered → List Part
parts_by nb budget ms a = a.parts ++ parts_from nb budget a.state ms

abbrev state_by : List Cell → ℕ → List (Option Message) → Answered → State
state_by nb budget ms a = state_after nb budget a.state ms

pub parts_up_to : (nb : List Cell) (budget : ℕ) (state : State) (ms more : List (Option Message))
    → parts_from nb budget state (ms ++ Some Close ∷ more) ≡ parts_from nb budget state ms
parts_up_to nb budget state [] more = ap (parts_by nb budget more) (closes nb budget state) ∙ no_parts nb budget more
parts_up_to nb budget state (m ∷ ms) more =
    ap (λ parts. (answer nb budget state m).parts ++ parts) (parts_up_to nb budget (answer nb budget state m).state ms more)

pub ends_there : (nb : List Cell) (budget : ℕ) (state : State) (ms more : List (Option Message))
    → state_after nb budget state (ms ++ Some Close ∷ more) ≡ Ended
ends_there nb budget state [] more = ap (state_by nb budget more) (closes nb budget state) ∙ stays_ended nb budget more
ends_there nb budget state (m ∷ ms) more = ends_there nb budget (answer nb budget state m).state ms more
