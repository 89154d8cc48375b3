-- Calls that follow one another give the frames of a visitor alone, from any visit on.
use Rattle.std.proofs.Common.{◌≡◌, ◌∙◌, refl, sym, ap, subst, ℕ, ◌+◌, List, [], ◌∷◌, ◌++◌, Option, Some, inl, inr, arith}
use Rattle.std.proofs.lemmas.List.{append-nil, map-append}
use Rattle.std.proofs.lemmas.List.Sums.{sum_by-append, sum_by-cons}
use Rattle.messages.specs.declared.message.Message.{Message}
use Rattle.messages.specs.declared.message.Message.TheVariants.{Close}
use Rattle.message_meaning.specs.Messages.{IsReceived}
use Rattle.visit_meaning.specs.Answer.{State, Before, On, Ended, Answered, Part, answer, cost_of_parts, frames_in, nothing_more, parts_from, state_after}
use Rattle.frames.specs.declared.frame.Frame.{Frame}
use Rattle.py_tree.specs.Trees.{Cell}
use Rattle.py_tree.specs.View.{view_cells}
use Rattle.py_tree.specs.declared.tree.CellCode.{CellCode}
use Rattle.kernel.specs.Visit.{Visit, Gives, IsClosed, Takes, begun, closed}
use Rattle.kernel.specs.Calls.{Call, Deliver, Step, GoesOn, IsSolo, Leads, given_by, newest_after, parts_for, taken_by}
use Rattle.kernel.specs.declared.answers.Delivered.TheVariants as delivered
use Rattle.kernel.specs.declared.answers.Stepped.TheVariants as stepped

-- where nothing is called
at_end : (v : Visit) (count : ℕ) → GoesOn v [] [] v count count
at_end v count = record {
  messages = [];
  are = tt;
  parts = [];
  frames = refl;
  whole = sym (append-nil v.pending);
  steps = omega arith;
  newest = refl;
  state = refl;
  nb = refl;
  budget = refl;
}

-- The answer to a message is to come, and the state is the one behind it.
record IsAnswered (m : Option Message) (before after : Visit) : Type 0 where
  state : after.state ≡ (answer (view_cells before.nb) before.budget before.state m).state
  pending : after.pending ≡ (answer (view_cells before.nb) before.budget before.state m).parts
  newest : after.newest ≡ before.newest
  nb : after.nb ≡ before.nb
  budget : after.budget ≡ before.budget

taken : (m : Option Message) (v w : Visit) → Takes m v w → IsAnswered m v w
taken m v w takes = record { state = takes.state; pending = takes.pending; newest = takes.newest; nb = takes.nb; budget = takes.budget }

-- a close message has no answer, and neither has any after it
at_close : (nb : List Cell) (budget : ℕ) (state : State) → answer nb budget state (Some Close) ≡ nothing_more
at_close nb budget Before = refl
at_close nb budget (On ui) = refl
at_close nb budget Ended = refl

unanswered : (nb : List Cell) (budget : ℕ) (state : State) (m : Option Message) → IsClosed state m → answer nb budget state m ≡ nothing_more
unanswered nb budget state m (inl ended) = subst (λ (s : State). answer nb budget s m ≡ nothing_more) (sym ended) refl
unanswered nb budget state m (inr close) = subst (λ (k : Option Message). answer nb budget state k ≡ nothing_more) (sym close) (at_close nb budget state)

ended : (m : Option Message) (v w : Visit) → v.pending ≡ [] → IsClosed v.state m → w ≡ closed v → IsAnswered m v w
ended m v w none h is =
    let nothing : answer (view_cells v.nb) v.budget v.state m ≡ nothing_more = unanswered (view_cells v.nb) v.budget v.state m h in
    subst (IsAnswered m v) (sym is) (record {
      state = sym (ap (λ (a : Answered). a.state) nothing);
      pending = none ∙ sym (ap (λ (a : Answered). a.parts) nothing);
      newest = refl;
      nb = refl;
      budget = refl;
    })

-- a message is taken first, or closes the visit
after_message : (bytes : List ℕ) (m : Option Message) (sent : List (List ℕ)) (given : List Frame) (v w after : Visit) (count count_after : ℕ)
    → v.pending ≡ [] → IsReceived bytes m → IsAnswered m v w → GoesOn w sent given after count count_after
    → GoesOn v (bytes ∷ sent) given after count count_after
after_message bytes m sent given v w after count count_after none is answered on =
    let ms : List (Option Message) = on.messages in
    let answers : parts_for w ms ≡ parts_from (view_cells v.nb) v.budget v.state (m ∷ ms) =
    (λ i. answered.pending i ++ parts_from (view_cells (answered.nb i)) (answered.budget i) (answered.state i) ms) in
    record {
      messages = m ∷ ms;
      are = (is, on.are);
      parts = on.parts;
      frames = on.frames;
      whole = on.whole ∙ answers ∙ sym (ap (λ ps. ps ++ parts_from (view_cells v.nb) v.budget v.state (m ∷ ms)) none);
      steps = on.steps;
      newest = on.newest ∙ ap (λ kept. newest_after kept given) answered.newest;
      state = on.state ∙ (λ i. state_after (view_cells (answered.nb i)) (answered.budget i) (answered.state i) ms);
      nb = on.nb ∙ answered.nb;
      budget = on.budget ∙ answered.budget;
    }

-- a frame is given first
after_given : (f : Frame) (sent : List (List ℕ)) (given : List Frame) (v w after : Visit) (count n count_after : ℕ)
    → Gives f v w count n → GoesOn w sent given after n count_after → GoesOn v sent (f ∷ given) after count count_after
after_given f sent given v w after count n count_after gives on =
    let ms : List (Option Message) = on.messages in
    let p : Part = record { frame = f; cost = gives.cost } in
    let costs : cost_of_parts (p ∷ on.parts) ≡ gives.cost + cost_of_parts on.parts = sum_by-cons (λ (p : Part). p.cost) p on.parts in
    let counted = gives.steps in
    let steps = on.steps in
    record {
      messages = ms;
      are = on.are;
      parts = p ∷ on.parts;
      frames = ap (λ fs. f ∷ fs) on.frames;
      whole = ap (λ ps. p ∷ ps) on.whole
          ∙ (λ i. sym gives.pending i ++ parts_from (view_cells (gives.nb i)) (gives.budget i) (gives.state i) ms);
      steps = omega arith;
      newest = on.newest ∙ ap (λ kept. newest_after kept given) gives.newest;
      state = on.state ∙ (λ i. state_after (view_cells (gives.nb i)) (gives.budget i) (gives.state i) ms);
      nb = on.nb ∙ gives.nb;
      budget = on.budget ∙ gives.budget;
    }

-- whatever calls lead from one visit to another
pub goes_on : (calls : List Call) (v after : Visit) (count count_after : ℕ) → Leads calls v after count count_after
    → GoesOn v (taken_by calls) (given_by calls) after count count_after
goes_on [] v after count count_after led =
    subst (λ after. GoesOn v [] [] after count count_after) (sym led.0) (subst (GoesOn v [] [] v count) (sym led.1) (at_end v count))
goes_on (Deliver bytes (delivered.Busy pending) ∷ calls) v after count count_after led =
    goes_on calls v after count count_after (subst (λ w. Leads calls w after count count_after) led.1.2 led.2)
goes_on (Deliver bytes delivered.Taken ∷ calls) v after count count_after led =
    let m : Option Message = led.1.1.0 in
    after_message bytes m (taken_by calls) (given_by calls) v led.0 after count count_after led.1.0 led.1.1.1
    (taken m v led.0 led.1.1.3) (goes_on calls led.0 after count count_after led.2)
goes_on (Deliver bytes delivered.Closed ∷ calls) v after count count_after led =
    let m : Option Message = led.1.1.0 in
    after_message bytes m (taken_by calls) (given_by calls) v led.0 after count count_after led.1.0 led.1.1.1
    (ended m v led.0 led.1.0 led.1.1.2 led.1.1.3) (goes_on calls led.0 after count count_after led.2)
goes_on (Step stepped.Idle ∷ calls) v after count count_after led =
    goes_on calls v after count count_after
    (subst (λ w. Leads calls w after count count_after) led.2.1 (subst (λ n. Leads calls led.0 after n count_after) led.2.2 led.3))
goes_on (Step (stepped.Frame f) ∷ calls) v after count count_after led =
    after_given f (taken_by calls) (given_by calls) v led.0 after count led.1 count_after led.2
    (goes_on calls led.0 after led.1 count_after led.3)

-- from the beginning of a visit on
pub every_visit : (nb : List CellCode) (budget : ℕ) (calls : List Call) (after : Visit) (count count_after : ℕ)
    → Leads calls (begun nb budget) after count count_after → IsSolo nb budget (taken_by calls) (given_by calls) after count count_after
every_visit nb budget calls after count count_after led =
    let on = goes_on calls (begun nb budget) after count count_after led in
    let all : cost_of_parts (on.parts ++ after.pending) ≡ cost_of_parts on.parts + cost_of_parts after.pending =
    sum_by-append (λ (p : Part). p.cost) on.parts after.pending in
    let work = ap cost_of_parts on.whole in
    let steps = on.steps in
    record {
      messages = on.messages;
      are = on.are;
      frames = ap (λ fs. fs ++ frames_in after.pending) on.frames ∙ sym (map-append (λ (p : Part). p.frame) on.parts after.pending)
          ∙ ap frames_in on.whole;
      newest = on.newest;
      state = on.state;
      steps = omega arith;
    }
