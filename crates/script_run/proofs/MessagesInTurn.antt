-- Messages of visitors one after the other, and the parts of their answers.
use Rattle.std.proofs.Common.{◌≡◌, ◌∙◌, inl, inr, refl, sym, ap, ℕ, ◌+◌, Bool, true, false, not, List, [], ◌∷◌, ◌++◌, append_assoc, Option, Some, None}
use Rattle.std.specs.Prelude.{flat_map}
use Rattle.std.proofs.lemmas.Bool.{and_parts}
use Rattle.std.proofs.lemmas.List.{map-append}
use Rattle.std.proofs.lemmas.List.Sums.{sum_by-append, sum_by-cons}
use Rattle.messages.specs.declared.message.Message.{Message}
use Rattle.messages.specs.declared.message.Message.TheVariants.{Open, Set, Close}
use Rattle.messages.specs.declared.message.SetItem.{SetItem}
use Rattle.message_meaning.specs.Sent.{AreReceived}
use Rattle.program_meaning.proofs.ScriptTexts.{one_received}
use Rattle.program_meaning.specs.Scripts.{Stay, Script, NoneCloses, LastCloses, InTurn, is_close, messages_of, script_parts, script_work}
use Rattle.py_tree.specs.Trees.{Cell}
use Rattle.py_value.specs.Maps.{Map}
use Rattle.py_value.specs.declared.types.Value.{Value}
use Rattle.visit_meaning.specs.Answer.{Before, Ended, On, Part, State, answer, answer_by, cost_of_parts, first_unfit, first_unknown, frames_in, parts_from, solo, state_after, values_sent, work}
use Rattle.visit_meaning.specs.Whole.{whole}

-- ---- visitors in turn

-- the state of the visitor who sends the next message: the same one, or a new one where the last one has closed
abbrev pub turned : State → State
turned Ended = Before
turned Before = Before
turned (On ui) = On ui

-- the parts of the answers to messages, from a state, where a new visitor comes behind each close message; and the state behind them
abbrev pub turn_parts : List Cell → ℕ → State → List (Option Message) → List Part
turn_parts nb budget s [] = []
turn_parts nb budget s (m ∷ ms) = let a = answer nb budget s m in a.parts ++ turn_parts nb budget (turned a.state) ms

abbrev pub turn_state : List Cell → ℕ → State → List (Option Message) → State
turn_state nb budget s [] = s
turn_state nb budget s (m ∷ ms) = turn_state nb budget (turned (answer nb budget s m).state) ms

pub parts_append : (nb : List Cell) (budget : ℕ) (s : State) (ks ms : List (Option Message))
    → turn_parts nb budget s (ks ++ ms) ≡ turn_parts nb budget s ks ++ turn_parts nb budget (turn_state nb budget s ks) ms
parts_append nb budget s [] ms = refl
parts_append nb budget s (k ∷ ks) ms =
    let a = answer nb budget s k in
    ap (λ ps. a.parts ++ ps) (parts_append nb budget (turned a.state) ks ms)
    ∙ sym (append_assoc a.parts (turn_parts nb budget (turned a.state) ks) (turn_parts nb budget (turn_state nb budget (turned a.state) ks) ms))

pub state_append : (nb : List Cell) (budget : ℕ) (s : State) (ks ms : List (Option Message))
    → turn_state nb budget s (ks ++ ms) ≡ turn_state nb budget (turn_state nb budget s ks) ms
state_append nb budget s [] ms = refl
state_append nb budget s (k ∷ ks) ms = state_append nb budget (turned (answer nb budget s k).state) ks ms

-- ---- the parts of a script

abbrev IsOver : State → Type 0
IsOver s = s ≡ Ended

set_stays : (nb : List Cell) (budget : ℕ) (ui sets : Map Value) (unknown unfit : Option SetItem)
    → IsOver (answer_by nb budget (whole nb budget ui).env ui sets unknown unfit).state → ⊥
set_stays nb budget ui sets (Some i) unfit h = absurd (cc)
set_stays nb budget ui sets None (Some i) h = absurd (cc)
set_stays nb budget ui sets None None h = absurd (cc)

-- only a close message ends a stay
pub stays : (nb : List Cell) (budget : ℕ) (s : State) (m : Option Message) → (IsOver s → ⊥) → is_close m ≡ false → IsOver (answer nb budget s m).state → ⊥
stays nb budget Ended m on other h = absurd (on refl)
stays nb budget Before None on other h = absurd (cc)
stays nb budget Before (Some Open) on other h = absurd (cc)
stays nb budget Before (Some (Set items)) on other h = absurd (cc)
stays nb budget Before (Some Close) on other h = absurd (cc)
stays nb budget (On ui) None on other h = absurd (cc)
stays nb budget (On ui) (Some Open) on other h = absurd (cc)
stays nb budget (On ui) (Some (Set items)) on other h =
    set_stays nb budget ui (values_sent items) (first_unknown (whole nb budget ui).env items) (first_unfit (whole nb budget ui).env items) h
stays nb budget (On ui) (Some Close) on other h = absurd (cc)

pub same_visitor : (s : State) → (IsOver s → ⊥) → turned s ≡ s
same_visitor Ended on = absurd (on refl)
same_visitor Before on = refl
same_visitor (On ui) on = refl

other_message : (closed : Bool) → not closed ≡ true → closed ≡ false
other_message true h = absurd (cc)
other_message false h = refl

-- no close message is among the first messages
open_parts : (nb : List Cell) (budget : ℕ) (s : State) (ms : Stay) (more : List (Option Message)) → (IsOver s → ⊥) → NoneCloses ms
    → turn_parts nb budget s (ms ++ more) ≡ parts_from nb budget s ms ++ turn_parts nb budget (state_after nb budget s ms) more
open_parts nb budget s [] more on none = refl
open_parts nb budget s (m ∷ ms) more on none =
    let a = answer nb budget s m in
    let parts = and_parts _ _ none in
    let after = stays nb budget s m on (other_message (is_close m) parts.0) in
    ap (λ t. a.parts ++ turn_parts nb budget t (ms ++ more)) (same_visitor a.state after)
    ∙ ap (λ ps. a.parts ++ ps) (open_parts nb budget a.state ms more after parts.1)
    ∙ sym (append_assoc a.parts (parts_from nb budget a.state ms) (turn_parts nb budget (state_after nb budget a.state ms) more))

-- a close message has no answer, and a new visitor comes behind it
close_parts : (nb : List Cell) (budget : ℕ) (s : State) (more : List (Option Message))
    → turn_parts nb budget s (Some Close ∷ more) ≡ turn_parts nb budget Before more
close_parts nb budget Ended more = refl
close_parts nb budget Before more = refl
close_parts nb budget (On ui) more = refl

parts_to_close : (nb : List Cell) (budget : ℕ) (s : State) (ms : Stay) → parts_from nb budget s (ms ++ Some Close ∷ []) ≡ parts_from nb budget s ms
parts_to_close nb budget Ended [] = refl
parts_to_close nb budget Before [] = refl
parts_to_close nb budget (On ui) [] = refl
parts_to_close nb budget s (m ∷ ms) = let a = answer nb budget s m in ap (λ ps. a.parts ++ ps) (parts_to_close nb budget a.state ms)

closed_parts : (nb : List Cell) (budget : ℕ) (ms : Stay) (more : List (Option Message)) → LastCloses ms
    → turn_parts nb budget Before (ms ++ more) ≡ parts_from nb budget Before ms ++ turn_parts nb budget Before more
closed_parts nb budget ms more (before, none, is) =
    ap (λ (l : Stay). turn_parts nb budget Before (l ++ more)) is
    ∙ ap (turn_parts nb budget Before) (append_assoc before (Some Close ∷ []) more)
    ∙ open_parts nb budget Before before (Some Close ∷ more) (λ h. absurd (cc)) none
    ∙ ap (λ ps. parts_from nb budget Before before ++ ps) (close_parts nb budget (state_after nb budget Before before) more)
    ∙ ap (λ ps. ps ++ turn_parts nb budget Before more) (sym (ap (parts_from nb budget Before) is ∙ parts_to_close nb budget Before before))

pub script_turns : (nb : List Cell) (budget : ℕ) (s : Script) → InTurn s → turn_parts nb budget Before (messages_of s) ≡ script_parts nb budget s
script_turns nb budget [] turns = refl
script_turns nb budget (ms ∷ []) (inl none) = open_parts nb budget Before ms [] (λ h. absurd (cc)) none
script_turns nb budget (ms ∷ []) (inr last) = closed_parts nb budget ms [] last
script_turns nb budget (ms ∷ next ∷ more) turns =
    closed_parts nb budget ms (messages_of (next ∷ more)) turns.0
    ∙ ap (λ ps. parts_from nb budget Before ms ++ ps) (script_turns nb budget (next ∷ more) turns.1)

-- their frames are those of each visitor alone
pub script_frames : (nb : List Cell) (budget : ℕ) (s : Script) → frames_in (script_parts nb budget s) ≡ flat_map (solo nb budget) s
script_frames nb budget [] = refl
script_frames nb budget (ms ∷ s) =
    map-append (λ (p : Part). p.frame) (parts_from nb budget Before ms) (script_parts nb budget s)
    ∙ ap (λ fs. solo nb budget ms ++ fs) (script_frames nb budget s)

-- and their costs are the work for each
pub script_costs : (nb : List Cell) (budget : ℕ) (s : Script) → cost_of_parts (script_parts nb budget s) ≡ script_work nb budget s
script_costs nb budget [] = refl
script_costs nb budget (ms ∷ s) =
    sum_by-append (λ (p : Part). p.cost) (parts_from nb budget Before ms) (script_parts nb budget s)
    ∙ ap (λ n. work nb budget ms + n) (script_costs nb budget s)
    ∙ sym (sum_by-cons (work nb budget) ms s)

-- ---- what bytes are

-- bytes are the same messages each time, and those of the first bytes come first
pub messages_begin : (done left : List (List ℕ)) (ks ms : List (Option Message)) → AreReceived done ks → AreReceived (done ++ left) ms
    → (rest : List (Option Message)) × (ms ≡ ks ++ rest)
messages_begin [] left [] ms a b = (ms, refl)
messages_begin [] left (k ∷ ks) ms a b = absurd a
messages_begin (t ∷ done) left [] ms a b = absurd a
messages_begin (t ∷ done) left (k ∷ ks) [] a b = absurd b
messages_begin (t ∷ done) left (k ∷ ks) (m ∷ ms) a b =
    let rest = messages_begin done left ks ms a.1 b.1 in
    (rest.0, ap (λ (x : Option Message). x ∷ ms) (one_received t m k b.0 a.0) ∙ ap (λ (xs : Stay). k ∷ xs) rest.1)

pub same_messages : (sent : List (List ℕ)) (ks ms : List (Option Message)) → AreReceived sent ks → AreReceived sent ms → ks ≡ ms
same_messages [] [] [] a b = refl
same_messages [] [] (m ∷ ms) a b = absurd b
same_messages [] (k ∷ ks) ms a b = absurd a
same_messages (t ∷ sent) [] ms a b = absurd a
same_messages (t ∷ sent) (k ∷ ks) [] a b = absurd b
same_messages (t ∷ sent) (k ∷ ks) (m ∷ ms) a b =
    ap (λ (x : Option Message). x ∷ ks) (one_received t k m a.0 b.0) ∙ ap (λ (xs : Stay). m ∷ xs) (same_messages sent ks ms a.1 b.1)
