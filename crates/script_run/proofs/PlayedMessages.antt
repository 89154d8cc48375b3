-- What visitors send, one after the other.
use Rattle.std.proofs.Common.{◌≡◌, ◌∙◌, inl, inr, refl, sym, ap, subst, ℕ, ◌+◌, ◌<◌, ◌≤◌, Bor, false, List, [], ◌∷◌, ◌++◌, length, get_or, take, drop, map, append-nil, arith, Option, Some, None}
use Rattle.std.proofs.lemmas.List.{map-append, map_more, take-append-drop, take_all}
use Rattle.messages.specs.declared.message.Message.{Message}
use Rattle.messages.specs.declared.message.Message.TheVariants.{Open, Set, Close}
use Rattle.message_meaning.specs.Messages.{IsReceived}
use Rattle.message_meaning.specs.Sent.{AreReceived}
use Rattle.program_meaning.specs.Scripts.{Script, is_close, messages_of, script_parts, script_work}
use Rattle.visit_meaning.specs.Answer.{Part, State, Before, Ended, On, answer, cost_of_parts, nothing_more}
use Rattle.py_tree.specs.Trees.{Cell}
use Rattle.py_tree.specs.View.{view_cells}
use Rattle.py_tree.specs.declared.tree.CellCode.{CellCode}
use Rattle.link_io.specs.Outside.{Took}
use Rattle.script_run.proofs.GivenFrames.{costs_append, lines_of, prefix_behind, prefix_none}
use Rattle.script_run.proofs.MessagesInTurn.{messages_begin, parts_append, same_messages, same_visitor, script_costs, script_turns, state_append, stays, turn_parts, turn_state, turned}
use Rattle.script_run.specs.Prefix.{WrotePrefix}
use Rattle.script_run.specs.Script.{AreSent}
use Rattle.kernel.specs.Visit.{Visit, begun, IsClosed, IsDelivery, Takes}
use Rattle.kernel.specs.declared.answers.Delivered.{Delivered}
use Rattle.kernel.specs.declared.answers.Delivered.TheVariants as delivered

-- ---- messages and further ones

parts_more : (nb : List Cell) (budget : ℕ) (s : State) (ms : List (Option Message)) (m : Option Message)
    → turn_parts nb budget s (ms ++ m ∷ []) ≡ turn_parts nb budget s ms ++ (answer nb budget (turn_state nb budget s ms) m).parts
parts_more nb budget s ms m =
    parts_append nb budget s ms (m ∷ [])
    ∙ ap (λ ps. turn_parts nb budget s ms ++ ps) (append-nil (answer nb budget (turn_state nb budget s ms) m).parts)

are_more : (sent : List (List ℕ)) (ms : List (Option Message)) (bytes : List ℕ) (m : Option Message) → AreReceived sent ms → IsReceived bytes m
    → AreReceived (sent ++ bytes ∷ []) (ms ++ m ∷ [])
are_more [] [] bytes m are is = (is, tt)
are_more [] (k ∷ ms) bytes m are is = absurd are
are_more (b ∷ sent) [] bytes m are is = absurd are
are_more (b ∷ sent) (k ∷ ms) bytes m are is = (are.0, are_more sent ms bytes m are.1 is)

-- a message that is taken, and one that closes a visit
record IsTaken (bytes : List ℕ) (v w : Visit) : Type 0 where
  pub message : Option Message
  pub is : IsReceived bytes message
  pub goes_on : IsClosed v.state message → ⊥
  pub takes : Takes message v w

taken_of : (bytes : List ℕ) (v w : Visit) (d : Delivered) → v.pending ≡ [] → (d ≡ delivered.Closed → ⊥) → IsDelivery bytes v w d → IsTaken bytes v w
taken_of bytes v w (delivered.Busy pending) none on does = let empty = ap length none in let some = does.0 in absurd (omega arith)
taken_of bytes v w delivered.Taken none on does = let it = does.1 in record { message = it.0; is = it.1; goes_on = it.2; takes = it.3 }
taken_of bytes v w delivered.Closed none on does = absurd (on refl)

no_close : (m : Option Message) → (m ≡ Some Close → ⊥) → is_close m ≡ false
no_close None h = refl
no_close (Some Open) h = refl
no_close (Some (Set items)) h = refl
no_close (Some Close) h = absurd (h refl)

-- ---- where visits of these messages stand

-- All parts of the answers to the messages so far are given, and their steps counted from `count_at` on.
pub record IsPlayed (nb : List CellCode) (budget : ℕ) (sent : List (List ℕ)) (count_at : ℕ) (parts : List Part) (v : Visit) (count : ℕ) : Type 0 where
  pub messages : List (Option Message)
  pub are : AreReceived sent messages
  pub given : parts ≡ turn_parts (view_cells nb) budget Before messages
  pub steps : count ≡ count_at + cost_of_parts parts
  pub state : v.state ≡ turn_state (view_cells nb) budget Before messages
  pub over : v.pending ≡ []
  pub nb_is : v.nb ≡ nb
  pub budget_is : v.budget ≡ budget

-- what the parts of an answer change, once all are given
pub record IsDrained (w : Visit) (count : ℕ) (after : Visit) (count_after : ℕ) : Type 0 where
  pub steps : count_after ≡ count + cost_of_parts w.pending
  pub over : after.pending ≡ []
  pub state : after.state ≡ w.state
  pub nb : after.nb ≡ w.nb
  pub budget : after.budget ≡ w.budget

-- the answer to the next message, by what the visit keeps
answer_at : {nb : List CellCode} {budget : ℕ} {sent : List (List ℕ)} {count_at : ℕ} {parts : List Part} {v : Visit} {count : ℕ}
    → (p : IsPlayed nb budget sent count_at parts v count) (m : Option Message)
    → answer (view_cells v.nb) v.budget v.state m ≡ answer (view_cells nb) budget (turn_state (view_cells nb) budget Before p.messages) m
answer_at p m = (λ i. answer (view_cells (p.nb_is i)) (p.budget_is i) (p.state i) m)

played_next : {nb : List CellCode} {budget : ℕ} {sent : List (List ℕ)} {count_at : ℕ} {parts : List Part} {v : Visit} {count : ℕ}
    → (bytes : List ℕ) (d : Delivered) (w after : Visit) (count_after : ℕ)
    → IsPlayed nb budget sent count_at parts v count → (d ≡ delivered.Closed → ⊥) → IsDelivery bytes v w d → IsDrained w count after count_after
    → IsPlayed nb budget (sent ++ bytes ∷ []) count_at (parts ++ w.pending) after count_after
played_next {nb = nb} {budget = budget} {sent = sent} {count_at = count_at} {parts = parts} {v = v} bytes d w after count_after p on does drained =
    let cells : List Cell = view_cells nb in
    let ms : List (Option Message) = p.messages in
    let got : IsTaken bytes v w = taken_of bytes v w d p.over on does in
    let m : Option Message = got.message in
    let at = answer_at p m in
    let goes_on = stays (view_cells v.nb) v.budget v.state m (λ e. got.goes_on (inl e)) (no_close m (λ e. got.goes_on (inr e))) in
    let costs : cost_of_parts (parts ++ w.pending) ≡ cost_of_parts parts + cost_of_parts w.pending = costs_append parts w.pending in
    let before = p.steps in
    let now = drained.steps in
    record {
      messages = ms ++ m ∷ [];
      are = are_more sent ms bytes m p.are got.is;
      given = ap (λ ps. ps ++ w.pending) p.given ∙ ap (λ ps. turn_parts cells budget Before ms ++ ps) (got.takes.pending ∙ (λ i. (at i).parts))
          ∙ sym (parts_more cells budget Before ms m);
      steps = omega arith;
      state = drained.state ∙ got.takes.state ∙ sym (same_visitor _ goes_on) ∙ (λ i. turned (at i).state) ∙ sym (state_append cells budget Before ms (m ∷ []));
      over = drained.over;
      nb_is = drained.nb ∙ got.takes.nb ∙ p.nb_is;
      budget_is = drained.budget ∙ got.takes.budget ∙ p.budget_is;
    }

-- a close message, and any behind it, has no answer
closes : (nb : List Cell) (budget : ℕ) (s : State) (m : Option Message) → IsClosed s m → answer nb budget s m ≡ nothing_more
closes nb budget s m (inl e) = ap (λ t. answer nb budget t m) e
closes nb budget Ended m (inr e) = refl
closes nb budget Before m (inr e) = ap (answer nb budget Before) e
closes nb budget (On ui) m (inr e) = ap (answer nb budget (On ui)) e

played_closed : {nb : List CellCode} {budget : ℕ} {sent : List (List ℕ)} {count_at : ℕ} {parts : List Part} {v : Visit} {count : ℕ}
    → (bytes : List ℕ) (w next : Visit) → IsPlayed nb budget sent count_at parts v count → IsDelivery bytes v w delivered.Closed → next ≡ begun nb budget
    → IsPlayed nb budget (sent ++ bytes ∷ []) count_at parts next count
played_closed {nb = nb} {budget = budget} {sent = sent} {parts = parts} {v = v} bytes w next p does e =
    let cells : List Cell = view_cells nb in
    let ms : List (Option Message) = p.messages in
    let got = does.1 in
    let m : Option Message = got.0 in
    let none : answer cells budget (turn_state cells budget Before ms) m ≡ nothing_more = sym (answer_at p m) ∙ closes (view_cells v.nb) v.budget v.state m got.2 in
    record {
      messages = ms ++ m ∷ [];
      are = are_more sent ms bytes m p.are got.1;
      given = p.given ∙ sym (append-nil (turn_parts cells budget Before ms)) ∙ sym (ap (λ a. turn_parts cells budget Before ms ++ a.parts) none)
          ∙ sym (parts_more cells budget Before ms m);
      steps = p.steps;
      state = ap (λ (x : Visit). x.state) e ∙ sym (ap (λ a. turned a.state) none) ∙ sym (state_append cells budget Before ms (m ∷ []));
      over = ap (λ (x : Visit). x.pending) e;
      nb_is = ap (λ (x : Visit). x.nb) e;
      budget_is = ap (λ (x : Visit). x.budget) e;
    }

-- ---- texts of a list, one after the other

-- what a text is to where it stands in a list
abbrev texts : List (Bor (List ℕ)) → List (List ℕ)
texts sent = map (λ (m : Bor (List ℕ)). m.now) sent

-- what is read past the end
abbrev no_text : Bor (List ℕ)
no_text = record { ref_ptr = (0, 0); now = [] }

pub played_new : (nb : List CellCode) (budget count : ℕ) (v : Visit) → v ≡ begun nb budget → IsPlayed nb budget [] count [] v count
played_new nb budget count v e = record {
  messages = [];
  are = tt;
  given = refl;
  steps = omega arith;
  state = ap (λ (w : Visit). w.state) e;
  over = ap (λ (w : Visit). w.pending) e;
  nb_is = ap (λ (w : Visit). w.nb) e;
  budget_is = ap (λ (w : Visit). w.budget) e;
}

-- the next text is taken, and all parts of its answer are given
pub played_text : {nb : List CellCode} {budget count_at : ℕ} {parts : List Part} {v : Visit} {count : ℕ}
    → (sent : List (Bor (List ℕ))) (i : ℕ) (d : Delivered) (w after : Visit) (count_after : ℕ) → i < length sent
    → IsPlayed nb budget (texts (take i sent)) count_at parts v count → (d ≡ delivered.Closed → ⊥)
    → IsDelivery (get_or sent i no_text).now v w d → IsDrained w count after count_after
    → IsPlayed nb budget (texts (take (i + 1) sent)) count_at (parts ++ w.pending) after count_after
played_text {nb = nb} {budget = budget} {count_at = count_at} {parts = parts} sent i d w after count_after within p on does drained =
    subst (λ ts. IsPlayed nb budget ts count_at (parts ++ w.pending) after count_after)
    (sym (map_more (λ (m : Bor (List ℕ)). m.now) sent i no_text within))
    (played_next (get_or sent i no_text).now d w after count_after p on does drained)

-- the next text closes the visit, and a new one begins
pub played_close : {nb : List CellCode} {budget count_at : ℕ} {parts : List Part} {v : Visit} {count : ℕ}
    → (sent : List (Bor (List ℕ))) (i : ℕ) (d : Delivered) (w next : Visit) → i < length sent
    → IsPlayed nb budget (texts (take i sent)) count_at parts v count → d ≡ delivered.Closed → IsDelivery (get_or sent i no_text).now v w d
    → next ≡ begun nb budget → IsPlayed nb budget (texts (take (i + 1) sent)) count_at parts next count
played_close {nb = nb} {budget = budget} {count_at = count_at} {parts = parts} {v = v} {count = count} sent i d w next within p closed does e =
    let bytes : List ℕ = (get_or sent i no_text).now in
    subst (λ ts. IsPlayed nb budget ts count_at parts next count)
    (sym (map_more (λ (m : Bor (List ℕ)). m.now) sent i no_text within))
    (played_closed bytes w next p (subst (IsDelivery bytes v w) closed does) e)

-- the visit once the frames to come are given
abbrev pub when_over : Visit → Visit
when_over w = record { nb = w.nb; budget = w.budget; state = w.state; pending = []; env = w.env; newest = w.newest; spoiled = w.spoiled }

pub played_answer : {nb : List CellCode} {budget count_at : ℕ} {parts : List Part} {v : Visit} {count : ℕ}
    → (sent : List (Bor (List ℕ))) (i : ℕ) (d : Delivered) (w : Visit) → i < length sent
    → IsPlayed nb budget (texts (take i sent)) count_at parts v count → (d ≡ delivered.Closed → ⊥)
    → IsDelivery (get_or sent i no_text).now v w d
    → IsPlayed nb budget (texts (take (i + 1) sent)) count_at (parts ++ w.pending) (when_over w) (count + cost_of_parts w.pending)
played_answer {count = count} sent i d w within p on does =
    played_text sent i d w (when_over w) (count + cost_of_parts w.pending) within p on does
    (record { steps = refl; over = refl; state = refl; nb = refl; budget = refl })

-- the parts of the first texts begin those of the script
pub played_begins : {nb : List CellCode} {budget count_at : ℕ} {parts : List Part} {v : Visit} {count : ℕ}
    → (sent : List (Bor (List ℕ))) (i : ℕ) → IsPlayed nb budget (texts (take i sent)) count_at parts v count
    → (script : Script) → AreSent (texts sent) script → (more : List Part) × (parts ++ more ≡ script_parts (view_cells nb) budget script)
played_begins {nb = nb} {budget = budget} sent i p script are =
    let cells : List Cell = view_cells nb in
    let now : Bor (List ℕ) → List ℕ = λ m. m.now in
    let whole : texts sent ≡ texts (take i sent) ++ texts (drop i sent) =
    ap (map now) (sym (take-append-drop i sent)) ∙ map-append now (take i sent) (drop i sent) in
    let rest = messages_begin (texts (take i sent)) (texts (drop i sent)) p.messages (messages_of script) p.are
    (subst (λ ts. AreReceived ts (messages_of script)) whole are.received) in
    let more = turn_parts cells budget (turn_state cells budget Before p.messages) rest.0 in (
      more,
      ap (λ ps. ps ++ more) p.given ∙ sym (parts_append cells budget Before p.messages rest.0) ∙ ap (turn_parts cells budget Before) (sym rest.1)
          ∙ script_turns cells budget script are.turns,
    )

-- where memory is wanting before the next text, the lines of the parts so far were written
pub played_prefix : {nb : List CellCode} {budget count_at : ℕ} {parts : List Part} {v : Visit} {count : ℕ}
    → (label : List ℕ) (before now : Option (List ℕ)) (sent : List (Bor (List ℕ))) (i : ℕ) → IsPlayed nb budget (texts (take i sent)) count_at parts v count
    → Took before now (lines_of label parts) → (script : Script) → AreSent (texts sent) script
    → WrotePrefix label (script_parts (view_cells nb) budget script) before now count_at count
played_prefix {parts = parts} label before now sent i p took script are =
    let begins = played_begins sent i p script are in
    prefix_behind parts [] begins.0 _ _ _ _ _ (ap (λ ps. ps ++ begins.0) (append-nil parts) ∙ begins.1) took p.steps (prefix_none _ _ _ _)

-- all texts
pub played_all : {nb : List CellCode} {budget count_at : ℕ} {parts : List Part} {v : Visit} {count : ℕ}
    → (sent : List (Bor (List ℕ))) (i : ℕ) → length sent ≤ i → IsPlayed nb budget (texts (take i sent)) count_at parts v count
    → (script : Script) → AreSent (texts sent) script
    → (parts ≡ script_parts (view_cells nb) budget script) × (count ≡ count_at + script_work (view_cells nb) budget script)
played_all {nb = nb} {budget = budget} {count_at = count_at} sent i all p script are =
    let cells : List Cell = view_cells nb in
    let whole : texts (take i sent) ≡ texts sent = ap texts (take_all i sent all) in
    let same = same_messages (texts sent) p.messages (messages_of script) (subst (λ ts. AreReceived ts p.messages) whole p.are) are.received in
    let given = p.given ∙ ap (turn_parts cells budget Before) same ∙ script_turns cells budget script are.turns in
    (given, p.steps ∙ ap (λ ps. count_at + cost_of_parts ps) given ∙ ap (λ n. count_at + n) (script_costs cells budget script))
