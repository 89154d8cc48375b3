-- Calls of the kernel one after the other, with what goes over the link.
use Rattle.std.proofs.Common.{◌≡◌, ◌∙◌, inl, inr, refl, sym, ap, subst, ℕ, List, [], ◌∷◌, ◌++◌, append_assoc, append-nil, length, map, arith}
use Rattle.std.proofs.lemmas.List.{map-append}
use Rattle.std.proofs.lemmas.List.Elements.{All-append, All-cons, All-nil}
use Rattle.std.specs.Prelude.{Option, Some, None, true, false}
use Rattle.frame_meaning.specs.FrameText.{frame_text}
use Rattle.frames.specs.declared.frame.Frame.{Frame}
use Rattle.kernel.proofs.CallsInTurn.{given_append, leads_append, taken_append}
use Rattle.kernel.specs.Calls.{Deliver, Step, given_by}
use Rattle.kernel.specs.Visit.{AtMostFirst, Gives, IsDelivery, IsStep, Stands, Visit, first_cost}
use Rattle.kernel.specs.declared.answers.Delivered.{Delivered}
use Rattle.kernel.specs.declared.answers.Delivered.TheVariants as delivered
use Rattle.kernel.specs.declared.answers.Stepped.TheVariants as stepped
use Rattle.link_io.specs.Links.{Item, Told}
use Rattle.message_meaning.proofs.Shapes.{one}
use Rattle.message_meaning.specs.Messages.{IsReceived}
use Rattle.messages.specs.declared.message.Message.{Message}
use Rattle.messages.specs.declared.message.Message.TheVariants.{Close}
use Rattle.session.proofs.Talking.{talked_both, talked_none}
use Rattle.session.specs.Progress.{Breaks, Closes, Drains, Stops, Went}
use Rattle.session.specs.Talks.{IsNoCloseText, Talked, bytes_of}
use Rattle.session.specs.declared.unsent.Unsent.{Unsent}
use Rattle.session.specs.declared.unsent.Unsent.TheVariants as unsent

-- no call yet, and messages that were taken from the link alone
pub went_heard : (v : Visit) (count : ℕ) (before : Option Told) (items : List Item) (now : Option Told) → Talked before now items []
    → Went v count before [] items v count now
went_heard v count before items now talked = record { calls = []; led = (refl, refl); took = refl; unclosed = All-nil IsNoCloseText; talked = talked }

pub went_none : (v : Visit) (count : ℕ) (before : Option Told) → Went v count before [] [] v count before
went_none v count before = went_heard v count before [] before (talked_none before)

-- one way behind another
pub went_both : {v : Visit} {count : ℕ} {before : Option Told} {bs : List (List ℕ)} {is : List Item} {w : Visit} {count_mid : ℕ} {mid : Option Told}
    {cs : List (List ℕ)} {js : List Item} {x : Visit} {count_after : ℕ} {now : Option Told}
    → Went v count before bs is w count_mid mid → Went w count_mid mid cs js x count_after now
    → Went v count before (bs ++ cs) (is ++ js) x count_after now
went_both {v = v} {count = count} {before = before} {bs = bs} {is = is} {w = w} {count_mid = count_mid} {mid = mid} {cs = cs} {js = js} {x = x} {count_after = count_after} {now = now} f g =
    record {
      calls = f.calls ++ g.calls;
      led = leads_append f.calls g.calls v w x count count_mid count_after f.led g.led;
      took = taken_append f.calls g.calls ∙ (λ i. f.took i ++ g.took i);
      unclosed = All-append IsNoCloseText bs cs f.unclosed g.unclosed;
      talked = subst (Talked before now (is ++ js))
          (sym (map-append frame_text (given_by f.calls) (given_by g.calls)) ∙ ap (map frame_text) (sym (given_append f.calls g.calls)))
          (talked_both before mid now is js (map frame_text (given_by f.calls)) (map frame_text (given_by g.calls)) f.talked g.talked);
    }

-- a frame is given, and its text is sent
pub went_frame : {v : Visit} {count : ℕ} {before : Option Told} {w : Visit} {count_mid : ℕ} {mid : Option Told}
    → (f : Frame) (x : Visit) (count_after : ℕ) (now : Option Told) → Went v count before [] [] w count_mid mid
    → Gives f w x count_mid count_after → Talked mid now [] (frame_text f ∷ []) → Went v count before [] [] x count_after now
went_frame {w = w} {count_mid = count_mid} {mid = mid} f x count_after now so_far gives talked =
    let next : Went w count_mid mid [] [] x count_after now =
    record { calls = Step (stepped.Frame f) ∷ []; led = (x, count_after, gives, (refl, refl)); took = refl; unclosed = All-nil IsNoCloseText; talked = talked } in
    went_both so_far next

-- bytes that are received as another message are no close message
other_received : (bytes : List ℕ) (m : Option Message) → IsReceived bytes m → (m ≡ Some Close → ⊥) → IsNoCloseText bytes
other_received bytes None is other close = is Close close
other_received bytes (Some m) is other close = other (ap Some (one bytes m Close is close))

-- a message is delivered where nothing is to come, and doesn't close the visit
pub went_delivered : (bytes : List ℕ) (d : Delivered) (v w : Visit) (count : ℕ) (told : Option Told) → v.pending ≡ [] → IsDelivery bytes v w d
    → (d ≡ delivered.Closed → ⊥) → Went v count told (bytes ∷ []) [] w count told
went_delivered bytes (delivered.Busy pending) v w count told none does other =
    let empty = ap length none in
    let some = does.0 in
    absurd (omega arith)
went_delivered bytes delivered.Taken v w count told none does other = record {
  calls = Deliver bytes delivered.Taken ∷ [];
  led = (w, does, (refl, refl));
  took = refl;
  unclosed = All-cons IsNoCloseText bytes [] (other_received bytes does.1.0 does.1.1 (λ same. does.1.2 (inr same))) (All-nil IsNoCloseText);
  talked = talked_none told;
}
went_delivered bytes delivered.Closed v w count told none does other = absurd (other refl)

-- a message that closes the visit
pub closes : (bytes : List ℕ) (v w : Visit) (count : ℕ) (told : Option Told) → IsDelivery bytes v w delivered.Closed
    → Closes v count told bytes w count told
closes bytes v w count told does =
    record { message = does.1.0; is = does.1.1; last = does.1.2; visit = does.1.3; steps = refl; told = refl }

-- no frame is to come
pub drains_idle : {v : Visit} {count : ℕ} {before : Option Told} {w : Visit} {count_mid : ℕ} {now : Option Told}
    → (x : Visit) (count_after : ℕ) → Went v count before [] [] w count_mid now → IsStep w x count_mid count_after stepped.Idle → Stands x
    → x.spoiled ≡ false → Drains v count before [] x count_after now
drains_idle {v = v} {count = count} {before = before} {w = w} {count_mid = count_mid} {now = now} x count_after so_far idle stands sound = record {
  went = subst (λ z. Went v count before [] [] z count_after now) (sym idle.1)
      (subst (λ n. Went v count before [] [] w n now) (sym idle.2) so_far);
  over = ap (λ (z : Visit). z.pending) idle.1 ∙ idle.0;
  stands = stands;
  sound = sound;
}

-- ---- where it goes no further

-- memory is wanting for a step
pub breaks_step : {v : Visit} {count : ℕ} {before : Option Told} {w : Visit} {count_mid : ℕ} {now : Option Told}
    → (after : Visit) (count_after : ℕ) → Went v count before [] [] w count_mid now → AtMostFirst w.pending count_mid count_after
    → Breaks unsent.Memory v count before [] [] after count_after now
breaks_step {w = w} {count_mid = count_mid} after count_after so_far most = record {
  stops = record {
    at = w;
    count_at = count_mid;
    took = [];
    left = [];
    went = so_far;
    are = refl;
    one = omega arith;
    behind = inl refl;
    spoils = inl refl;
    most = most;
    exact = λ failed. absurd (cc);
  };
  stuck = λ failed. absurd (cc);
}

-- a frame is given, whose text isn't sent
pub breaks_frame : {v : Visit} {count : ℕ} {before : Option Told} {w : Visit} {count_mid : ℕ} {mid : Option Told}
    → (why : Unsent) (f : Frame) (x : Visit) (count_after : ℕ) (now : Option Told) → Went v count before [] [] w count_mid mid
    → Gives f w x count_mid count_after → Talked mid now [] [] → Breaks why v count before [] [] x count_after now
breaks_frame {w = w} {count_mid = count_mid} {mid = mid} why f x count_after now so_far gives talked =
    let first : first_cost w.pending ≡ gives.cost = ap first_cost gives.pending in
    let steps = gives.steps in
    let some = gives.pending in
    record {
      stops = record {
        at = w;
        count_at = count_mid;
        took = [];
        left = [];
        went = went_both so_far (went_heard w count_mid mid [] now talked);
        are = refl;
        one = omega arith;
        behind = inl refl;
        spoils = inl refl;
        most = (omega arith, omega arith);
        exact = λ failed. (refl, omega arith);
      };
      stuck = λ failed none. absurd (cc);
    }

-- behind a way that was gone
abbrev stops_behind : {v : Visit} {count : ℕ} {before : Option Told} {bs : List (List ℕ)} {is : List Item} {w : Visit} {count_mid : ℕ} {mid : Option Told}
    {why : Unsent} {cs : List (List ℕ)} {js : List Item} {after : Visit} {count_after : ℕ} {now : Option Told}
    → Went v count before bs is w count_mid mid → Stops why w count_mid mid cs js after count_after now
    → Stops why v count before (bs ++ cs) (is ++ js) after count_after now
stops_behind {bs = bs} so_far b = record {
  at = b.at;
  count_at = b.count_at;
  took = bs ++ b.took;
  left = b.left;
  went = went_both so_far b.went;
  are = ap (λ cs. bs ++ cs) b.are ∙ sym (append_assoc bs b.took b.left);
  one = b.one;
  behind = b.behind;
  spoils = b.spoils;
  most = b.most;
  exact = b.exact;
}

pub breaks_behind : {v : Visit} {count : ℕ} {before : Option Told} {bs : List (List ℕ)} {is : List Item} {w : Visit} {count_mid : ℕ} {mid : Option Told}
    {why : Unsent} {cs : List (List ℕ)} {js : List Item} {after : Visit} {count_after : ℕ} {now : Option Told}
    → Went v count before bs is w count_mid mid → Breaks why w count_mid mid cs js after count_after now
    → Breaks why v count before (bs ++ cs) (is ++ js) after count_after now
breaks_behind so_far b = record { stops = stops_behind so_far b.stops; stuck = b.stuck }

pub drains_behind : {v : Visit} {count : ℕ} {before : Option Told} {bs : List (List ℕ)} {w : Visit} {count_mid : ℕ} {mid : Option Told}
    {cs : List (List ℕ)} {x : Visit} {count_after : ℕ} {now : Option Told}
    → Went v count before bs [] w count_mid mid → Drains w count_mid mid cs x count_after now → Drains v count before (bs ++ cs) x count_after now
drains_behind so_far d = record { went = went_both so_far d.went; over = d.over; stands = d.stands; sound = d.sound }

-- the kernel doesn't take a message, as memory is wanting
pub breaks_undelivered : (bytes : List ℕ) (v w : Visit) (count : ℕ) (told : Option Told) → v.pending ≡ [] → w.spoiled ≡ true
    → Breaks unsent.Memory v count told (bytes ∷ []) [] w count told
breaks_undelivered bytes v w count told none spoiled =
    let first : first_cost v.pending ≡ 0 = ap first_cost none in
    record {
      stops = record {
        at = v;
        count_at = count;
        took = [];
        left = bytes ∷ [];
        went = went_none v count told;
        are = refl;
        one = omega arith;
        behind = inr none;
        spoils = inr spoiled;
        most = (omega arith, omega arith);
        exact = λ failed. absurd (cc);
      };
      stuck = λ failed. absurd (cc);
    }

-- ---- messages one after the other

-- These messages were taken from the link and answered, and all frames were sent.
abbrev pub Answered : Visit → ℕ → Option Told → List Item → Visit → ℕ → Option Told → Type 0
Answered v count before items w count_after now =
    Went v count before (map bytes_of items) items w count_after now × (w.pending ≡ []) × Stands w × (w.spoiled ≡ false)

-- the frames that were to come are sent
pub answered_none : {v : Visit} {count : ℕ} {before : Option Told} {w : Visit} {count_after : ℕ} {now : Option Told}
    → Drains v count before [] w count_after now → Answered v count before [] w count_after now
answered_none d = (d.went, d.over, d.stands, d.sound)

bytes_more : (items : List Item) (m : Item) (bytes : List ℕ) → bytes_of m ≡ bytes → (map bytes_of items ++ []) ++ bytes ∷ [] ≡ map bytes_of (items ++ m ∷ [])
bytes_more items m bytes is =
    (λ i. append-nil (map bytes_of items) i ++ sym is i ∷ []) ∙ sym (map-append bytes_of items (m ∷ []))

-- one more message
pub answered_next : {v : Visit} {count : ℕ} {before : Option Told} {items : List Item} {w : Visit} {count_mid : ℕ} {mid : Option Told}
    → (m : Item) (bytes : List ℕ) (heard : Option Told) (x : Visit) (count_after : ℕ) (now : Option Told)
    → Answered v count before items w count_mid mid → bytes_of m ≡ bytes → Talked mid heard (m ∷ []) []
    → Drains w count_mid heard (bytes ∷ []) x count_after now → Answered v count before (items ++ m ∷ []) x count_after now
answered_next {v = v} {count = count} {before = before} {items = items} {w = w} {count_mid = count_mid} {mid = mid} m bytes heard x count_after now so_far is taken d =
    let first = went_both so_far.0 (went_heard w count_mid mid (m ∷ []) heard taken) in
    let all = went_both first d.went in (
      subst (λ bs. Went v count before bs (items ++ m ∷ []) x count_after now) (bytes_more items m bytes is)
          (subst (λ js. Went v count before ((map bytes_of items ++ []) ++ bytes ∷ []) js x count_after now) (append-nil (items ++ m ∷ [])) all),
      d.over,
      d.stands,
      d.sound,
    )

-- one more message, whose answer isn't sent to its end
pub breaks_next : {v : Visit} {count : ℕ} {before : Option Told} {items : List Item} {w : Visit} {count_mid : ℕ} {mid : Option Told} {why : Unsent}
    → (m : Item) (bytes : List ℕ) (heard : Option Told) (x : Visit) (count_after : ℕ) (now : Option Told)
    → Answered v count before items w count_mid mid → bytes_of m ≡ bytes → Talked mid heard (m ∷ []) []
    → Breaks why w count_mid heard (bytes ∷ []) [] x count_after now
    → Breaks why v count before (map bytes_of (items ++ m ∷ [])) (items ++ m ∷ []) x count_after now
breaks_next {v = v} {count = count} {before = before} {items = items} {w = w} {count_mid = count_mid} {mid = mid} {why = why} m bytes heard x count_after now so_far is taken b =
    let first = went_both so_far.0 (went_heard w count_mid mid (m ∷ []) heard taken) in
    let all = breaks_behind first b in
    subst (λ bs. Breaks why v count before bs (items ++ m ∷ []) x count_after now) (bytes_more items m bytes is)
    (subst (λ js. Breaks why v count before ((map bytes_of items ++ []) ++ bytes ∷ []) js x count_after now) (append-nil (items ++ m ∷ [])) all)

-- no further message is taken
pub stops_here : {v : Visit} {count : ℕ} {before : Option Told} {items : List Item} {w : Visit} {count_mid : ℕ} {mid : Option Told}
    → (why : Unsent) (now : Option Told) → Answered v count before items w count_mid mid → Talked mid now [] []
    → Stops why v count before (map bytes_of items) items w count_mid now
stops_here {v = v} {count = count} {before = before} {items = items} {w = w} {count_mid = count_mid} {mid = mid} why now so_far talked =
    let none : first_cost w.pending ≡ 0 = ap first_cost so_far.1 in
    record {
      at = w;
      count_at = count_mid;
      took = map bytes_of items;
      left = [];
      went = subst (λ bs. Went v count before bs items w count_mid now) (append-nil (map bytes_of items))
          (subst (λ js. Went v count before (map bytes_of items ++ []) js w count_mid now) (append-nil items)
          (went_both so_far.0 (went_heard w count_mid mid [] now talked)));
      are = sym (append-nil (map bytes_of items));
      one = omega arith;
      behind = inl refl;
      spoils = inl refl;
      most = (omega arith, omega arith);
      exact = λ failed. (refl, omega arith);
    }
