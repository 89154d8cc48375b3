-- What stands when a session ends.
use Rattle.std.proofs.Common.{◌<◌, ◌⊎◌, ⊎_elim, ◌≡◌, inl, inr, ◌∙◌, refl, sym, ap, subst, ℕ, ◌+◌, ◌≤◌, List, [], ◌∷◌, ◌++◌, append-nil, length, map, arith}
use Rattle.std.proofs.lemmas.List.{length-map}
use Rattle.std.proofs.lemmas.List.Elements.{All-cons, All-head, All-nil, All-tail}
use Rattle.std.specs.Prelude.{All, Option}
use Rattle.frame_meaning.specs.FrameText.{frame_text}
use Rattle.kernel.proofs.SoloVisits.{goes_on}
use Rattle.kernel.specs.Calls.{GoesOn, given_by, newest_after, parts_for, taken_by}
use Rattle.kernel.specs.Visit.{Visit}
use Rattle.link_io.specs.Links.{Item, Told}
use Rattle.visit_meaning.specs.Answer.{cost_of_parts, frames_in, state_after}
use Rattle.message_meaning.specs.Messages.{IsReceived}
use Rattle.message_meaning.specs.Sent.{AreReceived}
use Rattle.py_tree.specs.View.{view_cells}
use Rattle.session.proofs.Calling.{Answered}
use Rattle.session.specs.Endings.{ended_for}
use Rattle.session.specs.Progress.{Closes, Stops}
use Rattle.session.specs.Serving.{Counts, IsCounted, IsCutShort, IsServed, Serves, message_count_limit}
use Rattle.session.specs.Talks.{AtEnd, IsNoClose, IsNoCloseText, TakesLast, Talked, bytes_of}
use Rattle.session.specs.declared.ended.Ended.TheVariants as ended
use Rattle.session.specs.declared.unsent.Unsent.{Unsent}
use Rattle.session.specs.declared.unsent.Unsent.TheVariants as unsent

-- messages whose bytes are no close message
unclosed_of : (items : List Item) → All IsNoCloseText (map bytes_of items) → All IsNoClose items
unclosed_of [] others = All-nil IsNoClose
unclosed_of (m ∷ items) others =
    All-cons IsNoClose m items (All-head IsNoCloseText (bytes_of m) (map bytes_of items) others)
    (unclosed_of items (All-tail IsNoCloseText (bytes_of m) (map bytes_of items) others))

-- all parts for the messages were given
all_given : {v : Visit} {count : ℕ} {before : Option Told} {items : List Item} {w : Visit} {count_after : ℕ} {now : Option Told}
    → (a : Answered v count before items w count_after now) → (on : GoesOn v (taken_by a.0.calls) (given_by a.0.calls) w count count_after)
    → on.parts ≡ parts_for v on.messages
all_given a on = sym (append-nil on.parts) ∙ ap (λ ps. on.parts ++ ps) (sym a.1) ∙ on.whole

pub served : {v : Visit} {count : ℕ} {before : Option Told} {items : List Item} {w : Visit} {count_after : ℕ} {now : Option Told}
    → Answered v count before items w count_after now → IsServed v before items w now
served {v = v} {count = count} {before = before} {items = items} {w = w} {count_after = count_after} {now = now} a =
    let f = a.0 in
    let on : GoesOn v (taken_by f.calls) (given_by f.calls) w count count_after = goes_on f.calls v w count count_after f.led in
    let all : on.parts ≡ parts_for v on.messages = all_given a on in
    let frames : given_by f.calls ≡ frames_in (parts_for v on.messages) = on.frames ∙ ap frames_in all in
    record {
      messages = on.messages;
      are = subst (λ bs. AreReceived bs on.messages) f.took on.are;
      unclosed = unclosed_of items f.unclosed;
      talked = subst (Talked before now items) (ap (map frame_text) frames) f.talked;
      over = a.1;
      state = on.state;
      newest = on.newest ∙ ap (newest_after v.newest) frames;
      stands = a.2;
      sound = a.3;
      nb = on.nb;
      budget = on.budget;
    }

pub counted : {v : Visit} {count : ℕ} {before : Option Told} {items : List Item} {w : Visit} {count_after : ℕ} {now : Option Told}
    → Answered v count before items w count_after now → IsCounted v before items count count_after now
counted {v = v} {count = count} {w = w} {count_after = count_after} a =
    let f = a.0 in
    let on : GoesOn v (taken_by f.calls) (given_by f.calls) w count count_after = goes_on f.calls v w count count_after f.led in
    record {
      messages = on.messages;
      are = subst (λ bs. AreReceived bs on.messages) f.took on.are;
      texts = map frame_text (given_by f.calls);
      talked = f.talked;
      steps = on.steps ∙ ap (λ ps. count + cost_of_parts ps) (all_given a on);
    }

state_counted : {v : Visit} {count : ℕ} {before : Option Told} {items : List Item} {w : Visit} {count_after : ℕ} {now : Option Told}
    → (a : Answered v count before items w count_after now) → w.state ≡ state_after (view_cells v.nb) v.budget v.state (counted a).messages
unfolding counted
state_counted {v = v} {count = count} {w = w} {count_after = count_after} a =
    let on : GoesOn v (taken_by a.0.calls) (given_by a.0.calls) w count count_after = goes_on a.0.calls v w count count_after a.0.led in on.state

-- the session ends at the end of the link,
pub closed_at_end : {v : Visit} {count : ℕ} {before : Option Told} {items : List Item} {w : Visit} {count_after : ℕ} {mid : Option Told}
    → (now : Option Told) → Answered v count before items w count_after mid → length items < message_count_limit → AtEnd mid now
    → Serves ended.Closed v before w now
closed_at_end {items = items} {w = w} {mid = mid} now a few at_end = (items, few, w, mid, served a, inl (at_end, refl))

pub counts_at_end : {v : Visit} {count : ℕ} {before : Option Told} {items : List Item} {w : Visit} {count_after : ℕ} {mid : Option Told}
    → (now : Option Told) → Answered v count before items w count_after mid → AtEnd mid now → Counts ended.Closed v before count count_after now
counts_at_end {items = items} {mid = mid} now a at_end = (items, mid, counted a, inl at_end)

-- or at the message that closes the visit
last_taken : {v : Visit} {count : ℕ} {mid : Option Told} (m : Item) (bytes : List ℕ) (heard : Option Told) (w : Visit) (count_after : ℕ) (now : Option Told)
    → bytes_of m ≡ bytes → Talked mid heard (m ∷ []) [] → Closes v count heard bytes w count_after now → TakesLast v.state mid now
last_taken {mid = mid} m bytes heard w count_after now is taken c = record {
  item = m;
  message = c.message;
  is = subst (λ b. IsReceived b c.message) (sym is) c.is;
  last = c.last;
  talked = subst (λ t. Talked mid t (m ∷ []) []) (sym c.told) taken;
}

pub closed_by : {v : Visit} {count : ℕ} {before : Option Told} {items : List Item} {w : Visit} {count_mid : ℕ} {mid : Option Told}
    → (m : Item) (bytes : List ℕ) (heard : Option Told) (x : Visit) (count_after : ℕ) (now : Option Told)
    → Answered v count before items w count_mid mid → length items < message_count_limit → bytes_of m ≡ bytes → Talked mid heard (m ∷ []) []
    → Closes w count_mid heard bytes x count_after now → Serves ended.Closed v before x now
closed_by {items = items} {w = w} {mid = mid} m bytes heard x count_after now a few is taken c =
    (items, few, w, mid, served a, inr (last_taken m bytes heard x count_after now is taken c, c.visit))

pub counts_by : {v : Visit} {count : ℕ} {before : Option Told} {items : List Item} {w : Visit} {count_mid : ℕ} {mid : Option Told}
    → (m : Item) (bytes : List ℕ) (heard : Option Told) (x : Visit) (count_after : ℕ) (now : Option Told)
    → Answered v count before items w count_mid mid → bytes_of m ≡ bytes → Talked mid heard (m ∷ []) []
    → Closes w count_mid heard bytes x count_after now → Counts ended.Closed v before count count_after now
counts_by {v = v} {count = count} {before = before} {items = items} {w = w} {mid = mid} m bytes heard x count_after now a is taken c =
    let last = last_taken m bytes heard x count_after now is taken c in
    let there = counted a in (
      items,
      mid,
      record { messages = there.messages; are = there.are; texts = there.texts; talked = there.talked; steps = c.steps ∙ there.steps },
      inr (subst (λ s. TakesLast s mid now) (state_counted a) last),
    )

-- ---- where it went no further

abbrev tail_of : List (List ℕ) → List (List ℕ)
tail_of [] = []
tail_of (b ∷ bs) = bs

abbrev head_or : List (List ℕ) → List ℕ → List ℕ
head_or [] d = d
head_or (b ∷ bs) d = b

-- messages whose bytes are two lists are two lists
record Parted (items : List Item) (took left : List (List ℕ)) : Type 0 where
  heard : List Item
  untaken : List Item
  all : items ≡ heard ++ untaken
  heard_are : map bytes_of heard ≡ took
  untaken_are : map bytes_of untaken ≡ left

parted : (items : List Item) (took left : List (List ℕ)) → map bytes_of items ≡ took ++ left → Parted items took left
parted items [] left e = record { heard = []; untaken = items; all = refl; heard_are = refl; untaken_are = e }
parted [] (t ∷ took) left e = absurd (cc)
parted (m ∷ items) (t ∷ took) left e =
    let rest = parted items took left (ap tail_of e) in
    record {
      heard = m ∷ rest.heard;
      untaken = rest.untaken;
      all = ap (λ xs. m ∷ xs) rest.all;
      heard_are = (λ i. head_or (e i) [] ∷ rest.heard_are i);
      untaken_are = rest.untaken_are;
    }

none_left : (items : List Item) → map bytes_of items ≡ [] → items ≡ []
none_left [] e = refl
none_left (m ∷ items) e = absurd (cc)

-- the parts that were given are a prefix of those for the messages that the kernel took
abbrev broke : {why : Unsent} {v : Visit} {count : ℕ} {before : Option Told} {items : List Item} {after : Visit} {count_after : ℕ} {now : Option Told}
    → (b : Stops why v count before (map bytes_of items) items after count_after now) → length items ≤ message_count_limit
    → IsCutShort v before now
broke {v = v} {count = count} {items = items} b few =
    let f = b.went in
    let on : GoesOn v (taken_by f.calls) (given_by f.calls) b.at count b.count_at = goes_on f.calls v b.at count b.count_at f.led in
    let p : Parted items b.took b.left = parted items b.took b.left b.are in
    let long = length-map p.untaken bytes_of in
    let same : length (map bytes_of p.untaken) ≡ length b.left = ap (λ xs. length xs) p.untaken_are in
    let one = b.one in
    record {
      items = items;
      heard = p.heard;
      untaken = p.untaken;
      are_all = p.all;
      one = omega arith;
      few = few;
      unclosed = unclosed_of p.heard (subst (All IsNoCloseText) (sym p.heard_are) f.unclosed);
      messages = on.messages;
      are = subst (λ bs. AreReceived bs on.messages) (f.took ∙ sym p.heard_are) on.are;
      texts = map frame_text (given_by f.calls);
      talked = f.talked;
      begin = record { sent = on.parts; rest = b.at.pending; whole = sym on.whole; texts = ap (map frame_text) on.frames };
      behind = ⊎_elim (λ none. inl (none_left p.untaken (p.untaken_are ∙ none))) (λ over. inr over) b.behind;
    }

pub serves_cut : {v : Visit} {count : ℕ} {before : Option Told} {count_after : ℕ} {now : Option Told}
    → (why : Unsent) (items : List Item) (after : Visit) → (b : Stops why v count before (map bytes_of items) items after count_after now)
    → length items ≤ message_count_limit
    → (why ≡ unsent.Failed → (length items < message_count_limit) ⊎ (b.at.pending ≡ [] → ⊥)) → Serves (ended_for why) v before after now
serves_cut unsent.Failed items after b few room =
    let none = (b.exact refl).0 in
    let p : Parted items b.took b.left = parted items b.took b.left b.are in
    (broke b few, none_left p.untaken (p.untaken_are ∙ none), room refl)
serves_cut unsent.Memory items after b few room =
    let p : Parted items b.took b.left = parted items b.took b.left b.are in
    (broke b few, ⊎_elim (λ none. inl (none_left p.untaken (p.untaken_are ∙ none))) (λ spoiled. inr spoiled) b.spoils)

pub counts_cut : {v : Visit} {count : ℕ} {before : Option Told} {after : Visit} {count_after : ℕ} {now : Option Told}
    → (why : Unsent) (items : List Item) → Stops why v count before (map bytes_of items) items after count_after now
    → length items ≤ message_count_limit → Counts (ended_for why) v before count count_after now
counts_cut {v = v} {count = count} unsent.Failed items b few =
    let steps = (b.exact refl).1 in
    let on : GoesOn v (taken_by b.went.calls) (given_by b.went.calls) b.at count b.count_at = goes_on b.went.calls v b.at count b.count_at b.went.led in
    let so_far = on.steps in
    (broke b few, omega arith)
counts_cut {v = v} {count = count} unsent.Memory items b few =
    let least = b.most.0 in
    let most = b.most.1 in
    let on : GoesOn v (taken_by b.went.calls) (given_by b.went.calls) b.at count b.count_at = goes_on b.went.calls v b.at count b.count_at b.went.led in
    let so_far = on.steps in
    (broke b few, omega arith, omega arith)
