-- What was sent over a link that tells are the texts of a visitor alone.
use Rattle.std.proofs.Common.{◌≡◌, ◌∙◌, inl, inr, ⊎_elim, refl, sym, ap, subst, ℕ, List, [], ◌∷◌, ◌++◌, append_assoc, append-nil, length, map}
use Rattle.std.proofs.lemmas.List.{map-append}
use Rattle.std.proofs.lemmas.List.Elements.{All-head, All-tail}
use Rattle.std.specs.Prelude.{All, Option, Some, None}
use Rattle.frame_meaning.specs.FrameText.{frame_text}
use Rattle.kernel.specs.Calls.{parts_for}
use Rattle.kernel.specs.Visit.{Visit, begun}
use Rattle.link_io.specs.Links.{Item, Told, fresh}
use Rattle.py_tree.specs.View.{view_cells}
use Rattle.py_tree.specs.declared.tree.CellCode.{CellCode}
use Rattle.visit_meaning.proofs.Endings.{HasNoClose, not_ended}
use Rattle.visit_meaning.specs.Answer.{Before, Part, frames_in, solo, state_after}
use Rattle.message_meaning.specs.Messages.{IsReceived}
use Rattle.message_meaning.specs.Sent.{AreReceived}
use Rattle.messages.specs.declared.message.Message.{Message}
use Rattle.session.specs.Serving.{IsCutShort, SentClosed, SentSolo, SentSome, Serves}
use Rattle.session.specs.Talks.{AtEnd, IsClose, IsNoClose, TakesLast, Talked, bytes_of, texts_of}
use Rattle.session.specs.declared.ended.Ended.TheVariants as ended

abbrev told_or : Option Told → Told → Told
told_or (Some t) d = t
told_or None d = d

same_told : (a b : Told) → Some a ≡ Some b → a ≡ b
same_told a b e = ap (λ o. told_or o a) e

-- a link on which a visitor has just come, after these messages were taken and these texts sent
abbrev after_talk : List Item → List Item → List (List ℕ) → Told
after_talk items left texts = record { taken = items; left = left; sent = texts }

-- what was taken and what is left are all
whole_talk : (all items : List Item) (texts : List (List ℕ)) (now : Told) → Talked (Some (fresh all)) (Some now) items texts → now.taken ++ now.left ≡ all
whole_talk all items texts now t =
    let is : now ≡ after_talk items t.0 texts = same_told now (after_talk items t.0 texts) t.2 in
    ap (λ (o : Told). o.taken ++ o.left) is ∙ sym t.1

pub many_solo : (nb : List CellCode) (budget : ℕ) (all : List Item) (after : Visit) (now : Told)
    → Serves ended.TooMany (begun nb budget) (Some (fresh all)) after (Some now)
    → SentSolo nb budget now.taken now × (length now.taken ≡ 1000000) × (now.taken ++ now.left ≡ all) × All IsNoClose now.taken
many_solo nb budget all after now h =
    let s = h.2 in
    let t = s.talked in
    let texts : List (List ℕ) = texts_of (parts_for (begun nb budget) s.messages) in
    let is : now ≡ after_talk h.0 t.0 texts = same_told now (after_talk h.0 t.0 texts) t.2 in (
      record {
        messages = s.messages;
        are = subst (λ xs. AreReceived (map bytes_of xs) s.messages) (sym (ap (λ (o : Told). o.taken) is)) s.are;
        texts = ap (λ (o : Told). o.sent) is;
      },
      ap (λ (o : Told). length o.taken) is ∙ h.1,
      whole_talk all h.0 texts now t,
      subst (All IsNoClose) (sym (ap (λ (o : Told). o.taken) is)) s.unclosed,
    )

pub cut_solo : (nb : List CellCode) (budget : ℕ) (all : List Item) (now : Told) → (h : IsCutShort (begun nb budget) (Some (fresh all)) (Some now))
    → SentSome nb budget all h.heard h.untaken now
cut_solo nb budget all now h =
    let t = h.talked in
    let is : now ≡ after_talk h.items t.0 h.texts = same_told now (after_talk h.items t.0 h.texts) t.2 in
    let p = h.begin in
    let rest : List (List ℕ) = texts_of p.rest in
    record {
      messages = h.messages;
      are = h.are;
      taken = ap (λ (o : Told). o.taken) is ∙ h.are_all;
      unclosed = h.unclosed;
      all_are = whole_talk all h.items h.texts now t;
      rest = rest;
      texts = ap (λ ts. ts ++ rest) (ap (λ (o : Told). o.sent) is ∙ p.texts)
          ∙ sym (map-append frame_text (frames_in p.sent) (frames_in p.rest))
          ∙ ap (map frame_text) (sym (map-append (λ (q : Part). q.frame) p.sent p.rest) ∙ ap frames_in (sym p.whole));
      behind = ⊎_elim (λ none. inl none) (λ over. inr (ap texts_of over)) h.behind;
    }

pub fault_solo : (nb : List CellCode) (budget : ℕ) (all : List Item) (after : Visit) (now : Told)
    → Serves ended.LinkFault (begun nb budget) (Some (fresh all)) after (Some now) → SentSome nb budget all now.taken [] now
fault_solo nb budget all after now h =
    let some = cut_solo nb budget all now h.0 in
    let heard : h.0.heard ≡ now.taken = sym (append-nil h.0.heard) ∙ ap (λ xs. h.0.heard ++ xs) (sym h.1) ∙ sym some.taken in
    subst (λ xs. SentSome nb budget all xs [] now) heard (subst (λ ys. SentSome nb budget all h.0.heard ys now) h.1 some)

-- how a session ends that is closed
ends_at_end : (nb : List CellCode) (budget : ℕ) (all items left : List Item) (texts : List (List ℕ)) (messages : List (Option Message)) (now : Told)
    → all ≡ items ++ left → AreReceived (map bytes_of items) messages → texts ≡ map frame_text (solo (view_cells nb) budget messages)
    → AtEnd (Some (after_talk items left texts)) (Some now) → All IsNoClose items → SentClosed nb budget all now
ends_at_end nb budget all items left texts messages now whole are solo_texts at_end unclosed =
    let is : now ≡ after_talk items left texts = same_told now (after_talk items left texts) at_end.1 in
    let last : items ≡ all = sym (append-nil items) ∙ ap (λ xs. items ++ xs) (sym at_end.0) ∙ sym whole in
    record {
      read = items;
      unclosed = unclosed;
      answered = record { messages = messages; are = are; texts = ap (λ (o : Told). o.sent) is ∙ solo_texts };
      all_are = ap (λ (o : Told). o.taken ++ o.left) is ∙ sym whole;
      ends = inl (last, ap (λ (o : Told). o.taken) is ∙ last);
    }

ends_by : (nb : List CellCode) (budget : ℕ) (all items left : List Item) (texts : List (List ℕ)) (messages : List (Option Message)) (now : Told)
    → all ≡ items ++ left → AreReceived (map bytes_of items) messages → texts ≡ map frame_text (solo (view_cells nb) budget messages)
    → (m : Item) → IsClose m → Talked (Some (after_talk items left texts)) (Some now) (m ∷ []) []
    → All IsNoClose items → SentClosed nb budget all now
ends_by nb budget all items left texts messages now whole are solo_texts m close closed unclosed =
    let behind : Told = after_talk (items ++ m ∷ []) closed.0 (texts ++ []) in
    let is : now ≡ behind = same_told now behind closed.2 in
    record {
      read = items;
      unclosed = unclosed;
      answered = record { messages = messages; are = are; texts = ap (λ (o : Told). o.sent) is ∙ append-nil texts ∙ solo_texts };
      all_are = ap (λ (o : Told). o.taken ++ o.left) is ∙ append_assoc items (m ∷ []) closed.0
          ∙ ap (λ l. items ++ l) (sym closed.1) ∙ sym whole;
      ends = inr (m, close, ap (λ (o : Told). o.taken) is);
    }

-- no message is a close message, where the bytes of none are
others_received : (items : List Item) (messages : List (Option Message)) → AreReceived (map bytes_of items) messages → All IsNoClose items
    → HasNoClose messages
others_received [] [] are others = tt
others_received [] (k ∷ messages) are others = absurd are
others_received (m ∷ items) [] are others = absurd are
others_received (m ∷ items) (k ∷ messages) are others = (
  (λ same. All-head IsNoClose m items others (subst (IsReceived (bytes_of m)) same are.0)),
  others_received items messages are.1 (All-tail IsNoClose m items others),
)

-- From the beginning on, behind messages of which none is a close message, it is a close message that ends a visit.
pub last_closes : (nb : List CellCode) (budget : ℕ) (items : List Item) (messages : List (Option Message)) (mid now : Option Told)
    → AreReceived (map bytes_of items) messages → All IsNoClose items
    → (last : TakesLast (state_after (view_cells nb) budget Before messages) mid now) → IsClose last.item
last_closes nb budget items messages mid now are unclosed last = ⊎_elim
    (λ ended. absurd (not_ended (view_cells nb) budget messages (others_received items messages are unclosed) ended))
    (λ close. subst (IsReceived (bytes_of last.item)) close last.is)
    last.last

pub closed_solo : (nb : List CellCode) (budget : ℕ) (all : List Item) (after : Visit) (now : Told)
    → Serves ended.Closed (begun nb budget) (Some (fresh all)) after (Some now) → SentClosed nb budget all now
closed_solo nb budget all after now h =
    let s = h.4 in
    let t = s.talked in
    let texts : List (List ℕ) = texts_of (parts_for (begun nb budget) s.messages) in
    let mid : Option Told = Some (after_talk h.0 t.0 texts) in
    ⊎_elim
    (λ over. ends_at_end nb budget all h.0 t.0 texts s.messages now t.1 s.are refl (subst (λ mid. AtEnd mid (Some now)) t.2 over.0) s.unclosed)
    (λ over.
    let last : TakesLast (state_after (view_cells nb) budget Before s.messages) h.3 (Some now) =
    subst (λ state. TakesLast state h.3 (Some now)) s.state over.0 in
    ends_by nb budget all h.0 t.0 texts s.messages now t.1 s.are refl last.item
    (last_closes nb budget h.0 s.messages h.3 (Some now) s.are s.unclosed last)
    (subst (λ mid. Talked mid (Some now) (last.item ∷ []) []) t.2 last.talked) s.unclosed)
    h.5
