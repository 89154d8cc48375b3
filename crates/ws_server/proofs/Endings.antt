-- What the end of a session says of its visitor.
use Rattle.std.proofs.Common.{◌<◌, length, ◌≡◌, ◌∙◌, inl, inr, ⊎_elim, refl, sym, ap, subst, ℕ, List, [], ◌∷◌, ◌++◌, append_assoc, append-nil, map}
use Rattle.std.proofs.lemmas.List.{map-append}
use Rattle.std.specs.Prelude.{All, Option, Some}
use Rattle.frame_meaning.specs.FrameText.{frame_text}
use Rattle.kernel.specs.Calls.{parts_for}
use Rattle.kernel.specs.Visit.{Visit, begun}
use Rattle.link_io.specs.Links.{Item, Told, fresh}
use Rattle.message_meaning.specs.Sent.{AreReceived}
use Rattle.messages.specs.declared.message.Message.{Message}
use Rattle.py_tree.specs.View.{view_cells}
use Rattle.py_tree.specs.declared.tree.CellCode.{CellCode}
use Rattle.session.specs.Serving.{IsCutShort, Serves, message_count_limit}
use Rattle.session.proofs.SoloTexts.{last_closes}
use Rattle.session.specs.Talks.{AtEnd, IsClose, IsNoClose, TakesLast, Talked, bytes_of, texts_of}
use Rattle.session.specs.declared.ended.Ended.{Ended}
use Rattle.session.specs.declared.ended.Ended.TheVariants as ended
use Rattle.visit_meaning.specs.Answer.{Before, Part, frames_in, state_after}
use Rattle.ws_server.specs.Visitors.{IsEnded, alone_in}

-- the texts of a visitor alone who sends these messages
abbrev texts_for : List CellCode → ℕ → List (Option Message) → List (List ℕ)
texts_for nb budget messages = texts_of (parts_for (begun nb budget) messages)

-- the link was read to its end,
ends_at_end : (nb : List CellCode) (budget : ℕ) (all items left : List Item) (messages : List (Option Message)) (now : Option Told) → all ≡ items ++ left
    → AreReceived (map bytes_of items) messages → All IsNoClose items → length items < message_count_limit
    → AtEnd (Some (record { taken = items; left = left; sent = texts_for nb budget messages })) now
    → IsEnded (alone_in (view_cells nb) budget) all ended.Closed now
ends_at_end nb budget all items left messages now whole are unclosed few end = (
  record { taken = items; left = left; sent = texts_for nb budget messages },
  end.1,
  sym whole,
  (items, unclosed, few, (messages, are, refl), inl (refl, end.0)),
)

-- or to a close message
ends_by : (nb : List CellCode) (budget : ℕ) (all items left : List Item) (messages : List (Option Message)) (now : Option Told) → all ≡ items ++ left
    → AreReceived (map bytes_of items) messages → All IsNoClose items → length items < message_count_limit
    → (m : Item) → IsClose m → Talked (Some (record { taken = items; left = left; sent = texts_for nb budget messages })) now (m ∷ []) []
    → IsEnded (alone_in (view_cells nb) budget) all ended.Closed now
ends_by nb budget all items left messages now whole are unclosed few m close closed = (
  record { taken = items ++ m ∷ []; left = closed.0; sent = texts_for nb budget messages ++ [] },
  closed.2,
  append_assoc items (m ∷ []) closed.0 ∙ ap (λ l. items ++ l) (sym closed.1) ∙ sym whole,
  (items, unclosed, few, (messages, are, append-nil (texts_for nb budget messages)), inr (m, close, refl)),
)

closes : (nb : List CellCode) (budget : ℕ) (w : Visit) (all : List Item) (now : Option Told)
    → Serves ended.Closed (begun nb budget) (Some (fresh all)) w now → IsEnded (alone_in (view_cells nb) budget) all ended.Closed now
closes nb budget w all now h =
    let s = h.4 in
    let t = s.talked in
    ⊎_elim
    (λ over. ends_at_end nb budget all h.0 t.0 s.messages now t.1 s.are s.unclosed h.1 (subst (λ mid. AtEnd mid now) t.2 over.0))
    (λ over.
    let last : TakesLast (state_after (view_cells nb) budget Before s.messages) h.3 now = subst (λ state. TakesLast state h.3 now) s.state over.0 in
    ends_by nb budget all h.0 t.0 s.messages now t.1 s.are s.unclosed h.1 last.item
    (last_closes nb budget h.0 s.messages h.3 now s.are s.unclosed last)
    (subst (λ mid. Talked mid now (last.item ∷ []) []) t.2 last.talked))
    h.5

rest_of : (nb : List CellCode) (budget : ℕ) (before now : Option Told) (c : IsCutShort (begun nb budget) before now)
    → (rest : List (List ℕ)) × (c.texts ++ rest ≡ texts_of (parts_for (begun nb budget) c.messages)) × (c.begin.rest ≡ [] → rest ≡ [])
rest_of nb budget before now c =
    let p = c.begin in
    let rest : List (List ℕ) = texts_of p.rest in (
      rest,
      ap (λ ts. ts ++ rest) p.texts ∙ sym (map-append frame_text (frames_in p.sent) (frames_in p.rest))
          ∙ ap (map frame_text) (sym (map-append (λ (q : Part). q.frame) p.sent p.rest) ∙ ap frames_in (sym p.whole)),
      λ over. ap texts_of over,
    )

pub ends_of : (nb : List CellCode) (budget : ℕ) (w : Visit) (all : List Item) (now : Option Told) (end : Ended)
    → Serves end (begun nb budget) (Some (fresh all)) w now → IsEnded (alone_in (view_cells nb) budget) all end now
ends_of nb budget w all now ended.Closed h = closes nb budget w all now h
ends_of nb budget w all now ended.TooMany h =
    let t = h.2.talked in (
      record { taken = h.0; left = t.0; sent = texts_of (parts_for (begun nb budget) h.2.messages) },
      t.2,
      sym t.1,
      (h.2.unclosed, h.1, (h.2.messages, h.2.are, refl)),
    )
ends_of nb budget w all now ended.LinkFault h =
    let c = h.0 in
    let t = c.talked in
    let heard : c.heard ≡ c.items = sym (append-nil c.heard) ∙ ap (λ xs. c.heard ++ xs) (sym h.1) ∙ sym c.are_all in
    let are : AreReceived (map bytes_of c.items) c.messages = subst (λ xs. AreReceived (map bytes_of xs) c.messages) heard c.are in
    let rest = rest_of nb budget (Some (fresh all)) now c in (
      record { taken = c.items; left = t.0; sent = c.texts },
      t.2,
      sym t.1,
      (subst (All IsNoClose) heard c.unclosed, c.few, texts_of (parts_for (begun nb budget) c.messages), (c.messages, are, refl), rest.0, rest.1),
    )
ends_of nb budget w all now ended.Memory h =
    let c = h.0 in
    let t = c.talked in
    let rest = rest_of nb budget (Some (fresh all)) now c in (
      record { taken = c.items; left = t.0; sent = c.texts },
      t.2,
      sym t.1,
      (
        c.few,
        c.heard,
        c.untaken,
        c.unclosed,
        c.are_all,
        c.one,
        texts_of (parts_for (begun nb budget) c.messages),
        (c.messages, c.are, refl),
        rest.0,
        rest.1,
        ⊎_elim (λ none. inl none) (λ over. inr (rest.2 over)) c.behind,
      ),
    )
