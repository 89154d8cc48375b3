-- Messages that are taken and texts that are sent, one after the other.
use Rattle.std.proofs.Common.{◌≡◌, ◌∙◌, sym, ap, subst, ℕ, List, [], ◌∷◌, ◌++◌, append_assoc, append-nil}
use Rattle.std.specs.Prelude.{Option, Some, None, IfSome}
use Rattle.link_io.specs.Links.{Item, Told, TakesNext, with_text}
use Rattle.session.specs.Talks.{Talked}

pub talked_none : (a : Option Told) → Talked a a [] []
talked_none None = tt
talked_none (Some o) =
    (o.left, (λ i. o.left), (λ i. Some (record { taken = sym (append-nil o.taken) i; left = o.left; sent = sym (append-nil o.sent) i })))

pub talked_both : (a b c : Option Told) (xs ys : List Item) (s t : List (List ℕ)) → Talked a b xs s → Talked b c ys t → Talked a c (xs ++ ys) (s ++ t)
talked_both None b c xs ys s t f h = tt
talked_both (Some o) b c xs ys s t f h =
    let g = subst (λ z. Talked z c ys t) f.2 h in (
      g.0,
      f.1 ∙ ap (λ l. xs ++ l) g.1 ∙ sym (append_assoc xs ys g.0),
      g.2 ∙ (λ i. Some (record { taken = append_assoc o.taken xs ys i; left = g.0; sent = append_assoc o.sent s t i })),
    )

-- ---- what the calls of a link do

pub taken_one : (a b : Option Told) (m : Item) → IfSome a (λ o. TakesNext o b m) → Talked a b (m ∷ []) []
taken_one None b m took = tt
taken_one (Some o) b m took =
    (took.0, took.1, took.2 ∙ (λ i. Some (record { taken = o.taken ++ m ∷ []; left = took.0; sent = sym (append-nil o.sent) i })))

pub stays_talked : (a b : Option Told) → IfSome a (λ o. b ≡ Some o) → Talked a b [] []
stays_talked None b is = tt
stays_talked (Some o) b is = subst (λ z. Talked (Some o) z [] []) (sym is) (talked_none (Some o))

pub sent_talked : (a b : Option Told) (text : List ℕ) → IfSome a (λ o. b ≡ Some (with_text o text)) → Talked a b [] (text ∷ [])
sent_talked None b text is = tt
sent_talked (Some o) b text is =
    (o.left, (λ i. o.left), is ∙ (λ i. Some (record { taken = sym (append-nil o.taken) i; left = o.left; sent = o.sent ++ text ∷ [] })))
