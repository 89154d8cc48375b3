-- What a report tells, also where memory was wanting before the first visitor.
use Rattle.std.proofs.Common.{◌≡◌, ◌∙◌, inl, inr, refl, sym, ap, subst, ℕ, ◌+◌, ◌<◌, ◌≤◌, min, List, [], ◌∷◌, ◌++◌, length, arith}
use Rattle.std.proofs.Math.Seq.{drop-length}
use Rattle.std.proofs.lemmas.List.Elements.{All-nil}
use Rattle.std.specs.Prelude.{All, sum_by}
use Rattle.link_io.specs.Doors.{Parted}
use Rattle.link_io.specs.Porches.{Seen}
use Rattle.ws_server.proofs.Tellings.{closed_told, doors_told, ends_told, links_told, many_told, sent_told, visitors_told, whole_told}
use Rattle.ws_server.specs.Shares.{AreReported}
use Rattle.ws_server.specs.Told.{AreTold, AtLeast, IsAnswered, IsClosed, IsFull, SomeRose, Tells, newly_parted, parted_in, waiting_in}
use Rattle.ws_server.specs.Visitors.{Alone}
use Rattle.ws_server.specs.declared.report.Report.{Report}

-- nobody was parted where nothing changed
nobody : (doors : List Seen) → newly_parted doors doors ≡ []
nobody [] = refl
nobody (d ∷ doors) = ap (λ ps. ps ++ newly_parted doors doors) (drop-length (parted_in d.queue)) ∙ nobody doors

nobody_since : (before after : List Seen) → after ≡ before → newly_parted before after ≡ []
nobody_since before after same = ap (newly_parted before) same ∙ nobody before

none_of : (P : Parted → Type 0) (n : ℕ) (before after : List Seen) → after ≡ before → n ≡ 0 → AtLeast n P (newly_parted before after)
none_of P n before after same none = subst (AtLeast n P) (sym (nobody_since before after same)) none

module _ (alone : Alone) (quota : ℕ) (before after : List Seen) (r : Report) where
  ends_reported : AreReported alone quota before after r
      → (r.closed + r.links + r.many ≤ r.visitors) × (r.visitors ≤ r.closed + r.links + r.many + r.memory)
  ends_reported (inl served) = ends_told alone quota before after r served
  ends_reported (inr left) =
      let v = left.1.visitors in
      let c = left.1.closed in
      let l = left.1.links in
      let m = left.1.many in
      (omega arith, omega arith)

  doors_reported : AreReported alone quota before after r → 0 < r.doors → SomeRose before after
  doors_reported (inl served) some = doors_told alone quota before after r served some
  doors_reported (inr left) some = let none = left.1.doors in absurd (omega (arith, none, some))

  visitors_reported : AreReported alone quota before after r → AreTold before → r.visitors ≡ length (newly_parted before after)
  visitors_reported (inl served) told = visitors_told alone quota before after r served told
  visitors_reported (inr left) told = left.1.visitors ∙ sym (ap (λ ps. length ps) (nobody_since before after left.0))

  closed_reported : AreReported alone quota before after r → AreTold before → AtLeast r.closed (IsClosed alone) (newly_parted before after)
  closed_reported (inl served) told = closed_told alone quota before after r served told
  closed_reported (inr left) told = none_of (IsClosed alone) r.closed before after left.0 left.1.closed

  links_reported : AreReported alone quota before after r → AreTold before → AtLeast r.links (λ p. 0 < p.faults) (newly_parted before after)
  links_reported (inl served) told = links_told alone quota before after r served told
  links_reported (inr left) told = none_of (λ p. 0 < p.faults) r.links before after left.0 left.1.links

  many_reported : AreReported alone quota before after r → AreTold before → AtLeast r.many IsFull (newly_parted before after)
  many_reported (inl served) told = many_told alone quota before after r served told
  many_reported (inr left) told = none_of IsFull r.many before after left.0 left.1.many

  sent_reported : AreReported alone quota before after r → AreTold before → All (IsAnswered alone r.memory) (newly_parted before after)
  sent_reported (inl served) told = sent_told alone quota before after r served told
  sent_reported (inr left) told = subst (All (IsAnswered alone r.memory)) (sym (nobody_since before after left.0)) (All-nil (IsAnswered alone r.memory))

  whole_reported : AreReported alone quota before after r → AreTold before → (SomeRose before after → ⊥) → r.memory ≡ 0
      → r.visitors ≡ sum_by (λ (b : Seen). min quota (length (waiting_in b.queue))) before
  whole_reported (inl served) told quiet none = whole_told alone quota before after r served told quiet none
  whole_reported (inr left) told quiet none = let one = left.1.memory in absurd (omega (arith, one, none))

  pub reported : AreReported alone quota before after r → Tells alone quota before after r
  reported is = record {
    least = (ends_reported is).0;
    most = (ends_reported is).1;
    doors = doors_reported is;
    visitors = visitors_reported is;
    closed = closed_reported is;
    links = links_reported is;
    many = many_reported is;
    sent = sent_reported is;
    whole = whole_reported is;
  }
