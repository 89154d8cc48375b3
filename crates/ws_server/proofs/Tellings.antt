-- What a report tells by itself.
use Rattle.std.proofs.Common.{◌≡◌, ◌∙◌, inl, inr, refl, sym, ap, subst, ℕ, ◌+◌, ◌<◌, ◌≤◌, min, List, [], ◌∷◌, ◌++◌, append-nil, length, map, arith}
use Rattle.std.proofs.lemmas.List.{length-map}
use Rattle.std.proofs.lemmas.List.Elements.{All-cons, All-nil}
use Rattle.std.proofs.lemmas.List.Sums.{sum_by-cons}
use Rattle.std.specs.Prelude.{◌⊎◌, All, sum_by}
use Rattle.link_io.specs.Doors.{Parted}
use Rattle.link_io.specs.Links.{Item}
use Rattle.link_io.specs.Porches.{Seen}
use Rattle.session.specs.Talks.{IsClose}
use Rattle.session.specs.declared.ended.Ended.{Ended}
use Rattle.session.specs.declared.ended.Ended.TheVariants as ended
use Rattle.ws_server.proofs.Totals.{all_counts, all_fit, all_new, all_visitors, all_whole, some_rose}
use Rattle.ws_server.specs.Reports.{closed_in, links_in, many_in, memory_in}
use Rattle.ws_server.specs.Shares.{AllFit, AreServed, Fits, Gone, Visitor}
use Rattle.ws_server.specs.Told.{AreTold, AtLeast, IsAnswered, IsClosed, IsFull, SomeRose, newly_parted, waiting_in}
use Rattle.ws_server.specs.Visitors.{Alone}
use Rattle.ws_server.specs.declared.report.Report.{Report}

-- ---- each visitor is counted once

one_each : (e : Ended) → closed_in e + links_in e + many_in e + memory_in e ≡ 1
one_each ended.Closed = refl
one_each ended.LinkFault = refl
one_each ended.TooMany = refl
one_each ended.Memory = refl

once : (es : List Ended) → sum_by closed_in es + sum_by links_in es + sum_by many_in es + sum_by memory_in es ≡ length es
once [] = refl
once (e ∷ es) =
    let a = sum_by-cons closed_in e es in
    let b = sum_by-cons links_in e es in
    let c = sum_by-cons many_in e es in
    let d = sum_by-cons memory_in e es in
    let one = one_each e in
    let rest = once es in
    let long : length (e ∷ es) ≡ length es + 1 = omega arith in
    omega arith

pub ends_told : (alone : Alone) (quota : ℕ) (before after : List Seen) (r : Report) → AreServed alone quota before after r
    → (r.closed + r.links + r.many ≤ r.visitors) × (r.visitors ≤ r.closed + r.links + r.many + r.memory)
ends_told alone quota before after r s =
    let c = all_counts alone quota s.gone s.shares r s.sum in
    let each = once (map (λ (v : Visitor). v.end) (all_visitors alone quota s.gone s.shares)) in
    let a = c.visitors in
    let b = c.closed in
    let d = c.links in
    let e = c.many in
    let f = c.memory in
    (omega arith, omega arith)

pub doors_told : (alone : Alone) (quota : ℕ) (before after : List Seen) (r : Report) → AreServed alone quota before after r → 0 < r.doors → SomeRose before after
doors_told alone quota before after r s some =
    let rose = some_rose alone quota s.gone s.shares (let sum = s.sum.doors in omega (arith, some)) in
    subst (λ bs. SomeRose bs after) s.before_are (subst (λ xs. SomeRose (map (λ (g : Gone). g.before) s.gone) xs) s.after_are rose)

-- ---- where the doors tell their visitors

told_before : (alone : Alone) (quota : ℕ) (before after : List Seen) (r : Report) → (s : AreServed alone quota before after r) → AreTold before
    → AreTold (map (λ (g : Gone). g.before) s.gone)
told_before alone quota before after r s told = subst AreTold (sym s.before_are) told

new_told : (alone : Alone) (quota : ℕ) (before after : List Seen) (r : Report) → (s : AreServed alone quota before after r) → AreTold before
    → map (λ (v : Visitor). v.parted) (all_visitors alone quota s.gone s.shares) ≡ newly_parted before after
new_told alone quota before after r s told =
    sym (all_new alone quota s.gone s.shares (told_before alone quota before after r s told))
    ∙ ap (λ bs. newly_parted bs (map (λ (g : Gone). g.after) s.gone)) s.before_are ∙ ap (newly_parted before) s.after_are

pub visitors_told : (alone : Alone) (quota : ℕ) (before after : List Seen) (r : Report) → AreServed alone quota before after r → AreTold before
    → r.visitors ≡ length (newly_parted before after)
visitors_told alone quota before after r s told =
    let vs : List Visitor = all_visitors alone quota s.gone s.shares in
    let c = all_counts alone quota s.gone s.shares r s.sum in
    c.visitors ∙ length-map vs (λ (v : Visitor). v.end) ∙ sym (length-map vs (λ (v : Visitor). v.parted))
    ∙ ap (λ ps. length ps) (new_told alone quota before after r s told)

-- as many are so as are counted, where who is counted is so
counted : (h : Ended → ℕ) (P : Parted → Type 0) (alone : Alone)
    → ((p : Parted) (e : Ended) → Fits alone (record { parted = p; end = e }) → (h e ≡ 0) ⊎ ((h e ≡ 1) × P p))
    → (vs : List Visitor) → AllFit alone vs → (n : ℕ) → n ≡ sum_by h (map (λ (v : Visitor). v.end) vs) → AtLeast n P (map (λ (v : Visitor). v.parted) vs)
counted h P alone so [] fit n is = is
counted h P alone so (v ∷ vs) fit n is =
    let es : List Ended = map (λ (v : Visitor). v.end) vs in
    let sum = sum_by-cons h v.end es in
    elim (so v.parted v.end fit.0) [
      | inl none ↦ inl (counted h P alone so vs fit.1 n (omega (arith, is, sum, none)))
      | inr one ↦ inr (sum_by h es, omega (arith, is, sum, one.0), one.1, counted h P alone so vs fit.1 (sum_by h es) refl)
    ]

closed_so : (alone : Alone) (p : Parted) (e : Ended) → Fits alone (record { parted = p; end = e }) → (closed_in e ≡ 0) ⊎ ((closed_in e ≡ 1) × IsClosed alone p)
closed_so alone p ended.Closed f = inr (refl, (f.told, f.is, f.ends))
closed_so alone p ended.LinkFault f = inl refl
closed_so alone p ended.TooMany f = inl refl
closed_so alone p ended.Memory f = inl refl

links_so : (alone : Alone) (p : Parted) (e : Ended) → Fits alone (record { parted = p; end = e }) → (links_in e ≡ 0) ⊎ ((links_in e ≡ 1) × (0 < p.faults))
links_so alone p ended.Closed f = inl refl
links_so alone p ended.LinkFault f = inr (refl, f.failed refl)
links_so alone p ended.TooMany f = inl refl
links_so alone p ended.Memory f = inl refl

many_so : (alone : Alone) (p : Parted) (e : Ended) → Fits alone (record { parted = p; end = e }) → (many_in e ≡ 0) ⊎ ((many_in e ≡ 1) × IsFull p)
many_so alone p ended.Closed f = inl refl
many_so alone p ended.LinkFault f = inl refl
many_so alone p ended.TooMany f = inr (refl, (f.told, f.is, omega (arith, f.ends.1)))
many_so alone p ended.Memory f = inl refl

pub closed_told : (alone : Alone) (quota : ℕ) (before after : List Seen) (r : Report) → AreServed alone quota before after r → AreTold before
    → AtLeast r.closed (IsClosed alone) (newly_parted before after)
closed_told alone quota before after r s told =
    subst (AtLeast r.closed (IsClosed alone)) (new_told alone quota before after r s told)
    (counted closed_in (IsClosed alone) alone (closed_so alone) (all_visitors alone quota s.gone s.shares)
    (all_fit alone quota s.gone s.shares (told_before alone quota before after r s told)) r.closed (all_counts alone quota s.gone s.shares r s.sum).closed)

pub links_told : (alone : Alone) (quota : ℕ) (before after : List Seen) (r : Report) → AreServed alone quota before after r → AreTold before
    → AtLeast r.links (λ (p : Parted). 0 < p.faults) (newly_parted before after)
links_told alone quota before after r s told =
    subst (AtLeast r.links (λ (p : Parted). 0 < p.faults)) (new_told alone quota before after r s told)
    (counted links_in (λ (p : Parted). 0 < p.faults) alone (links_so alone) (all_visitors alone quota s.gone s.shares)
    (all_fit alone quota s.gone s.shares (told_before alone quota before after r s told)) r.links (all_counts alone quota s.gone s.shares r s.sum).links)

pub many_told : (alone : Alone) (quota : ℕ) (before after : List Seen) (r : Report) → AreServed alone quota before after r → AreTold before
    → AtLeast r.many IsFull (newly_parted before after)
many_told alone quota before after r s told =
    subst (AtLeast r.many IsFull) (new_told alone quota before after r s told)
    (counted many_in IsFull alone (many_so alone) (all_visitors alone quota s.gone s.shares)
    (all_fit alone quota s.gone s.shares (told_before alone quota before after r s told)) r.many (all_counts alone quota s.gone s.shares r s.sum).many)

-- ---- the texts

answered : (alone : Alone) (m : ℕ) (p : Parted) (e : Ended) → Fits alone (record { parted = p; end = e }) → memory_in e ≤ m → IsAnswered alone m p
answered alone m p ended.Closed f few =
    let items : List Item = f.ends.0 in
    let own : items ++ [] ≡ items = append-nil items in
    elim f.ends.4 [
      | inl end ↦ record {
        told = f.told;
        is = f.is;
        heard = items;
        unheard = [];
        taken = end.0 ∙ sym own;
        one = omega arith;
        unclosed = f.ends.1;
        close = λ none. All-nil IsClose;
        texts = f.told.sent;
        are = f.ends.3;
        rest = [];
        sent = append-nil f.told.sent;
        behind = inr refl;
      }
      | inr closed ↦ record {
        told = f.told;
        is = f.is;
        heard = items;
        unheard = closed.0 ∷ [];
        taken = closed.2;
        one = omega arith;
        unclosed = f.ends.1;
        close = λ none. All-cons IsClose closed.0 [] closed.1 (All-nil IsClose);
        texts = f.told.sent;
        are = f.ends.3;
        rest = [];
        sent = append-nil f.told.sent;
        behind = inr refl;
      }
    ]
answered alone m p ended.TooMany f few = record {
  told = f.told;
  is = f.is;
  heard = f.told.taken;
  unheard = [];
  taken = sym (append-nil f.told.taken);
  one = omega arith;
  unclosed = f.ends.0;
  close = λ none. All-nil IsClose;
  texts = f.told.sent;
  are = f.ends.2;
  rest = [];
  sent = append-nil f.told.sent;
  behind = inr refl;
}
answered alone m p ended.LinkFault f few = record {
  told = f.told;
  is = f.is;
  heard = f.told.taken;
  unheard = [];
  taken = sym (append-nil f.told.taken);
  one = omega arith;
  unclosed = f.ends.0;
  close = λ none. All-nil IsClose;
  texts = f.ends.2;
  are = f.ends.3;
  rest = f.ends.4;
  sent = f.ends.5;
  behind = inl refl;
}
answered alone m p ended.Memory f few = record {
  told = f.told;
  is = f.is;
  heard = f.ends.1;
  unheard = f.ends.2;
  taken = f.ends.4;
  one = f.ends.5;
  unclosed = f.ends.3;
  close = λ none. absurd (omega (arith, few, none));
  texts = f.ends.6;
  are = f.ends.7;
  rest = f.ends.8;
  sent = f.ends.9;
  behind = f.ends.10;
}

all_answered : (alone : Alone) (m : ℕ) (vs : List Visitor) → AllFit alone vs → sum_by memory_in (map (λ (v : Visitor). v.end) vs) ≤ m
    → All (IsAnswered alone m) (map (λ (v : Visitor). v.parted) vs)
all_answered alone m [] fit few = All-nil (IsAnswered alone m)
all_answered alone m (v ∷ vs) fit few =
    let sum = sum_by-cons memory_in v.end (map (λ (v : Visitor). v.end) vs) in
    All-cons (IsAnswered alone m) v.parted (map (λ (v : Visitor). v.parted) vs) (answered alone m v.parted v.end fit.0 (omega (arith, sum, few)))
    (all_answered alone m vs fit.1 (omega (arith, sum, few)))

pub sent_told : (alone : Alone) (quota : ℕ) (before after : List Seen) (r : Report) → AreServed alone quota before after r → AreTold before
    → All (IsAnswered alone r.memory) (newly_parted before after)
sent_told alone quota before after r s told =
    subst (All (IsAnswered alone r.memory)) (new_told alone quota before after r s told)
    (all_answered alone r.memory (all_visitors alone quota s.gone s.shares)
    (all_fit alone quota s.gone s.shares (told_before alone quota before after r s told)) (all_counts alone quota s.gone s.shares r s.sum).memory)

-- ---- that all came

pub whole_told : (alone : Alone) (quota : ℕ) (before after : List Seen) (r : Report) → AreServed alone quota before after r → AreTold before
    → (SomeRose before after → ⊥) → r.memory ≡ 0 → r.visitors ≡ sum_by (λ (b : Seen). min quota (length (waiting_in b.queue))) before
whole_told alone quota before after r s told quiet none =
    let rests : SomeRose (map (λ (g : Gone). g.before) s.gone) (map (λ (g : Gone). g.after) s.gone) → ⊥ =
    λ rose. quiet (subst (λ bs. SomeRose bs after) s.before_are (subst (λ xs. SomeRose (map (λ (g : Gone). g.before) s.gone) xs) s.after_are rose)) in
    s.sum.visitors ∙ all_whole alone quota s.gone s.shares (told_before alone quota before after r s told) rests (sym s.sum.memory ∙ none)
    ∙ ap (sum_by (λ (b : Seen). min quota (length (waiting_in b.queue)))) s.before_are
