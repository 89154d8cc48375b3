-- The visitors of all doors.
use Rattle.std.proofs.Common.{◌≡◌, ◌∙◌, inl, inr, refl, sym, ap, subst, ℕ, ◌+◌, ◌<◌, min, List, [], ◌∷◌, ◌++◌, drop, length, length-append, map, suc, zero, arith}
use Rattle.std.proofs.lemmas.List.{map-append}
use Rattle.std.proofs.lemmas.List.Elements.{All-head, All-tail}
use Rattle.std.proofs.lemmas.List.Prefix.{front_rest}
use Rattle.std.proofs.lemmas.List.Sums.{sum_by-append, sum_by-cons}
use Rattle.std.specs.Prelude.{◌⊎◌, IfSome, Option, Some, sum_by}
use Rattle.link_io.specs.Doors.{Row}
use Rattle.link_io.specs.Porches.{Seen}
use Rattle.session.specs.declared.ended.Ended.{Ended}
use Rattle.ws_server.proofs.Shares.{rose_of, share_whole}
use Rattle.ws_server.specs.Reports.{Counts, IsSum, closed_in, links_in, many_in, memory_in}
use Rattle.ws_server.specs.Shares.{AllFit, AreShares, Gone, IsServedRow, IsShare, Served, Visitor}
use Rattle.ws_server.specs.Told.{AreTold, SomeRose, newly_parted, parted_in, waiting_in}
use Rattle.ws_server.specs.Visitors.{Alone}
use Rattle.ws_server.specs.declared.report.Report.{Report}

abbrev pub all_visitors : (alone : Alone) (quota : ℕ) (gs : List Gone) → AreShares alone quota gs → List Visitor
all_visitors alone quota [] s = []
all_visitors alone quota (g ∷ gs) s = s.0.visitors ++ all_visitors alone quota gs s.1

-- ---- their counts

-- the sums of these reports
abbrev total : List Report → Report
total rs = record {
  visitors = sum_by (λ (s : Report). s.visitors) rs;
  closed = sum_by (λ (s : Report). s.closed) rs;
  links = sum_by (λ (s : Report). s.links) rs;
  memory = sum_by (λ (s : Report). s.memory) rs;
  many = sum_by (λ (s : Report). s.many) rs;
  doors = sum_by (λ (s : Report). s.doors) rs;
}

counts_join : (es fs : List Ended) (s : Report) (rs : List Report) (r : Report) → Counts es s → Counts fs (total rs) → IsSum (s ∷ rs) r → Counts (es ++ fs) r
counts_join es fs s rs r a b sum =
    let cons : (f : Report → ℕ) → sum_by f (s ∷ rs) ≡ f s + sum_by f rs = λ f. sum_by-cons f s rs in
    let join : (h : Ended → ℕ) → sum_by h (es ++ fs) ≡ sum_by h es + sum_by h fs = λ h. sum_by-append h es fs in
    record {
      visitors = let c = cons (λ (s : Report). s.visitors) in let l = length-append es fs in let x = a.visitors in let y = b.visitors in let z = sum.visitors in omega arith;
      closed = let c = cons (λ (s : Report). s.closed) in let l = join closed_in in let x = a.closed in let y = b.closed in let z = sum.closed in omega arith;
      links = let c = cons (λ (s : Report). s.links) in let l = join links_in in let x = a.links in let y = b.links in let z = sum.links in omega arith;
      many = let c = cons (λ (s : Report). s.many) in let l = join many_in in let x = a.many in let y = b.many in let z = sum.many in omega arith;
      memory = let c = cons (λ (s : Report). s.memory) in let l = join memory_in in let x = a.memory in let y = b.memory in let z = sum.memory in omega arith;
    }

pub all_counts : (alone : Alone) (quota : ℕ) (gs : List Gone) (s : AreShares alone quota gs) (r : Report) → IsSum (map (λ (g : Gone). g.report) gs) r
    → Counts (map (λ (v : Visitor). v.end) (all_visitors alone quota gs s)) r
all_counts alone quota [] s r sum = record {
  visitors = sum.visitors;
  closed = sum.closed;
  links = sum.links;
  many = sum.many;
  memory = let m = sum.memory in omega arith;
}
all_counts alone quota (g ∷ gs) s r sum =
    let rs : List Report = map (λ (g : Gone). g.report) gs in
    let vs : List Visitor = s.0.visitors in
    let others : List Visitor = all_visitors alone quota gs s.1 in
    let rest = all_counts alone quota gs s.1 (total rs) (record { visitors = refl; closed = refl; links = refl; many = refl; memory = refl; doors = refl }) in
    subst (λ es. Counts es r) (sym (map-append (λ (v : Visitor). v.end) vs others))
    (counts_join (map (λ (v : Visitor). v.end) vs) (map (λ (v : Visitor). v.end) others) g.report rs r s.0.counts rest sum)

-- ---- where doors tell them

-- the visitors of a door, where it tells them
came_of : (alone : Alone) (quota : ℕ) (g : Gone) (share : IsShare alone quota g.before g.after g.report) (b : Row) → g.before.queue ≡ Some b
    → (row : Row) × (g.after.queue ≡ Some row) × Served alone b row share.visitors
came_of alone quota g share b was = subst (λ q. IsServedRow alone q g.after.queue share.visitors) was share.row

new_of : (alone : Alone) (quota : ℕ) (g : Gone) (share : IsShare alone quota g.before g.after g.report) (b : Row) → g.before.queue ≡ Some b
    → drop (length (parted_in g.before.queue)) (parted_in g.after.queue) ≡ map (λ (v : Visitor). v.parted) share.visitors
new_of alone quota g share b was =
    let c = came_of alone quota g share b was in
    ap (λ q. drop (length (parted_in q)) (parted_in g.after.queue)) was ∙ ap (λ q. drop (length b.parted) (parted_in q)) c.1
    ∙ front_rest c.0.parted b.parted (map (λ (v : Visitor). v.parted) share.visitors) c.2.parted

pub all_new : (alone : Alone) (quota : ℕ) (gs : List Gone) (s : AreShares alone quota gs) → AreTold (map (λ (g : Gone). g.before) gs)
    → newly_parted (map (λ (g : Gone). g.before) gs) (map (λ (g : Gone). g.after) gs) ≡ map (λ (v : Visitor). v.parted) (all_visitors alone quota gs s)
all_new alone quota [] s told = refl
all_new alone quota (g ∷ gs) s told =
    let P : Seen → Type 0 = λ (s : Seen). (row : Row) × (s.queue ≡ Some row) in
    let here = All-head P g.before (map (λ (g : Gone). g.before) gs) told in
    let rest = all_new alone quota gs s.1 (All-tail P g.before (map (λ (g : Gone). g.before) gs) told) in
    ap (λ ps. ps ++ newly_parted (map (λ (g : Gone). g.before) gs) (map (λ (g : Gone). g.after) gs)) (new_of alone quota g s.0 here.0 here.1)
    ∙ ap (λ ps. map (λ (v : Visitor). v.parted) s.0.visitors ++ ps) rest
    ∙ sym (map-append (λ (v : Visitor). v.parted) s.0.visitors (all_visitors alone quota gs s.1))

fit_join : (alone : Alone) (vs ws : List Visitor) → AllFit alone vs → AllFit alone ws → AllFit alone (vs ++ ws)
fit_join alone [] ws a b = b
fit_join alone (v ∷ vs) ws a b = (a.0, fit_join alone vs ws a.1 b)

pub all_fit : (alone : Alone) (quota : ℕ) (gs : List Gone) (s : AreShares alone quota gs) → AreTold (map (λ (g : Gone). g.before) gs)
    → AllFit alone (all_visitors alone quota gs s)
all_fit alone quota [] s told = tt
all_fit alone quota (g ∷ gs) s told =
    let P : Seen → Type 0 = λ (s : Seen). (row : Row) × (s.queue ≡ Some row) in
    let here = All-head P g.before (map (λ (g : Gone). g.before) gs) told in
    fit_join alone s.0.visitors (all_visitors alone quota gs s.1) (came_of alone quota g s.0 here.0 here.1).2.fit
    (all_fit alone quota gs s.1 (All-tail P g.before (map (λ (g : Gone). g.before) gs) told))

-- ---- faults, and that all came

one_of : (a b : ℕ) → 0 < a + b → (0 < a) ⊎ (0 < b)
one_of zero b some = inr (omega (arith, some))
one_of (suc a) b some = inl (omega arith)

pub some_rose : (alone : Alone) (quota : ℕ) (gs : List Gone) (s : AreShares alone quota gs) → 0 < sum_by (λ (s : Report). s.doors) (map (λ (g : Gone). g.report) gs)
    → SomeRose (map (λ (g : Gone). g.before) gs) (map (λ (g : Gone). g.after) gs)
some_rose alone quota [] s some = absurd (omega (arith, some))
some_rose alone quota (g ∷ gs) s some =
    let sum = sum_by-cons (λ (s : Report). s.doors) g.report (map (λ (g : Gone). g.report) gs) in
    elim (one_of g.report.doors (sum_by (λ (s : Report). s.doors) (map (λ (g : Gone). g.report) gs)) (omega (arith, some, sum))) [
      | inl here ↦ inl (rose_of g.before.faults g.report.doors g.after.faults s.0.doors here)
      | inr later ↦ inr (some_rose alone quota gs s.1 later)
    ]

whole_of : (quota n : ℕ) (queue : Option Row) (b : Row) → queue ≡ Some b → IfSome queue (λ b. n ≡ min quota (length b.waiting)) → n ≡ min quota (length (waiting_in queue))
whole_of quota n queue b was whole =
    let here = subst (λ q. IfSome q (λ b. n ≡ min quota (length b.waiting))) was whole in
    here ∙ ap (λ q. min quota (length (waiting_in q))) (sym was)

pub all_whole : (alone : Alone) (quota : ℕ) (gs : List Gone) (s : AreShares alone quota gs) → AreTold (map (λ (g : Gone). g.before) gs)
    → (SomeRose (map (λ (g : Gone). g.before) gs) (map (λ (g : Gone). g.after) gs) → ⊥) → sum_by (λ (s : Report). s.memory) (map (λ (g : Gone). g.report) gs) ≡ 0
    → sum_by (λ (s : Report). s.visitors) (map (λ (g : Gone). g.report) gs)
    ≡ sum_by (λ (b : Seen). min quota (length (waiting_in b.queue))) (map (λ (g : Gone). g.before) gs)
all_whole alone quota [] s told quiet none = refl
all_whole alone quota (g ∷ gs) s told quiet none =
    let P : Seen → Type 0 = λ (s : Seen). (row : Row) × (s.queue ≡ Some row) in
    let befores : List Seen = map (λ (g : Gone). g.before) gs in
    let reports : List Report = map (λ (g : Gone). g.report) gs in
    let here = All-head P g.before befores told in
    let memory = sum_by-cons (λ (s : Report). s.memory) g.report reports in
    let own : g.report.memory ≡ 0 = omega (arith, memory, none) in
    let others : sum_by (λ (s : Report). s.memory) reports ≡ 0 = omega (arith, memory, none) in
    let first : g.report.visitors ≡ min quota (length (waiting_in g.before.queue)) =
    whole_of quota g.report.visitors g.before.queue here.0 here.1 (share_whole s.0 (λ rose. quiet (inl rose)) own) in
    let rest = all_whole alone quota gs s.1 (All-tail P g.before befores told) (λ rose. quiet (inr rose)) others in
    sum_by-cons (λ (s : Report). s.visitors) g.report reports
    ∙ ap (λ n. n + sum_by (λ (s : Report). s.visitors) reports) first
    ∙ ap (λ n. min quota (length (waiting_in g.before.queue)) + n) rest
    ∙ sym (sum_by-cons (λ (b : Seen). min quota (length (waiting_in b.queue))) g.before befores)
