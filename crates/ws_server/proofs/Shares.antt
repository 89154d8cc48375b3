-- The visitors of a door, one after the other.
use Rattle.std.proofs.Common.{◌≡◌, ◌∙◌, inl, inr, ⊎_elim, refl, sym, ap, subst, ℕ, ◌+◌, ◌-◌, ◌^◌, ◌<◌, ◌≤◌, min, List, [], ◌∷◌, ◌++◌, append_assoc, append-nil, length, length-append, map, suc, zero, arith}
use Rattle.std.proofs.lemmas.List.{length-map, map-append}
use Rattle.std.proofs.lemmas.List.Sums.{sum_by-append, sum_by-cons}
use Rattle.std.specs.Prelude.{◌⊎◌, IfSome, Option, Some, None, sum_by}
use Rattle.link_io.specs.Doors.{IsEmpty, Lets, Parts, Rests, Row}
use Rattle.link_io.specs.Links.{Item, Told, fresh}
use Rattle.link_io.specs.Outside.{Rose}
use Rattle.session.specs.declared.ended.Ended.{Ended}
use Rattle.session.specs.declared.ended.Ended.TheVariants as ended
use Rattle.ws_server.specs.Reports.{Counts, IsBounded, IsNew, IsSmall, OneMore, closed_in, links_in, many_in, memory_in}
use Rattle.link_io.specs.Porches.{Seen}
use Rattle.ws_server.specs.Shares.{AllFit, Fits, IsServedRow, IsShare, Visitor, all_of, asked}
use Rattle.ws_server.specs.Visitors.{Alone, IsEnded}
use Rattle.ws_server.specs.declared.report.Report.{Report}

-- at most one each
at_most : (f : Ended → ℕ) → ((e : Ended) → f e ≤ 1) → (es : List Ended) → sum_by f es ≤ length es
at_most f one [] = omega arith
at_most f one (e ∷ es) =
    let rest = at_most f one es in
    let here = one e in
    let sum : sum_by f (e ∷ es) ≡ f e + sum_by f es = sum_by-cons f e es in
    let long : length (e ∷ es) ≡ length es + 1 = omega arith in
    omega arith

closed_one : (e : Ended) → closed_in e ≤ 1
closed_one ended.Closed = omega arith
closed_one ended.LinkFault = omega arith
closed_one ended.TooMany = omega arith
closed_one ended.Memory = omega arith

links_one : (e : Ended) → links_in e ≤ 1
links_one ended.Closed = omega arith
links_one ended.LinkFault = omega arith
links_one ended.TooMany = omega arith
links_one ended.Memory = omega arith

many_one : (e : Ended) → many_in e ≤ 1
many_one ended.Closed = omega arith
many_one ended.LinkFault = omega arith
many_one ended.TooMany = omega arith
many_one ended.Memory = omega arith

pub memory_one : (e : Ended) → memory_in e ≤ 1
memory_one ended.Closed = omega arith
memory_one ended.LinkFault = omega arith
memory_one ended.TooMany = omega arith
memory_one ended.Memory = omega arith

-- what is kept of a share after some turns
pub record IsPart (alone : Alone) (before now : Option Row) (r : Report) (turn : ℕ) : Type 0 where
  pub came : List Visitor
  pub counts : Counts (map (λ (v : Visitor). v.end) came) r
  pub row : IsServedRow alone before now came
  pub wanted : ℕ
  pub memory_is : r.memory ≡ sum_by memory_in (map (λ (v : Visitor). v.end) came) + wanted
  pub turns : r.visitors + r.doors + wanted ≡ turn

-- no number is above that of the turns
most_visitors : {alone : Alone} {before now : Option Row} {r : Report} {turn : ℕ} → IsPart alone before now r turn → r.visitors ≤ turn
most_visitors p = let t = p.turns in omega arith

pub most_memory : {alone : Alone} {before now : Option Row} {r : Report} {turn : ℕ} → IsPart alone before now r turn → r.memory ≤ turn
most_memory p =
    let es = map (λ (v : Visitor). v.end) p.came in
    let t = p.turns in
    let m = p.memory_is in
    let all = p.counts.visitors in
    let one = at_most memory_in memory_one es in
    omega arith

pub part_small : {alone : Alone} {before now : Option Row} {r : Report} {turn : ℕ} → IsPart alone before now r turn → turn < 2 ^ 32 → IsSmall r
part_small p few =
    let c = p.counts in
    let es = map (λ (v : Visitor). v.end) p.came in
    let many = most_visitors p in
    let wanting = most_memory p in
    let all = c.visitors in
    record {
      visitors = omega arith;
      closed = let is = c.closed in let b = at_most closed_in closed_one es in omega arith;
      links = let is = c.links in let b = at_most links_in links_one es in omega arith;
      many = let is = c.many in let b = at_most many_in many_one es in omega arith;
      memory = omega arith;
    }

served_none : (alone : Alone) (row : Option Row) → IsServedRow alone row row []
served_none alone None = tt
served_none alone (Some b) = (b, refl, record { parted = sym (append-nil b.parted); first = refl; fit = tt })

pub part_none : (alone : Alone) (row : Option Row) (r : Report) → IsNew r → IsPart alone row row r 0
part_none alone row r new =
    let v = new.visitors in
    let m = new.memory in
    record {
      came = [];
      counts = record { visitors = new.visitors; closed = new.closed; links = new.links; many = new.many; memory = omega arith };
      row = served_none alone row;
      wanted = 0;
      memory_is = omega arith;
      turns = let d = new.doors in omega arith;
    }

counts_more : (es : List Ended) (e : Ended) (r s : Report) → Counts es r → OneMore e r s → Counts (es ++ e ∷ []) s
counts_more es e r s c o =
    let sum : (f : Ended → ℕ) → sum_by f (es ++ e ∷ []) ≡ sum_by f es + f e =
    λ f. sum_by-append f es (e ∷ []) ∙ ap (λ n. sum_by f es + n) (let s = sum_by-cons f e [] in omega arith) in
    record {
      visitors = let a = c.visitors in let b = o.visitors in let l = length-append es (e ∷ []) in omega arith;
      closed = let a = c.closed in let b = o.closed in let l = sum closed_in in omega arith;
      links = let a = c.links in let b = o.links in let l = sum links_in in omega arith;
      many = let a = c.many in let b = o.many in let l = sum many_in in omega arith;
      memory = let a = c.memory in let b = o.memory in let l = sum memory_in in omega arith;
    }

memory_more : (es : List Ended) (e : Ended) (r s : Report) (wanted : ℕ) → r.memory ≡ sum_by memory_in es + wanted → OneMore e r s
    → s.memory ≡ sum_by memory_in (es ++ e ∷ []) + wanted
memory_more es e r s wanted is o =
    let sum = sum_by-append memory_in es (e ∷ []) in
    let last = sum_by-cons memory_in e [] in
    let more = o.memory in
    omega arith

fit_more : (alone : Alone) (vs : List Visitor) (v : Visitor) → AllFit alone vs → Fits alone v → AllFit alone (vs ++ v ∷ [])
fit_more alone [] v all f = (f, tt)
fit_more alone (w ∷ vs) v all f = (all.0, fit_more alone vs v all.1 f)

-- one visitor more comes, is served and is parted
row_more : (alone : Alone) (before now come after : Option Row) (vs : List Visitor) (e : Ended) (told-at told : Option Told) (faults : ℕ)
    → IsServedRow alone before now vs → Lets now come told-at
    → ((all : List Item) → told-at ≡ Some (fresh all) → IsEnded alone all e told) → (e ≡ ended.LinkFault → 0 < faults)
    → Parts come after told faults
    → IsServedRow alone before after (vs ++ record { parted = record { told = told; faults = faults }; end = e } ∷ [])
row_more alone None now come after vs e told-at told faults s lets ends failed parts = tt
row_more alone (Some b) now come after vs e told-at told faults s lets ends failed parts =
    let v : Visitor = record { parted = record { told = told; faults = faults }; end = e } in
    let row : Row = s.0 in
    let l = subst (λ z. Lets z come told-at) s.1 lets in
    let all : List Item = l.0 in
    let rest : List (List Item) = l.1 in
    let end = ends all l.3 in
    let p = subst (λ z. Parts z after told faults) l.4 parts in
    let asks : asked v ≡ all = ap all_of end.1 ∙ end.2 in (
      record { waiting = rest; parted = row.parted ++ v.parted ∷ [] },
      p,
      record {
        parted = ap (λ ps. ps ++ v.parted ∷ []) s.2.parted ∙ append_assoc b.parted (map (λ (v : Visitor). v.parted) vs) (v.parted ∷ [])
            ∙ ap (λ ps. b.parted ++ ps) (sym (map-append (λ (v : Visitor). v.parted) vs (v ∷ [])));
        first = ap (λ ms. ms ++ rest) (map-append asked vs (v ∷ [])) ∙ append_assoc (map asked vs) (asked v ∷ []) rest
            ∙ ap (λ a. map asked vs ++ a ∷ rest) asks ∙ ap (λ w. map asked vs ++ w) (sym l.2) ∙ s.2.first;
        fit = fit_more alone vs v s.2.fit (record { told = end.0; is = end.1; ends = end.3; failed = failed });
      },
    )

pub part_more : {alone : Alone} {before now : Option Row} {r : Report} {turn : ℕ} (come after : Option Row) (s : Report) (e : Ended)
    (told-at told : Option Told) (faults : ℕ) → IsPart alone before now r turn → Lets now come told-at
    → ((all : List Item) → told-at ≡ Some (fresh all) → IsEnded alone all e told) → (e ≡ ended.LinkFault → 0 < faults)
    → Parts come after told faults → OneMore e r s → IsPart alone before after s (turn + 1)
part_more {alone = alone} {before = before} {now = now} {r = r} come after s e told-at told faults p lets ends failed parts o =
    let v : Visitor = record { parted = record { told = told; faults = faults }; end = e } in
    let vs : List Visitor = p.came in
    record {
      came = vs ++ v ∷ [];
      counts = subst (λ es. Counts es s) (sym (map-append (λ (v : Visitor). v.end) vs (v ∷ []))) (counts_more (map (λ (v : Visitor). v.end) vs) e r s p.counts o);
      row = row_more alone before now come after vs e told-at told faults p.row lets ends failed parts;
      wanted = p.wanted;
      memory_is = subst (λ es. s.memory ≡ sum_by memory_in es + p.wanted) (sym (map-append (λ (v : Visitor). v.end) vs (v ∷ [])))
          (memory_more (map (λ (v : Visitor). v.end) vs) e r s p.wanted p.memory_is o);
      turns = let a = p.turns in let b = o.visitors in let d = o.doors in omega arith;
    }

-- no visitor comes
row_rests : (alone : Alone) (before now after : Option Row) (vs : List Visitor) → IsServedRow alone before now vs → Rests now after → IsServedRow alone before after vs
row_rests alone None now after vs s rests = tt
row_rests alone (Some b) now after vs s rests =
    let r = subst (λ z. Rests z after) s.1 rests in
    (s.0, r, s.2)

pub empty_rests : (now after : Option Row) → IsEmpty now after → Rests now after
empty_rests None after e = tt
empty_rests (Some b) after e = e.1

-- one fault of the door more, or want of memory so often more, and else the same numbers
pub record IsLike (more : ℕ) (r s : Report) : Type 0 where
  pub visitors : s.visitors ≡ r.visitors
  pub closed : s.closed ≡ r.closed
  pub links : s.links ≡ r.links
  pub many : s.many ≡ r.many
  pub memory : s.memory ≡ r.memory + more
  pub one : s.doors + more ≡ r.doors + 1

pub part_rests : {alone : Alone} {before now : Option Row} {r : Report} {turn : ℕ} (more : ℕ) (after : Option Row) (s : Report)
    → IsPart alone before now r turn → Rests now after → IsLike more r s → IsPart alone before after s (turn + 1)
part_rests {alone = alone} {before = before} {now = now} more after s p rests l =
    let c = p.counts in
    record {
      came = p.came;
      counts = record { visitors = l.visitors ∙ c.visitors; closed = l.closed ∙ c.closed; links = l.links ∙ c.links; many = l.many ∙ c.many; memory = let a = c.memory in let b = l.memory in omega arith };
      row = row_rests alone before now after p.came p.row rests;
      wanted = p.wanted + more;
      memory_is = let a = p.memory_is in let b = l.memory in omega arith;
      turns = let a = p.turns in let b = l.visitors in let d = l.one in omega arith;
    }

-- nothing changed
pub part_ends : {alone : Alone} {before now : Option Row} {r : Report} {turn : ℕ} (after : Option Row) → IsPart alone before now r turn → Rests now after
    → IsPart alone before after r turn
part_ends {alone = alone} {before = before} {now = now} after p rests = record {
  came = p.came;
  counts = p.counts;
  row = row_rests alone before now after p.came p.row rests;
  wanted = p.wanted;
  memory_is = p.memory_is;
  turns = p.turns;
}

pub rose_some : (a b : ℕ) → a ≡ 0 → Rose a b → 0 < b
rose_some a b z r = let s : min (a + 1) (2 ^ 64 - 1) ≤ b = r in omega (arith, z, s)

-- one fault more is counted, and the count of the door rose
pub doors_more : (n doors before after more : ℕ) → min (n + doors) (2 ^ 64 - 1) ≤ before → Rose before after → more ≤ doors + 1
    → min (n + more) (2 ^ 64 - 1) ≤ after
doors_more n doors before after more counted r one = let s : min (before + 1) (2 ^ 64 - 1) ≤ after = r in omega (arith, counted, s, one)

-- where a fault is counted, the count of the door rose
pub rose_of : (n doors after : ℕ) → min (n + doors) (2 ^ 64 - 1) ≤ after → 0 < doors → Rose n after
rose_of n doors after counted some = let rose : min (n + 1) (2 ^ 64 - 1) ≤ after = omega (arith, counted, some) in rose

pub part_bounded : {alone : Alone} {before now : Option Row} {r : Report} {turn : ℕ} → IsPart alone before now r turn → turn < 2 ^ 32 → IsBounded r
part_bounded p few =
    let c = p.counts in
    let es = map (λ (v : Visitor). v.end) p.came in
    let many = most_visitors p in
    let wanting = most_memory p in
    let all = c.visitors in
    record {
      visitors = omega arith;
      closed = let is = c.closed in let b = at_most closed_in closed_one es in omega arith;
      links = let is = c.links in let b = at_most links_in links_one es in omega arith;
      many = let is = c.many in let b = at_most many_in many_one es in omega arith;
      memory = omega arith;
      doors = let t = p.turns in omega arith;
    }

-- no more visitors are served than come
waited : (vs : List Visitor) (b row : Row) (n : ℕ) → n ≡ length (map (λ (v : Visitor). v.end) vs) → map asked vs ++ row.waiting ≡ b.waiting
    → length b.waiting ≡ n + length row.waiting
waited vs b row n count first =
    let whole : length (map asked vs ++ row.waiting) ≡ length b.waiting = ap (λ xs. length xs) first in
    let sum : length (map asked vs ++ row.waiting) ≡ length (map asked vs) + length row.waiting = length-append (map asked vs) row.waiting in
    let a : length (map asked vs) ≡ length vs = length-map vs asked in
    let e : length (map (λ (v : Visitor). v.end) vs) ≡ length vs = length-map vs (λ (v : Visitor). v.end) in
    omega arith

-- where nobody waits any more, all who waited were served
pub none_waits : {alone : Alone} {before now : Option Row} {r : Report} {turn : ℕ} (after : Option Row) (quota : ℕ) (accepts : ℕ) → IsPart alone before now r turn
    → IsEmpty now after → IfSome before (λ b. (r.visitors ≡ length b.waiting) ⊎ (accepts ≡ quota))
none_waits {before = None} after quota accepts p empty = tt
none_waits {before = Some b} {r = r} after quota accepts p empty =
    let row : Row = p.row.0 in
    let e = subst (λ z. IsEmpty z after) p.row.1 empty in
    let none : length row.waiting ≡ 0 = ap (λ xs. length xs) e.0 in
    let long = waited p.came b row r.visitors p.counts.visitors p.row.2.first in
    inl (omega arith)

-- where the accepts were used up
pub used_up : (P : Row → Type 0) (before : Option Row) (quota accepts : ℕ) → accepts ≡ quota → IfSome before (λ b. P b ⊎ (accepts ≡ quota))
used_up P None quota accepts all = tt
used_up P (Some b) quota accepts all = inr all

-- where no door failed and memory wasn't wanting, as many visitors were served as came, up to the quota
all_served : (alone : Alone) (before now : Option Row) (vs : List Visitor) (quota n : ℕ) → n ≡ length (map (λ (v : Visitor). v.end) vs)
    → IsServedRow alone before now vs → n ≤ quota → IfSome before (λ b. (n ≡ length b.waiting) ⊎ (n ≡ quota))
    → IfSome before (λ b. n ≡ min quota (length b.waiting))
all_served alone None now vs quota n count row few turns = tt
all_served alone (Some b) now vs quota n count row few turns =
    let long = waited vs b row.0 n count row.2.first in
    ⊎_elim (λ all. omega (arith, all, few)) (λ full. omega (arith, full, long)) turns

turns_only : (before : Option Row) (n doors wanted quota : ℕ) → doors ≡ 0 → wanted ≡ 0 → IfSome before (λ b. (n ≡ length b.waiting) ⊎ (n + doors + wanted ≡ quota))
    → IfSome before (λ b. (n ≡ length b.waiting) ⊎ (n ≡ quota))
turns_only None n doors wanted quota d w turns = tt
turns_only (Some b) n doors wanted quota d w turns = ⊎_elim (λ all. inl all) (λ full. inr (omega (arith, full, d, w))) turns

no_doors : (n : ℕ) → (0 < n → ⊥) → n ≡ 0
no_doors zero h = refl
no_doors (suc n) h = absurd (h (omega arith))

pub share_whole : {alone : Alone} {quota : ℕ} {before after : Seen} {r : Report} → IsShare alone quota before after r
    → (Rose before.faults after.faults → ⊥) → r.memory ≡ 0 → IfSome before.queue (λ b. r.visitors ≡ min quota (length b.waiting))
share_whole {alone = alone} {quota = quota} {before = before} {after = after} {r = r} s quiet none =
    let zero_doors = no_doors r.doors (λ some. quiet (rose_of before.faults r.doors after.faults s.doors some)) in
    let memory = s.memory in
    let zero_wanted : s.wanted ≡ 0 = omega arith in
    let few = s.few in
    all_served alone before.queue after.queue s.visitors quota r.visitors s.counts.visitors s.row (omega arith)
    (turns_only before.queue r.visitors r.doors s.wanted quota zero_doors zero_wanted s.turns)
