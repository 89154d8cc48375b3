-- What a report tells of the visitors of doors.
use Rattle.std.specs.Prelude.{◌≡◌, ◌⊎◌, ℕ, ◌+◌, ◌-◌, ◌^◌, ◌<◌, ◌≤◌, min, List, [], ◌∷◌, ◌++◌, length, map, Option, Some, None, IfSome, sum_by}
use Rattle.link_io.specs.Doors.{Parted, Row}
use Rattle.link_io.specs.Links.{Item, Told}
use Rattle.link_io.specs.Porches.{Seen}
use Rattle.session.specs.declared.ended.Ended.{Ended}
use Rattle.session.specs.declared.ended.Ended.TheVariants as ended
use Rattle.ws_server.specs.Reports.{Counts, IsSum, IsUnserved, memory_in}
use Rattle.ws_server.specs.Visitors.{Alone, Ends}
use Rattle.ws_server.specs.declared.report.Report.{Report}

-- a visitor who was parted, and how the session ended
pub record Visitor : Type 0 where
  pub parted : Parted
  pub end : Ended

-- all messages with which a visitor came, where they are told
abbrev pub all_of : Option Told → List Item
all_of None = []
all_of (Some t) = t.taken ++ t.left

abbrev pub asked : Visitor → List Item
asked v = all_of v.parted.told

-- what is told of a visitor fits the end of the session
pub record Fits (alone : Alone) (v : Visitor) : Type 0 where
  pub told : Told
  pub is : v.parted.told ≡ Some told
  pub ends : Ends alone v.end told
  pub failed : v.end ≡ ended.LinkFault → 0 < v.parted.faults

abbrev pub AllFit : Alone → List Visitor → Type 0
AllFit alone [] = Unit {0}
AllFit alone (v ∷ vs) = Fits alone v × AllFit alone vs

-- These visitors were the first who waited, in order, and are the last of those who were parted.
pub record Served (alone : Alone) (before now : Row) (vs : List Visitor) : Type 0 where
  pub parted : now.parted ≡ before.parted ++ map (λ (v : Visitor). v.parted) vs
  pub first : map asked vs ++ now.waiting ≡ before.waiting
  pub fit : AllFit alone vs

-- the same where the door tells its visitors
abbrev pub IsServedRow : Alone → Option Row → Option Row → List Visitor → Type 0
IsServedRow alone before now vs = IfSome before (λ b. (row : Row) × (now ≡ Some row) × Served alone b row vs)

-- The share of a door in a report, whose worker accepts at most so often. Each visitor was served, and is counted by the end of the session; want of
-- memory is that of sessions, and of visitors who would have come. Visitors, faults of the door and those who would have come are no more than the
-- accepts; and where the door tells its visitors, all who waited were served, or the accepts were used up. By each fault that is counted the door's
-- count rose, up to its end, and where none is counted it stayed.
pub record IsShare (alone : Alone) (quota : ℕ) (before after : Seen) (r : Report) : Type 0 where
  pub visitors : List Visitor
  pub wanted : ℕ
  pub counts : Counts (map (λ (v : Visitor). v.end) visitors) r
  pub memory : r.memory ≡ sum_by memory_in (map (λ (v : Visitor). v.end) visitors) + wanted
  pub row : IsServedRow alone before.queue after.queue visitors
  pub doors : min (before.faults + r.doors) (2 ^ 64 - 1) ≤ after.faults
  pub sound : r.doors ≡ 0 → after.faults ≡ before.faults
  pub later : before.faults ≤ after.faults
  pub few : r.visitors + r.doors + wanted ≤ quota
  pub turns : IfSome before.queue (λ b. (r.visitors ≡ length b.waiting) ⊎ (r.visitors + r.doors + wanted ≡ quota))

-- what became of a door, and its worker's report
pub record Gone : Type 0 where
  pub before : Seen
  pub after : Seen
  pub report : Report

abbrev pub AreShares : Alone → ℕ → List Gone → Type 0
AreShares alone quota [] = Unit {0}
AreShares alone quota (g ∷ gs) = IsShare alone quota g.before g.after g.report × AreShares alone quota gs

-- the doors were served, each by a worker, and the report is the sum of the workers'
pub record AreServed (alone : Alone) (quota : ℕ) (before after : List Seen) (r : Report) : Type 0 where
  pub gone : List Gone
  pub shares : AreShares alone quota gone
  pub before_are : map (λ (g : Gone). g.before) gone ≡ before
  pub after_are : map (λ (g : Gone). g.after) gone ≡ after
  pub sum : IsSum (map (λ (g : Gone). g.report) gone) r

-- memory was wanting before the workers began: the doors are as they were
abbrev pub AreLeft : List Seen → List Seen → Report → Type 0
AreLeft before after r = (after ≡ before) × IsUnserved r

-- what the report of `serve_doors` says of the doors
abbrev pub AreReported : Alone → ℕ → List Seen → List Seen → Report → Type 0
AreReported alone quota before after r = AreServed alone quota before after r ⊎ AreLeft before after r
