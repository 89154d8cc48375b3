-- The numbers of reports.
use Rattle.std.specs.Prelude.{◌≡◌, ℕ, ◌+◌, ◌*◌, ◌^◌, ◌<◌, ◌≤◌, List, length, sum_by}
use Rattle.session.specs.declared.ended.Ended.{Ended}
use Rattle.session.specs.declared.ended.Ended.TheVariants as ended
use Rattle.ws_server.specs.declared.report.Report.{Report}

abbrev pub closed_in : Ended → ℕ
closed_in ended.Closed = 1
closed_in e = 0

abbrev pub links_in : Ended → ℕ
links_in ended.LinkFault = 1
links_in e = 0

abbrev pub many_in : Ended → ℕ
many_in ended.TooMany = 1
many_in e = 0

abbrev pub memory_in : Ended → ℕ
memory_in ended.Memory = 1
memory_in e = 0

-- a report counts each visitor by the end of the session; want of memory it counts elsewhere, too
pub record Counts (ends : List Ended) (r : Report) : Type 0 where
  pub visitors : r.visitors ≡ length ends
  pub closed : r.closed ≡ sum_by closed_in ends
  pub links : r.links ≡ sum_by links_in ends
  pub many : r.many ≡ sum_by many_in ends
  pub memory : sum_by memory_in ends ≤ r.memory

-- nothing is counted yet
pub record IsNew (r : Report) : Type 0 where
  pub visitors : r.visitors ≡ 0
  pub closed : r.closed ≡ 0
  pub links : r.links ≡ 0
  pub many : r.many ≡ 0
  pub memory : r.memory ≡ 0
  pub doors : r.doors ≡ 0

-- memory was wanting before the first visitor
pub record IsUnserved (r : Report) : Type 0 where
  pub visitors : r.visitors ≡ 0
  pub closed : r.closed ≡ 0
  pub links : r.links ≡ 0
  pub many : r.many ≡ 0
  pub memory : r.memory ≡ 1
  pub doors : r.doors ≡ 0

-- one visitor more
pub record OneMore (e : Ended) (r s : Report) : Type 0 where
  pub visitors : s.visitors ≡ r.visitors + 1
  pub closed : s.closed ≡ r.closed + closed_in e
  pub links : s.links ≡ r.links + links_in e
  pub many : s.many ≡ r.many + many_in e
  pub memory : s.memory ≡ r.memory + memory_in e
  pub doors : s.doors ≡ r.doors

-- the numbers of both
pub record IsBoth (r s t : Report) : Type 0 where
  pub visitors : t.visitors ≡ r.visitors + s.visitors
  pub closed : t.closed ≡ r.closed + s.closed
  pub links : t.links ≡ r.links + s.links
  pub many : t.many ≡ r.many + s.many
  pub memory : t.memory ≡ r.memory + s.memory
  pub doors : t.doors ≡ r.doors + s.doors

-- the numbers are the sums of those of these reports
pub record IsSum (rs : List Report) (r : Report) : Type 0 where
  pub visitors : r.visitors ≡ sum_by (λ (s : Report). s.visitors) rs
  pub closed : r.closed ≡ sum_by (λ (s : Report). s.closed) rs
  pub links : r.links ≡ sum_by (λ (s : Report). s.links) rs
  pub many : r.many ≡ sum_by (λ (s : Report). s.many) rs
  pub memory : r.memory ≡ sum_by (λ (s : Report). s.memory) rs
  pub doors : r.doors ≡ sum_by (λ (s : Report). s.doors) rs

-- ---- that no number comes to its end

-- no number of visitors is at its end
pub record IsSmall (r : Report) : Type 0 where
  pub visitors : r.visitors < 2 ^ 63
  pub closed : r.closed < 2 ^ 63
  pub links : r.links < 2 ^ 63
  pub many : r.many < 2 ^ 63
  pub memory : r.memory < 2 ^ 63

-- each number is at most that of fewer than 2^32 turns
pub record IsBounded (r : Report) : Type 0 where
  pub visitors : r.visitors < 2 ^ 32
  pub closed : r.closed < 2 ^ 32
  pub links : r.links < 2 ^ 32
  pub many : r.many < 2 ^ 32
  pub memory : r.memory < 2 ^ 32
  pub doors : r.doors < 2 ^ 32

-- each number is at most that of k such reports
pub record IsWithin (k : ℕ) (r : Report) : Type 0 where
  pub visitors : r.visitors ≤ k * 4294967296
  pub closed : r.closed ≤ k * 4294967296
  pub links : r.links ≤ k * 4294967296
  pub many : r.many ≤ k * 4294967296
  pub memory : r.memory ≤ k * 4294967296
  pub doors : r.doors ≤ k * 4294967296
