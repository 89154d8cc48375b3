-- What a report tells of the visitors who were newly parted, whichever of them ended how.
use Rattle.std.specs.Prelude.{◌≡◌, ◌⊎◌, ℕ, ◌+◌, ◌<◌, ◌≤◌, min, All, List, [], ◌∷◌, ◌++◌, drop, length, sum_by, Option, Some, None}
use Rattle.link_io.specs.Doors.{Parted, Row}
use Rattle.link_io.specs.Links.{Item, Told}
use Rattle.link_io.specs.Outside.{Rose}
use Rattle.link_io.specs.Porches.{Seen}
use Rattle.session.specs.Serving.{message_count_limit}
use Rattle.session.specs.Talks.{IsClose, IsNoClose}
use Rattle.session.specs.declared.ended.Ended.TheVariants as ended
use Rattle.ws_server.specs.Visitors.{Alone, Ends}
use Rattle.ws_server.specs.declared.report.Report.{Report}

-- ---- doors

-- each door tells its visitors
abbrev pub AreTold : List Seen → Type 0
AreTold doors = All (λ (s : Seen). (row : Row) × (s.queue ≡ Some row)) doors

-- the count of one of the doors rose
abbrev pub SomeRose : List Seen → List Seen → Type 0
SomeRose [] after = ⊥
SomeRose (b ∷ bs) [] = ⊥
SomeRose (b ∷ bs) (a ∷ more) = Rose b.faults a.faults ⊎ SomeRose bs more

abbrev pub waiting_in : Option Row → List (List Item)
waiting_in None = []
waiting_in (Some row) = row.waiting

abbrev pub parted_in : Option Row → List Parted
parted_in None = []
parted_in (Some row) = row.parted

-- those who were parted since then, door by door
abbrev pub newly_parted : List Seen → List Seen → List Parted
newly_parted [] after = []
newly_parted (b ∷ bs) [] = []
newly_parted (b ∷ bs) (a ∷ more) = drop (length (parted_in b.queue)) (parted_in a.queue) ++ newly_parted bs more

-- ---- visitors

-- at least so many of the elements are so
abbrev pub AtLeast : {X : Type 0} → ℕ → (X → Type 0) → List X → Type 0
AtLeast n P [] = n ≡ 0
AtLeast n P (x ∷ xs) = AtLeast n P xs ⊎ ((k : ℕ) × (n ≡ k + 1) × P x × AtLeast k P xs)

-- the link was read to its end or to a close message, and the texts are exactly those of a visitor alone for the messages before it
abbrev pub IsClosed : Alone → Parted → Type 0
IsClosed alone p = (t : Told) × (p.told ≡ Some t) × Ends alone ended.Closed t

-- as many messages were taken as one session answers
abbrev pub IsFull : Parted → Type 0
IsFull p = (t : Told) × (p.told ≡ Some t) × (message_count_limit ≤ length t.taken)

-- The texts are a prefix of those of a visitor alone for the messages that were taken, of which none is a close message, but for a last one at most
-- which wasn't answered: a close message, or one at which memory was wanting. Where there is one, all texts for those before it were sent.
pub record IsAnswered (alone : Alone) (memory : ℕ) (p : Parted) : Type 0 where
  pub told : Told
  pub is : p.told ≡ Some told
  pub heard : List Item
  pub unheard : List Item
  pub taken : told.taken ≡ heard ++ unheard
  pub one : length unheard ≤ 1
  pub unclosed : All IsNoClose heard
  pub close : memory ≡ 0 → All IsClose unheard
  pub texts : List (List ℕ)
  pub are : alone heard texts
  pub rest : List (List ℕ)
  pub sent : told.sent ++ rest ≡ texts
  pub behind : (unheard ≡ []) ⊎ (rest ≡ [])

-- What a report tells. By itself: who is counted under no other number met want of memory, and a fault that is counted is one of a door. Where all doors
-- tell their visitors, it tells of those who were newly parted; and where no door failed and memory wasn't wanting, all who waited were served, up to
-- each door's quota.
pub record Tells (alone : Alone) (quota : ℕ) (before after : List Seen) (r : Report) : Type 0 where
  pub least : r.closed + r.links + r.many ≤ r.visitors
  pub most : r.visitors ≤ r.closed + r.links + r.many + r.memory
  pub doors : 0 < r.doors → SomeRose before after
  pub visitors : AreTold before → r.visitors ≡ length (newly_parted before after)
  pub closed : AreTold before → AtLeast r.closed (IsClosed alone) (newly_parted before after)
  pub links : AreTold before → AtLeast r.links (λ p. 0 < p.faults) (newly_parted before after)
  pub many : AreTold before → AtLeast r.many IsFull (newly_parted before after)
  pub sent : AreTold before → All (IsAnswered alone r.memory) (newly_parted before after)
  pub whole : AreTold before → (SomeRose before after → ⊥) → r.memory ≡ 0
      → r.visitors ≡ sum_by (λ (b : Seen). min quota (length (waiting_in b.queue))) before
