-- What is told of doors, and what their calls do.
use Rattle.std.specs.Prelude.{◌≡◌, ℕ, List, [], ◌∷◌, ◌++◌, Option, Some, IfSome}
use Rattle.link_io.specs.Links.{Item, Told, fresh}

-- a visitor who was parted: what the link tells, and its count of faults
pub record Parted : Type 0 where
  pub told : Option Told
  pub faults : ℕ

-- what a door tells: the messages of each visitor who is still to come, and those who were parted, the last one at the end
pub record Row : Type 0 where
  pub waiting : List (List Item)
  pub parted : List Parted

-- where it is told, nothing was taken from this link, and nothing was sent over it
abbrev pub IsUnused : Option Told → Type 0
IsUnused told = IfSome told (λ t. (t.taken ≡ []) × (t.sent ≡ []))

-- where it is told, nobody was parted
abbrev pub IsUnvisited : Option Row → Type 0
IsUnvisited row = IfSome row (λ r. r.parted ≡ [])

-- where it is told, nothing changed
abbrev pub Rests : Option Row → Option Row → Type 0
Rests before now = IfSome before (λ b. now ≡ Some b)

-- the first of those who wait comes, and nothing else changed
abbrev pub Lets : Option Row → Option Row → Option Told → Type 0
Lets before now told = IfSome before
    (λ b. (items : List Item) × (rest : List (List Item)) × (b.waiting ≡ items ∷ rest) × (told ≡ Some (fresh items))
    × (now ≡ Some (record { waiting = rest; parted = b.parted })))

-- nobody waits, and nothing changed
abbrev pub IsEmpty : Option Row → Option Row → Type 0
IsEmpty before now = IfSome before (λ b. (b.waiting ≡ []) × (now ≡ Some b))

-- this visitor is the last of the parted ones, and nothing else changed
abbrev pub Parts : Option Row → Option Row → Option Told → ℕ → Type 0
Parts before now told faults = IfSome before
    (λ b. now ≡ Some (record { waiting = b.waiting; parted = b.parted ++ record { told = told; faults = faults } ∷ [] }))
