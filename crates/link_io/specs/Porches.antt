-- What is told of porches, and what their calls do.
use Rattle.std.specs.Prelude.{◌≡◌, ℕ, List, ◌++◌, Option, Some, IfSome}
use Rattle.link_io.specs.Doors.{Row}

-- a door: what it tells, and its count of faults
pub record Seen : Type 0 where
  pub queue : Option Row
  pub faults : ℕ

abbrev pub seen : Option Row → ℕ → Seen
seen queue faults = record { queue = queue; faults = faults }

-- what a porch tells: the doors that it still has to give, those that were given back to it last, and the port for which it gave doors last
pub record Stock : Type 0 where
  pub ahead : List Seen
  pub returned : List Seen
  pub port : Option ℕ

-- where it is told, nothing changed
abbrev pub Stays : Option Stock → Option Stock → Type 0
Stays before now = IfSome before (λ b. now ≡ Some b)

-- these doors are the first of those that were to be given, go away from them, and are for this port
abbrev pub Gives : Option Stock → Option Stock → ℕ → List Seen → Type 0
Gives before now port doors = IfSome before
    (λ b. (rest : List Seen) × (b.ahead ≡ doors ++ rest) × (now ≡ Some (record { ahead = rest; returned = b.returned; port = Some port })))

-- these doors are the ones that were given back last
abbrev pub TakesBack : Option Stock → Option Stock → List Seen → Type 0
TakesBack before now doors = IfSome before (λ b. now ≡ Some (record { ahead = b.ahead; returned = doors; port = b.port }))
