-- Finite maps from names: their entries, each name once, in the order of bytes.
use Rattle.std.specs.Prelude.{◌≡◌, ℕ, Bool, if◌then◌else◌, List, [], ◌∷◌, Option, Some, None}
use Rattle.std.specs.Str.{bytes_eq}
use Rattle.std.specs.Cmp.Lexicographic.{slice_cmp}
use Rattle.std.specs.Ordering.{nat_cmp}
use Rattle.std.specs.declared.cmp.Ordering.{Ordering}
use Rattle.std.specs.declared.cmp.Ordering.TheVariants.{Less, Equal, Greater}

abbrev pub Map : Type 0 → Type 0
Map V = List (List ℕ × V)

-- what the map has at a name
abbrev pub look_up : {V : Type 0} → List ℕ → Map V → Option V
look_up name [] = None
look_up name (e ∷ es) = if bytes_eq e.0 name then Some e.1 else look_up name es

abbrev pub put_by : {V : Type 0} → Ordering → List ℕ → V → List ℕ × V → Map V → Map V → Map V
put_by Less name v e es later = (name, v) ∷ e ∷ es
put_by Equal name v e es later = (e.0, v) ∷ es
put_by Greater name v e es later = e ∷ later

-- the map with this value at the name, in place of what it had there
abbrev pub put : {V : Type 0} → List ℕ → V → Map V → Map V
put name v [] = (name, v) ∷ []
put name v (e ∷ es) = put_by (slice_cmp nat_cmp name e.0) name v e es (put name v es)

-- the entries whose names pass the test
abbrev pub where_name : {V : Type 0} → (List ℕ → Bool) → Map V → Map V
where_name p [] = []
where_name p (e ∷ es) = if p e.0 then e ∷ where_name p es else where_name p es

-- the name is less than the first one of the map
abbrev pub IsBelow : {V : Type 0} → List ℕ → Map V → Type 0
IsBelow x [] = Unit {0}
IsBelow x (e ∷ es) = slice_cmp nat_cmp x e.0 ≡ Less

-- each name is less than the next one
abbrev pub IsSortedMap : {V : Type 0} → Map V → Type 0
IsSortedMap [] = Unit {0}
IsSortedMap (e ∷ es) = IsBelow e.0 es × IsSortedMap es
