-- Lists of one item.
use Rattle.std.specs.Prelude.{List, [], ◌∷◌, Option, Some, None}

-- the item of a list that has no other
abbrev pub only : {A : Type 0} → List A → Option A
only [] = None
only (a ∷ []) = Some a
only (a ∷ b ∷ more) = None
