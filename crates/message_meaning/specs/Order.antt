-- Names in the order of their bytes.
use Rattle.std.specs.Prelude.{◌≡◌, ℕ, List, [], ◌∷◌}
use Rattle.std.specs.Ordering.{nat_cmp}
use Rattle.std.specs.Cmp.Lexicographic.{slice_cmp}
use Rattle.std.specs.declared.cmp.Ordering.TheVariants.{Less}
use Rattle.messages.specs.declared.message.SetItem.{SetItem}

-- the name comes before the first one
abbrev pub IsBefore : List ℕ → List SetItem → Type 0
IsBefore k [] = Unit {0}
IsBefore k (i ∷ more) = slice_cmp nat_cmp k i.name ≡ Less

-- each name comes before the next one
abbrev pub Ascend : List SetItem → Type 0
Ascend [] = Unit {0}
Ascend (i ∷ more) = IsBefore i.name more × Ascend more
