-- Cells that are marked.
use Rattle.std.specs.Prelude.{ℕ, Bool, false, List, slice_index_or}

-- the cell's mark, and none past the last one
abbrev pub is_marked : List Bool → ℕ → Bool
is_marked marked c = slice_index_or marked c false
