-- Cells in lists of cells, counted.
use Rattle.std.specs.Prelude.{◌≡◌, ℕ, ◌<◌, ◌==◌, List, [], length, slice_index_or}
use Rattle.std.specs.List.{All, count_by}

-- the list with this number, and no cells past the last one
abbrev pub list_in : List (List ℕ) → ℕ → List ℕ
list_in lists a = slice_index_or lists a []

-- how often the cell is in the list
abbrev pub count_of : ℕ → List ℕ → ℕ
count_of c cells = count_by (λ d. d == c) cells

-- each list has only numbers of lists
abbrev pub AreWithin : List (List ℕ) → Type 0
AreWithin lists = All (All (λ c. c < length lists)) lists

-- The transpose of the lists: d is as often in its list of a as a is in their list of d.
pub record IsTranspose (lists transpose : List (List ℕ)) : Type 0 where
  pub count : length transpose ≡ length lists
  pub each : (a d : ℕ) → count_of d (list_in transpose a) ≡ count_of a (list_in lists d)
