-- The places of cells in an order.
use Rattle.std.specs.Prelude.{◌≡◌, ℕ, ◌<◌, ◌==◌, Bool, IsTrue, List, length, slice_index}
use Rattle.std.specs.List.{list_any}
use Rattle.graph_meaning.specs.Graph.{is_in}
use Rattle.cell_graph.specs.Counts.{list_in}

-- the place is that of one of the cells
abbrev pub is_placed : List ℕ → List ℕ → ℕ → Bool
is_placed places cells q = list_any (λ c. q == slice_index places c) cells

-- Cells stand in an order, each at its place and no other, and the children of each behind it.
pub record ArePlaced (ordered places : List ℕ) (below : List (List ℕ)) : Type 0 where
  pub count : length places ≡ length ordered
  pub lists : length below ≡ length ordered
  pub inside : (q : ℕ) → q < length ordered → slice_index ordered q < length ordered
  pub place : (q : ℕ) → q < length ordered → slice_index places (slice_index ordered q) ≡ q
  pub there : (c : ℕ) → c < length ordered → slice_index places c < length ordered
  pub cell : (c : ℕ) → c < length ordered → slice_index ordered (slice_index places c) ≡ c
  pub behind : (a c : ℕ) → IsTrue (is_in c (list_in below a)) → slice_index places a < slice_index places c
