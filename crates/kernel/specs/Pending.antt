-- The rest of an answer, as definitions speak of it.
use Rattle.std.specs.Prelude.{◌≡◌, ℕ, ◌+◌, ◌-◌, ◌<◌, ◌≤◌, ◌^◌, false, List, [], ◌∷◌, ◌++◌, drop, flat_map, length}
use Rattle.visit_meaning.specs.Answer.{Part, at_no_cost, results_of}
use Rattle.frames.specs.declared.frame.Frame.TheVariants as frame
use Rattle.py_tree.specs.Trees.{Cell}
use Rattle.py_value.specs.Maps.{Map}
use Rattle.py_value.specs.declared.types.Value.{Value}
use Rattle.kernel.specs.Visit.{is_result}
use Rattle.kernel.specs.declared.pending.Cells.{Cells}
use Rattle.kernel.specs.declared.pending.Cells.TheVariants as cells
use Rattle.kernel.specs.declared.pending.Pending.{Pending}
use Rattle.kernel.specs.declared.pending.Pending.TheVariants as pending

-- the numbers of cells
abbrev pub cells_of : Cells → List ℕ
cells_of (cells.Lent items) = items.now
cells_of (cells.Again items) = items

-- the cells whose results are still to come
abbrev pub left_of : Pending → List ℕ
left_of pending.Nothing = []
left_of (pending.Refusal why) = []
left_of (pending.Results cells taken) = drop taken (cells_of cells)

-- The parts of the answer that are still to come: why a message is refused, or the results of cells as the whole notebook has them,
-- and their number.
abbrev pub parts_of : List Cell → ℕ → Map Value → Pending → List Part
parts_of nb budget ui pending.Nothing = []
parts_of nb budget ui (pending.Refusal why) = at_no_cost why ∷ at_no_cost (frame.Done 0) ∷ []
parts_of nb budget ui (pending.Results cells taken) =
    flat_map (λ c. results_of nb budget ui (c ∷ [])) (drop taken (cells_of cells)) ++ at_no_cost (frame.Done (length (cells_of cells))) ∷ []

-- how many they are
abbrev pub count_of : Pending → ℕ
count_of pending.Nothing = 0
count_of (pending.Refusal why) = 2
count_of (pending.Results cells taken) = length (cells_of cells) - taken + 1

-- A refusal is no result of a cell. No more cells are taken than there are, and the frames can be counted.
abbrev pub IsWithin : Pending → Type 0
IsWithin pending.Nothing = Unit {0}
IsWithin (pending.Refusal why) = is_result why ≡ false
IsWithin (pending.Results cells taken) = (taken ≤ length (cells_of cells)) × (length (cells_of cells) + 1 < 2 ^ 32)
