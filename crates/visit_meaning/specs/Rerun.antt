-- A rerun: values are set, and some cells run one after the other from what is kept.
use Rattle.std.specs.Prelude.{◌≡◌, ℕ, ◌<◌, cond, ◌==◌, List, [], ◌∷◌, ◌++◌, length, Option, Some, None, slice_get}
use Rattle.messages.specs.declared.message.SetItem.{SetItem}
use Rattle.py_tree.specs.Trees.{Cell}
use Rattle.py_value.specs.Maps.{Map}
use Rattle.py_value.specs.declared.types.Data.{Data}
use Rattle.py_value.specs.declared.types.Value.{Value}
use Rattle.frames.specs.declared.frame.CellFrame.{CellFrame}
use Rattle.frames.specs.declared.frame.Frame.TheVariants as frame
use Rattle.run_meaning.specs.Meaning.{Env}
use Rattle.visit_meaning.specs.Answer.{Part, element_in, value_sent, value_set}
use Rattle.visit_meaning.specs.Underway.{HasNoElements, frame_at, outcome_now}
use Rattle.visit_meaning.specs.Whole.{Outcome, whole}
use Rattle.visit_meaning.specs.WithElement.{with_element}

-- what is kept: the bindings, and of each cell its newest frame
pub record Kept : Type 0 where
  pub env : Env
  pub newest : ℕ → Option CellFrame

-- what is kept when nothing is bound, whatever frames were kept before
abbrev pub nothing_bound : (ℕ → Option CellFrame) → Kept
nothing_bound newest = record { env = []; newest = newest }

-- What is kept is what is computed afresh with these present values: the bindings where the whole notebook ends that runs from nothing,
-- and of each cell the frame that it has there. No present value is an element.
pub record IsAfresh (nb : List Cell) (budget : ℕ) (ui : Map Value) (kept : Kept) : Type 0 where
  pub plain : HasNoElements ui
  pub env_is : kept.env ≡ (whole nb budget ui).env
  pub newest_is : (a : ℕ) → a < length nb → kept.newest a ≡ frame_at (whole nb budget ui).frames a

-- ---- values that are set

-- each of the values is admitted by its element
abbrev pub AllSet : Env → Map Value → Type 0
AllSet env [] = Unit {0}
AllSet env (s ∷ sets) = ((d : Data) × (value_set env s ≡ Some d)) × AllSet env sets

-- each of the values that are sent is admitted by its element
abbrev pub AllSent : Env → List SetItem → Type 0
AllSent env [] = Unit {0}
AllSent env (i ∷ items) = ((d : Data) × (value_sent env i ≡ Some d)) × AllSent env items

-- the bindings with those values laid over that are set, one after the other, where their elements admit them
abbrev pub laid_over : Map Value → Env → Env
laid_over [] env = env
laid_over (s ∷ sets) env = laid_over sets (with_element s.0 (element_in env s.0) (value_set env s) env)

-- what is kept when values are set, before a cell runs
abbrev pub with_values : Map Value → Kept → Kept
with_values sets kept = record { env = laid_over sets kept.env; newest = kept.newest }

-- ---- cells that run

-- what is kept when the cell has done this
abbrev pub after_outcome : ℕ → Outcome → Kept → Kept
after_outcome c o kept = record { env = o.env; newest = λ a. cond (c == a) (Some o.frame) (kept.newest a) }

-- what is kept after a cell, which runs from what is kept before it, and may run where the newest frames say that its parents are ok
abbrev pub after_code : List Cell → ℕ → Map Value → ℕ → Option Cell → Kept → Kept
after_code nb budget ui c None kept = kept
after_code nb budget ui c (Some code) kept = after_outcome c (outcome_now nb budget ui kept.env kept.newest c code) kept

abbrev pub after_cell : List Cell → ℕ → Map Value → ℕ → Kept → Kept
after_cell nb budget ui c kept = after_code nb budget ui c (slice_get nb c) kept

-- after cells, one after the other
abbrev pub after_cells : List Cell → ℕ → Map Value → List ℕ → Kept → Kept
after_cells nb budget ui [] kept = kept
after_cells nb budget ui (c ∷ cs) kept = after_cells nb budget ui cs (after_cell nb budget ui c kept)

-- the part of an answer that an outcome is
abbrev pub part_of : Outcome → Part
part_of o = record { frame = frame.Cell o.frame; cost = o.cost }

-- the part that a cell gives which runs from what is kept, and those of cells, one after the other
abbrev pub given_by_code : List Cell → ℕ → Map Value → ℕ → Option Cell → Kept → List Part
given_by_code nb budget ui c None kept = []
given_by_code nb budget ui c (Some code) kept = part_of (outcome_now nb budget ui kept.env kept.newest c code) ∷ []

abbrev pub given_by : List Cell → ℕ → Map Value → List ℕ → Kept → List Part
given_by nb budget ui [] kept = []
given_by nb budget ui (c ∷ cs) kept =
    given_by_code nb budget ui c (slice_get nb c) kept ++ given_by nb budget ui cs (after_cell nb budget ui c kept)
