-- Values that are set, as they are admitted before one of them is set.
use Rattle.std.specs.Prelude.{◌≡◌, ℕ, false, List, map, Option, Some}
use Rattle.messages.specs.declared.message.SetItem.{SetItem}
use Rattle.visit_meaning.specs.Answer.{On, answer_set, element_in, refused, value_sent}
use Rattle.visit_meaning.specs.WithElement.{with_element}
use Rattle.frames.specs.declared.frame.Frame.{Frame}
use Rattle.run_meaning.specs.Meaning.{Env}
use Rattle.py_tree.specs.Names.{Name}
use Rattle.py_tree.specs.Trees.{Cell}
use Rattle.py_value.specs.Maps.{Map, put}
use Rattle.py_value.specs.View.{data_of}
use Rattle.py_value.specs.declared.types.Data.{Data}
use Rattle.py_value.specs.declared.types.Value.{Value}
use Rattle.kernel.specs.Visit.{is_result}
use Rattle.kernel.specs.declared.state.setting.SetFault.{SetFault}
use Rattle.kernel.specs.declared.state.setting.SetFault.TheVariants as fault

-- what an item sets, and what a value that is admitted sets, by their names
abbrev pub set_by : Env → SetItem → Name × Option Data
set_by env i = (i.name, value_sent env i)

abbrev pub set_to : Name × Value → Name × Option Data
set_to s = (s.0, Some (data_of s.1))

-- each item is admitted by its element, which makes this value of it
abbrev pub AreAdmitted : Env → List SetItem → Map Value → Type 0
AreAdmitted env items sets = map (set_by env) items ≡ map set_to sets

-- A message that sets these items is refused so.
abbrev pub IsRefused : Env → List SetItem → Frame → Type 0
IsRefused env items why =
    (is_result why ≡ false) × ((nb : List Cell) (budget : ℕ) (ui : Map Value) → answer_set nb budget env ui items ≡ refused (On ui) why)

-- why the items aren't set; of want of memory nothing is said
abbrev pub IsWhy : Env → List SetItem → SetFault → Type 0
IsWhy env items (fault.Refused why) = IsRefused env items why
IsWhy env items fault.Memory = Unit {0}

-- the bindings with an element at this present value
abbrev pub with_set : Env → Name × Value → Env
with_set env s = with_element s.0 (element_in env s.0) (Some (data_of s.1)) env

-- present values with this one
abbrev pub with_kept : Map Value → Name × Value → Map Value
with_kept ui s = put s.0 s.1 ui
