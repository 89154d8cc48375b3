-- Worked messages that set several values, or none.
use Rattle.std.specs.Prelude.{ℕ, List, [], ◌∷◌, ◌++◌, codes, pos, Some}
use Rattle.py_tree.specs.Names.{Name}
use Rattle.py_tree.specs.Trees.{binary, Add, import_mo, Cell}
use Rattle.py_value.specs.declared.types.Value.{Value}
use Rattle.py_value.specs.declared.types.Value.TheVariants as V
use Rattle.messages.specs.declared.message.SetItem.{SetItem}
use Rattle.message_meaning.specs.Messages.{set_item}
use Rattle.visit_meaning.specs.Answer.{Answered, State, cost_of_parts, frames_in}
use Rattle.frame_meaning.specs.FrameText.{frame_lines}
use Rattle.program_meaning.specs.Samples.{number, one_line, assigns, shows, value_at, slider_from, slider_to_ten}

-- `import marimo as mo`, `s = mo.ui.slider(0, 10)`, `t = mo.ui.slider(0, 5)` and `s.value + t.value`
abbrev pub two_sliders : List Cell
two_sliders =
    one_line 3 import_mo ∷ assigns 6 (codes "s") slider_to_ten ∷
    assigns 9 (codes "t") (slider_from (number (codes "0")) (number (codes "5"))) ∷
    shows 12 (binary Add (value_at (codes "s")) (value_at (codes "t"))) ∷ []

-- `import marimo as mo`, `a = mo.ui.slider(0, 10)`, `b = mo.ui.slider(a.value, 20)` and `b.value`: a slider that begins where another one stands
abbrev pub chained : List Cell
chained =
    one_line 3 import_mo ∷ assigns 6 (codes "a") slider_to_ten ∷
    assigns 9 (codes "b") (slider_from (value_at (codes "a")) (number (codes "20"))) ∷ shows 12 (value_at (codes "b")) ∷ []

-- a number that is sent for the element of a name, and one that is kept for it
abbrev pub sent : Name → ℕ → SetItem
sent x n = set_item x (Some (V.Int (pos n)))

abbrev pub kept : Name → ℕ → Name × Value
kept x n = (x, V.Int (pos n))

-- what is told of an answer: the state after it, the lines of its frames, and the steps of the cells that run for it
pub record Told : Type 0 where
  pub state : State
  pub lines : List ℕ
  pub steps : ℕ

abbrev pub told : Answered → Told
told a = record { state = a.state; lines = frame_lines (frames_in a.parts); steps = cost_of_parts a.parts }

-- the lines for two sliders at 4 and 2, and for `b` made anew where `a` stands at 2
abbrev pub six_lines : List ℕ
six_lines =
    codes "{\"cell\":3,\"console\":[],\"error\":null,\"output\":{\"text\":\"6\",\"type\":\"plain\"},\"status\":\"ok\"}\n" ++
    codes "{\"done\":1}\n"

abbrev pub anew_lines : List ℕ
anew_lines =
    codes "{\"cell\":2,\"console\":[],\"error\":null,\"output\":null,\"status\":\"ok\"}\n" ++
    codes "{\"cell\":3,\"console\":[],\"error\":null,\"output\":{\"text\":\"2\",\"type\":\"plain\"},\"status\":\"ok\"}\n" ++
    codes "{\"done\":2}\n"
