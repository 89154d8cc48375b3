-- Where bytes that are no file of the thin form fail.
use Rattle.std.specs.Prelude.{◌≡◌, ◌↔◌, ℕ, zero, suc, ◌<◌, ◌≤◌, Bool, false, not, ◌&&◌, ◌==◌, IsTrue, List, [], ◌∷◌, ◌++◌, length, take, codes}
use Rattle.std.specs.List.{count_by}
use Rattle.std.specs.Str.{bytes_eq}
use Rattle.py_tree.specs.Names.{Name, is_name}
use Rattle.py_tree.specs.Trees.{Tree, Head, assign, import_mo, Cell}
use Rattle.form_meaning.specs.Thin.{Elements, IsForm, makes_slider, stands_alone, is_line, are_cells, line_text, last_line, file_lines}
use Rattle.py_tree.specs.TextLines.{text_of, byte_limit}

-- Of the lines of a file, those of bodies: they begin with a space, and so does the last line.
abbrev pub is_body_line : List ℕ → Bool
is_body_line [] = false
is_body_line (b ∷ bs) = (b == 32) && not (bytes_eq (b ∷ bs) last_line)

-- no cells have these bytes as their file
abbrev pub IsFormless : List ℕ → Type 0
IsFormless bytes = (nb : List Cell) → IsForm bytes nb → ⊥

-- the bytes have this line
abbrev pub HasLine : List ℕ → List ℕ → Type 0
HasLine bytes line = (before : List (List ℕ)) × (after : List ℕ) × (bytes ≡ text_of before ++ text_of (line ∷ []) ++ after)

-- one of their lines makes a slider of this name
abbrev pub HasSlider : List ℕ → Name → Type 0
HasSlider bytes x = (t : Tree) × IsTrue (is_name x) × IsTrue (makes_slider t) × HasLine bytes (line_text (assign (x ∷ []) t))

-- What the lines of any bytes say of elements, also the lines behind the first that doesn't fit.
pub record AreElements (bytes : List ℕ) (es : Elements) : Type 0 where
  pub sliders : (x : Name) → IsTrue (es.is_slider x) ↔ HasSlider bytes x
  pub imported : IsTrue es.imported ↔ HasLine bytes (line_text import_mo)

-- the line stands alone in its cell
abbrev pub IsAlone : Elements → List ℕ → Type 0
IsAlone es line = (head : Head) × IsTrue (is_line es head) × IsTrue (stands_alone head) × (line ≡ line_text head)

-- The bytes begin with k lines with which a file of these elements begins, whatever the number of its body lines; at most 1,000
-- of these k lines are body lines. Where the last of them stands alone in its cell, no indented line follows it.
pub record LinesFit (es : Elements) (bytes : List ℕ) (k : ℕ) : Type 0 where
  pub cells : List Cell
  pub rest : List ℕ
  pub fits : IsTrue (are_cells es 3 cells)
  pub long : k ≤ length (file_lines cells)
  pub few : count_by is_body_line (take k (file_lines cells)) ≤ 1000
  pub text : bytes ≡ text_of (take k (file_lines cells)) ++ rest
  pub alone : (before : List (List ℕ)) (line after : List ℕ) → take k (file_lines cells) ≡ before ++ line ∷ [] → IsAlone es line
      → rest ≡ codes "    " ++ after → ⊥

-- The line at which bytes fail: 0 where there are too many bytes; else the first line that doesn't fit, which is the one after
-- the last `\n` where the file ends too early. The lines before it fit, and with it they don't.
abbrev pub FailsAt : List ℕ → ℕ → Type 0
FailsAt bytes zero = byte_limit < length bytes
FailsAt bytes (suc k) =
    (length bytes ≤ byte_limit) × (es : Elements) × AreElements bytes es × LinesFit es bytes k × (LinesFit es bytes (suc k) → ⊥) × IsFormless bytes
