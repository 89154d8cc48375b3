-- A file of the thin form as its lines go by.
use Rattle.std.specs.Prelude.{◌≡◌, ◌⊎◌, ℕ, ◌+◌, ◌≤◌, not, if◌then◌else◌, IsTrue, List, [], ◌∷◌, ◌++◌, length}
use Rattle.std.specs.List.{count_by}
use Rattle.form_meaning.specs.Fails.{is_body_line, IsAlone}
use Rattle.form_meaning.specs.Thin.{Elements, is_line, stands_alone, line_text, import_line, app_line, decorator_line, definition_line, main_line, last_line}
use Rattle.py_tree.specs.TextLines.{text_of}
use Rattle.py_tree.specs.Trees.{Head, stmt, Stmts, end, then_comes}
use Rattle.thin_form.specs.FileParts.{At, IsIndented}
use Rattle.thin_form.specs.declared.thin_file.ThinFault.{ThinFault}
use Rattle.thin_form.specs.declared.thin_file.ThinFault.TheVariants.{Thin, Memory}

-- which line comes next: the first, the second, one after the header, one after a decorator, the first of a body, one after a body
-- line, one after a line that is a whole body, the last, or none
pub data Place : Type 0 where
  First : Place
  Second : Place
  Between : Place
  Definition : Place
  Body : Place
  AfterBody : Place
  AfterAlone : Place
  Last : Place
  Past : Place

-- no line of this kind comes next
abbrev pub IsNoNext : (List ℕ → Type 0) → List ℕ → Type 0
IsNoNext P bytes = (next after : List ℕ) → bytes ≡ text_of (next ∷ []) ++ after → P next → ⊥

-- the line is that of a body
abbrev pub IsBody : Elements → List ℕ → Type 0
IsBody es line = (head : Head) × IsTrue (is_line es head) × (line ≡ line_text head)

-- the line is that of a body which may have more lines
abbrev pub IsShared : Elements → List ℕ → Type 0
IsShared es line = (head : Head) × IsTrue (is_line es head) × IsTrue (not (stands_alone head)) × (line ≡ line_text head)

-- The lines that fit at a place of a file of these elements, and the place after each.
pub data Fits (es : Elements) : Place → List ℕ → Place → Type 0 where
  first : (line : List ℕ) → line ≡ import_line → Fits es First line Second
  second : (line : List ℕ) → line ≡ app_line → Fits es Second line Between
  decorator : (line : List ℕ) → line ≡ decorator_line → Fits es Between line Definition
  main : (line : List ℕ) → line ≡ main_line → Fits es Between line Last
  definition : (line : List ℕ) → line ≡ definition_line → Fits es Definition line Body
  body : (line : List ℕ) → IsShared es line → Fits es Body line AfterBody
  next_body : (line : List ℕ) → IsShared es line → Fits es AfterBody line AfterBody
  next_decorator : (line : List ℕ) → line ≡ decorator_line → Fits es AfterBody line Definition
  next_main : (line : List ℕ) → line ≡ main_line → Fits es AfterBody line Last
  alone : (line : List ℕ) → IsAlone es line → Fits es Body line AfterAlone
  decorator_behind : (line : List ℕ) → line ≡ decorator_line → Fits es AfterAlone line Definition
  main_behind : (line : List ℕ) → line ≡ main_line → Fits es AfterAlone line Last
  last : (line : List ℕ) → line ≡ last_line → Fits es Last line Past

-- Lines that fit one after the other lead from one place to another.
pub data Leads (es : Elements) : Place → List (List ℕ) → Place → Type 0 where
  none : (p : Place) → Leads es p [] p
  then_fits : (p q r : Place) (line : List ℕ) (lines : List (List ℕ)) → Fits es p line q → Leads es q lines r
      → Leads es p (line ∷ lines) r

-- no indented line, whole or not, comes after one that stands alone
abbrev pub IsApart : Place → List ℕ → Type 0
IsApart at bytes = at ≡ AfterAlone → IsIndented bytes → ⊥

-- A cell may begin at the place, or the last lines, and no other line that fits there comes.
pub record IsBetween (es : Elements) (at : Place) (bytes : List ℕ) : Type 0 where
  pub cell : Fits es at decorator_line Definition
  pub close : Fits es at main_line Last
  pub apart : IsApart at bytes
  pub over : (next after : List ℕ) (to : Place) → bytes ≡ text_of (next ∷ []) ++ after → Fits es at next to
      → (next ≡ decorator_line) ⊎ (next ≡ main_line)

-- the place after the lines of a body
abbrev pub place_after : Stmts → Place
place_after end = Body
place_after (then_comes (stmt n head block) rest) = if stands_alone head then AfterAlone else AfterBody

-- Lines lead past cells, and no further cell comes.
abbrev pub LeadsPastCells : Elements → List (List ℕ) → List ℕ → Type 0
LeadsPastCells es lines bytes =
    (at : Place) × Leads es Between lines at × IsBetween es at bytes × IsNoNext (λ line. line ≡ decorator_line) bytes

-- Reading from a place of the file stops at a line. Those before it lead to a place, and there no whole line comes, or none that
-- fits: save a body line for which there is no room, and one that stands alone and that an indented line follows.
pub record IsStuck (es : Elements) (before : At) (from : Place) (line : ℕ) : Type 0 where
  pub lines : List (List ℕ)
  pub at : Place
  pub rest : List ℕ
  pub leads : Leads es from lines at
  pub bytes : before.bytes ≡ text_of lines ++ rest
  pub number : line ≡ before.line + length lines
  pub few : count_by is_body_line lines ≤ before.room
  pub apart : IsApart at rest
  pub stuck : (next after : List ℕ) (to : Place) → rest ≡ text_of (next ∷ []) ++ after → Fits es at next to
      → (IsBody es next × (count_by is_body_line lines ≡ before.room)) ⊎ ((to ≡ AfterAlone) × IsIndented after)

-- Reading from a place of the file stops at the line that is named. Want of memory has no place here.
abbrev pub StopsAt : Elements → At → Place → ThinFault → Type 0
StopsAt es before from (Thin line) = IsStuck es before from line
StopsAt es before from Memory = Unit {0}
