-- How far a file of the thin form is read.
use Rattle.std.specs.Prelude.{◌≡◌, ℕ, ◌+◌, ◌<◌, ◌≤◌, Bool, not, IsTrue, List, [], ◌∷◌, ◌++◌, length, flat_map, sum_by, codes, Option, Result, MatchResult, IsSomeAnd}
use Rattle.std.specs.Global.{Vec}
use Rattle.thin_form.specs.declared.thin_file.ThinFault.{ThinFault}
use Rattle.thin_form.specs.declared.thin_file.ThinFault.TheVariants.{Memory}
use Rattle.form_meaning.specs.Thin.{Elements, is_line, stands_alone, is_empty, are_lines, line_count, is_whole, is_cell, are_cells, line_text, body_lines, cell_lines}
use Rattle.py_tree.specs.TextLines.{text_of}
use Rattle.py_tree.specs.Trees.{Head, stmt, Stmts, end, Cell}
use Rattle.py_tree.specs.Trees as pure
use Rattle.py_tree.specs.View.{view_stmt, view_stmts, view_cell, view_cells}
use Rattle.py_tree.specs.declared.tree.CellCode.{CellCode}
use Rattle.py_tree.specs.declared.tree.Stmt.{Stmt}

-- a place in a file
pub record At : Type 0 where
  -- the bytes that are left
  pub bytes : List ℕ
  -- the number of the line with which they begin
  pub line : ℕ
  -- how many more body lines there may be
  pub room : ℕ

-- Between the places stand these lines, so many of them body lines.
pub record IsPast (before after : At) (lines : List (List ℕ)) (body : ℕ) : Type 0 where
  pub bytes : before.bytes ≡ text_of lines ++ after.bytes
  pub line : after.line ≡ before.line + length lines
  pub room : before.room ≡ after.room + body

-- the bytes begin with this one
abbrev pub BeginsWith : ℕ → List ℕ → Type 0
BeginsWith b bytes = (after : List ℕ) × (bytes ≡ b ∷ after)

-- the bytes begin with an indent
abbrev pub IsIndented : List ℕ → Type 0
IsIndented bytes = (after : List ℕ) × (bytes ≡ codes "    " ++ after)

-- A line that stands alone is the first of its body, and no indented line comes after it.
abbrev pub IsPlaced : Bool → Head → List ℕ → Type 0
IsPlaced first head rest = IsTrue (stands_alone head) → IsTrue first × (IsIndented rest → ⊥)

-- Between the places stands a line of a body, the first one or a later one.
pub record HasStmt (es : Elements) (first : Bool) (before after : At) (s : pure.Stmt) : Type 0 where
  pub head : Head
  pub is : s ≡ stmt before.line head end
  pub fits : IsTrue (is_line es head)
  pub placed : IsPlaced first head after.bytes
  pub past : IsPast before after (line_text head ∷ []) 1

-- Between the places stand the lines of a body.
pub record HasBody (es : Elements) (before after : At) (body : Stmts) : Type 0 where
  pub fits : IsTrue (are_lines es before.line body)
  pub past : IsPast before after (body_lines body) (line_count body)

-- Between the places stands a cell.
pub record HasCell (es : Elements) (before after : At) (cell : Cell) : Type 0 where
  pub fits : IsTrue (is_cell es before.line cell)
  pub past : IsPast before after (cell_lines cell) (line_count cell.body)

-- Between the places stand cells.
pub record HasCells (es : Elements) (before after : At) (cells : List Cell) : Type 0 where
  pub fits : IsTrue (are_cells es before.line cells)
  pub past : IsPast before after (flat_map cell_lines cells) (sum_by (λ (c : Cell). line_count c.body) cells)

-- A body line that the bytes begin with, and for which there is room, is the one that is read.
abbrev pub ReadsLine : Elements → Bool → At → At → Result (Option Stmt) ThinFault → Type 0
ReadsLine es first before after result =
    (head : Head) (rest : List ℕ) → IsTrue (is_line es head) → IsPlaced first head rest → 0 < before.room →
    before.bytes ≡ text_of (line_text head ∷ []) ++ rest →
    MatchResult result (λ o. IsSomeAnd o (λ s. view_stmt s ≡ stmt before.line head end) × (after.bytes ≡ rest)) (λ e. e ≡ Memory)

-- A body that the bytes begin with, and that ends there, is the one that is read.
abbrev pub ReadsBody : Elements → At → At → Result (Vec Stmt) ThinFault → Type 0
ReadsBody es before after result =
    (body : Stmts) (rest : List ℕ) → IsTrue (are_lines es before.line body) → IsTrue (not (is_empty body)) → IsTrue (is_whole body) →
    line_count body ≤ before.room → before.bytes ≡ text_of (body_lines body) ++ rest → (BeginsWith 32 rest → ⊥) →
    MatchResult result (λ v. (view_stmts v.items ≡ body) × (after.bytes ≡ rest)) (λ e. e ≡ Memory)

-- likewise a cell
abbrev pub ReadsCell : Elements → At → At → Result (Option CellCode) ThinFault → Type 0
ReadsCell es before after result =
    (cell : Cell) (rest : List ℕ) → IsTrue (is_cell es before.line cell) → line_count cell.body ≤ before.room →
    before.bytes ≡ text_of (cell_lines cell) ++ rest → (BeginsWith 32 rest → ⊥) →
    MatchResult result (λ o. IsSomeAnd o (λ c. view_cell c ≡ cell) × (after.bytes ≡ rest)) (λ e. e ≡ Memory)

-- likewise cells, which end where another line comes
abbrev pub ReadsCells : Elements → At → At → Result (Vec CellCode) ThinFault → Type 0
ReadsCells es before after result =
    (cells : List Cell) (rest : List ℕ) → IsTrue (are_cells es before.line cells) →
    sum_by (λ (c : Cell). line_count c.body) cells ≤ before.room → before.bytes ≡ text_of (flat_map cell_lines cells) ++ rest →
    (BeginsWith 32 rest → ⊥) → (BeginsWith 64 rest → ⊥) →
    MatchResult result (λ v. (view_cells v.items ≡ cells) × (after.bytes ≡ rest)) (λ e. e ≡ Memory)
