-- The thin form of a notebook file: the cells that it has, and the text that they print.
use Rattle.std.specs.Prelude.{◌≡◌, ℕ, ◌+◌, ◌≤◌, Bool, true, false, if◌then◌else◌, not, ◌&&◌, ◌||◌, ◌==◌, nat_le, IsTrue, List, [], ◌∷◌, ◌++◌, length, flat_map, sum_by, codes}
use Rattle.std.specs.List.{list_any}
use Rattle.std.specs.Str.{bytes_eq}
use Rattle.py_tree.specs.Elements.{is_mo_ui}
use Rattle.py_tree.specs.Names.{Name, is_among, is_name}
use Rattle.py_tree.specs.TextLines.{text_of, byte_limit}
use Rattle.py_tree.specs.Numbers.{number_of}
use Rattle.py_tree.specs.Meant.{is_literal}
use Rattle.py_tree.specs.Trees.{Tree, literal, name, binary, Add, attribute, call, Arguments, no_argument, positional, Head, value, assign, import_mo, stmt, Stmts, end, then_comes, Cell}

-- What the lines of a file say of its elements: which names are those of sliders, and whether a line imports `mo`.
pub record Elements : Type 0 where
  pub is_slider : Name → Bool
  pub imported : Bool

-- a number
abbrev pub is_number_tree : Tree → Bool
is_number_tree (literal token) = is_literal token.kind token.spelling
is_number_tree t = false

-- the name of a slider
abbrev pub is_slider_name : Elements → Tree → Bool
is_slider_name es (name x) = is_name x && es.is_slider x
is_slider_name es t = false

-- A number, a name, or `NAME.value` where NAME is that of a slider. The name of a slider stands in no other term.
abbrev pub is_term : Elements → Tree → Bool
is_term es (literal token) = is_literal token.kind token.spelling
is_term es (name x) = is_name x && not (es.is_slider x)
is_term es (attribute base x) = is_slider_name es base && bytes_eq x (codes "value")
is_term es t = false

-- terms joined by `+`, from the left
abbrev pub is_chain : Elements → Tree → Bool
is_chain es (binary Add a b) = is_chain es a && is_term es b
is_chain es t = is_term es t

-- how many terms a chain has
abbrev pub terms : Tree → ℕ
terms (binary Add a b) = terms a + 1
terms t = 1

-- 1 to 32 terms
abbrev pub is_sum : Elements → Tree → Bool
is_sum es t = is_chain es t && nat_le (terms t) 32

-- `mo.ui.slider`
abbrev pub is_maker : Tree → Bool
is_maker (attribute base x) = is_mo_ui base && bytes_eq x (codes "slider")
is_maker t = false

-- the number that a literal spells
abbrev pub number_in : Tree → ℕ
number_in (literal token) = number_of token.spelling
number_in t = 0

-- two numbers, of which the first isn't the greater
abbrev pub are_bounds : Arguments → Bool
are_bounds (positional a (positional b no_argument)) = is_number_tree a && is_number_tree b && nat_le (number_in a) (number_in b)
are_bounds args = false

-- `mo.ui.slider(LOW, HIGH)`
abbrev pub makes_slider : Tree → Bool
makes_slider (call callee args false) = is_maker callee && are_bounds args
makes_slider t = false

-- one name, which is that of a slider or not
abbrev pub is_target : Elements → Bool → List Name → Bool
is_target es slider (x ∷ []) = is_name x && (if slider then es.is_slider x else not (es.is_slider x))
is_target es slider xs = false

-- `SUM`, `NAME = SUM`, `NAME = mo.ui.slider(LOW, HIGH)` in a file that imports `mo`, or `import marimo as mo`
abbrev pub is_line : Elements → Head → Bool
is_line es (value t) = is_sum es t
is_line es (assign targets t) = (is_target es false targets && is_sum es t) || (is_target es true targets && makes_slider t && es.imported)
is_line es import_mo = es.imported
is_line es h = false

-- the line is the whole body of its cell
abbrev pub stands_alone : Head → Bool
stands_alone (assign targets t) = makes_slider t
stands_alone import_mo = true
stands_alone h = false

abbrev pub is_empty : Stmts → Bool
is_empty end = true
is_empty (then_comes s rest) = false

-- lines of the form, numbered from n on, with no blocks
abbrev pub are_lines : Elements → ℕ → Stmts → Bool
are_lines es n end = true
are_lines es n (then_comes (stmt k head block) rest) = (k == n) && is_line es head && is_empty block && are_lines es (n + 1) rest

-- how many lines there are
abbrev pub line_count : Stmts → ℕ
line_count end = 0
line_count (then_comes s rest) = line_count rest + 1

-- none of the lines stands alone
abbrev pub is_plain : Stmts → Bool
is_plain end = true
is_plain (then_comes (stmt k head block) rest) = not (stands_alone head) && is_plain rest

-- a line that stands alone is the only one
abbrev pub is_whole : Stmts → Bool
is_whole body = nat_le (line_count body) 1 || is_plain body

-- a cell whose decorator stands on line n: one or more lines, from line n + 2 on; one that stands alone is the only one
abbrev pub is_cell : Elements → ℕ → Cell → Bool
is_cell es n c = (c.line == n) && not (is_empty c.body) && are_lines es (n + 2) c.body && is_whole c.body

-- cells one after the other, the first one's decorator on line n
abbrev pub are_cells : Elements → ℕ → List Cell → Bool
are_cells es n [] = true
are_cells es n (c ∷ cs) = is_cell es n c && are_cells es (n + 2 + line_count c.body) cs

-- the names of the sliders that a line makes, and that lines make
abbrev pub head_sliders : Head → List Name
head_sliders (assign targets t) = if makes_slider t then targets else []
head_sliders h = []

abbrev pub sliders : Stmts → List Name
sliders end = []
sliders (then_comes (stmt k head block) rest) = head_sliders head ++ sliders rest

-- the line is the import, and one of the lines is
abbrev pub is_import : Head → Bool
is_import import_mo = true
is_import h = false

abbrev pub has_import : Stmts → Bool
has_import end = false
has_import (then_comes (stmt k head block) rest) = is_import head || has_import rest

-- the elements of a notebook
abbrev pub elements_of : List Cell → Elements
elements_of nb =
    record { is_slider = λ x. is_among x (flat_map (λ (c : Cell). sliders c.body) nb); imported = list_any (λ (c : Cell). has_import c.body) nb }

-- the cells of a file of the form: the first one begins on line 3, and they have at most 1,000 body lines
abbrev pub are_thin : List Cell → Bool
are_thin nb = are_cells (elements_of nb) 3 nb && nat_le (sum_by (λ (c : Cell). line_count c.body) nb) 1000

-- The text of an expression, and of arguments with commas between them. Forms that the thin form doesn't have need none.
abbrev mutual
  pub tree_text : Tree → List ℕ
  tree_text (literal token) = token.spelling
  tree_text (name x) = x
  tree_text (binary Add a b) = tree_text a ++ codes " + " ++ tree_text b
  tree_text (attribute base x) = tree_text base ++ codes "." ++ x
  tree_text (call callee args comma) = tree_text callee ++ codes "(" ++ arguments_text args ++ codes ")"
  tree_text t = []

  pub arguments_text : Arguments → List ℕ
  arguments_text (positional t no_argument) = tree_text t
  arguments_text (positional t (positional u rest)) = tree_text t ++ codes ", " ++ arguments_text (positional u rest)
  arguments_text args = []

-- names with commas between them
abbrev pub names_text : List Name → List ℕ
names_text [] = []
names_text (x ∷ []) = x
names_text (x ∷ y ∷ rest) = x ++ codes ", " ++ names_text (y ∷ rest)

-- the text of a line, without an indent
abbrev pub head_text : Head → List ℕ
head_text (value t) = tree_text t
head_text (assign targets t) = names_text targets ++ codes " = " ++ tree_text t
head_text import_mo = codes "import marimo as mo"
head_text h = []

-- the text of a body line, without its `\n`
abbrev pub line_text : Head → List ℕ
line_text head = codes "    " ++ head_text head

-- the two lines that each file begins with
abbrev pub import_line : List ℕ
import_line = codes "import marimo"

abbrev pub app_line : List ℕ
app_line = codes "app = marimo.App()"

-- the two lines that each cell begins with
abbrev pub decorator_line : List ℕ
decorator_line = codes "@app.cell"

abbrev pub definition_line : List ℕ
definition_line = codes "def _():"

-- the two lines that each file ends with
abbrev pub main_line : List ℕ
main_line = codes "if __name__ == \"__main__\":"

abbrev pub last_line : List ℕ
last_line = codes "    app.run()"

-- the lines of a body, of a cell and of a file
abbrev pub body_lines : Stmts → List (List ℕ)
body_lines end = []
body_lines (then_comes (stmt n head block) rest) = line_text head ∷ body_lines rest

abbrev pub cell_lines : Cell → List (List ℕ)
cell_lines c = decorator_line ∷ definition_line ∷ body_lines c.body

abbrev pub header : List (List ℕ)
header = import_line ∷ app_line ∷ []

abbrev pub footer : List (List ℕ)
footer = main_line ∷ last_line ∷ []

abbrev pub file_lines : List Cell → List (List ℕ)
file_lines nb = header ++ flat_map cell_lines nb ++ footer

-- the bytes are the file of these cells
pub record IsForm (bytes : List ℕ) (nb : List Cell) : Type 0 where
  pub thin : IsTrue (are_thin nb)
  pub text : bytes ≡ text_of (file_lines nb)
  pub short : length bytes ≤ byte_limit
