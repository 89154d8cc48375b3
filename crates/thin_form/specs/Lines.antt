-- The line that a text spells.
use Rattle.std.specs.Prelude.{ℕ, Bool, true, false, if◌then◌else◌, ◌&&◌, List, [], ◌∷◌, Option, None, Some, option_map, codes}
use Rattle.std.specs.Str.{bytes_eq}
use Rattle.thin_form.specs.Choices.{choose}
use Rattle.thin_form.specs.Sliders.{read_bounds, slider}
use Rattle.thin_form.specs.Sums.{read_sum}
use Rattle.thin_form.specs.Words.{words, target}
use Rattle.form_meaning.specs.Thin.{Elements}
use Rattle.py_tree.specs.Names.{Name, is_name}
use Rattle.py_tree.specs.Trees.{Tree, call, Head, value, assign, import_mo}

-- what a name is assigned: a slider where it is the name of one, else a sum
abbrev pub read_assigned : Elements → Name → List (List ℕ) → Option Tree
read_assigned es x line = if es.is_slider x then (if es.imported then option_map slider (read_bounds line) else None) else read_sum es line

abbrev pub read_assignment : Elements → Name → List (List ℕ) → Option Head
read_assignment es x line = if is_name x then option_map (assign (x ∷ [])) (read_assigned es x line) else None

abbrev pub read_import : Elements → List ℕ → Option Head
read_import es text = if bytes_eq text (codes "import marimo as mo") && es.imported then Some import_mo else None

abbrev pub read_line : Elements → List ℕ → Option Head
read_line es text =
    choose (target (words text)) (λ p. read_assignment es p.0 p.1) (choose (read_sum es (words text)) (λ t. Some (value t)) (read_import es text))

-- the tree is a call
abbrev pub is_call : Tree → Bool
is_call (call callee args comma) = true
is_call t = false
