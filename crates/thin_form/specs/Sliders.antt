-- The slider that words spell.
use Rattle.std.specs.Prelude.{ℕ, Bool, false, if◌then◌else◌, ◌&&◌, nat_le, List, Option, None, Some, codes}
use Rattle.thin_form.specs.Choices.{◌>>=◌}
use Rattle.thin_form.specs.Sums.{numeral}
use Rattle.thin_form.specs.Words.{words, two_words, target, without_front, without_back}
use Rattle.py_tree.specs.Names.{Name, is_name}
use Rattle.py_tree.specs.Numbers.{is_number, number_of}
use Rattle.py_tree.specs.Trees.{Tree, name, attribute, call, no_argument, positional}

-- the spellings of a slider's bounds
pub record Bounds : Type 0 where
  pub low : List ℕ
  pub high : List ℕ

-- `mo.ui.slider`
abbrev pub maker : Tree
maker = attribute (attribute (name (codes "mo")) (codes "ui")) (codes "slider")

-- `mo.ui.slider(LOW, HIGH)`
abbrev pub slider : Bounds → Tree
slider b = call maker (positional (numeral b.low) (positional (numeral b.high) no_argument)) false

-- two numbers, of which the first isn't the greater
unfoldable pub are_bounds : (low high : List ℕ) → Bool
are_bounds low high = is_number low && is_number high && nat_le (number_of low) (number_of high)

-- the bounds in the two words of a slider
abbrev pub bounds_in : (first second : List ℕ) → Option Bounds
bounds_in first second =
    without_front (codes "mo.ui.slider(") first >>= λ rest. without_back (codes ",") rest >>= λ low. without_back (codes ")") second >>= λ high.
    if are_bounds low high then Some (record { low = low; high = high }) else None

abbrev pub read_bounds : List (List ℕ) → Option Bounds
read_bounds line = two_words line >>= λ p. bounds_in p.0 p.1

-- the name to which a line's text assigns a slider
abbrev pub slider_name : List ℕ → Option Name
slider_name text = target (words text) >>= λ p. if is_name p.0 then (read_bounds p.1 >>= λ b. Some p.0) else None

-- the same of a whole line, with its indent
abbrev pub slider_in : List ℕ → Option Name
slider_in line = without_front (codes "    ") line >>= slider_name
