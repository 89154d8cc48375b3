-- What is known of the elements of a file.
use Rattle.std.specs.Prelude.{◌≡◌, ℕ, Bool, false, ◌||◌, List, [], Option, None, Some, codes}
use Rattle.std.specs.Str.{bytes_eq}
use Rattle.thin_form.specs.Sliders.{slider_in}
use Rattle.form_meaning.specs.Thin.{Elements}
use Rattle.py_tree.specs.Names.{Name, is_among}

-- the names of its sliders, and whether a line imports `mo`
pub record Known : Type 0 where
  pub sliders : List Name
  pub imported : Bool

abbrev pub as_elements : Known → Elements
as_elements known = record { is_slider = λ x. is_among x known.sliders; imported = known.imported }

-- nothing is known
abbrev pub unknown : Known
unknown = record { sliders = []; imported = false }

abbrev pub is_just : Option Name → Name → Bool
is_just None x = false
is_just (Some y) x = bytes_eq y x

-- what is known before a line and after it
pub record Learns (line : List ℕ) (before after : Known) : Type 0 where
  pub sliders : (x : Name) → is_among x after.sliders ≡ (is_among x before.sliders || is_just (slider_in line) x)
  pub imported : after.imported ≡ (before.imported || bytes_eq line (codes "    import marimo as mo"))
