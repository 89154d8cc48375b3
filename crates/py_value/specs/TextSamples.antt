-- Worked values.
use Rattle.std.specs.Prelude.{pos, true, [], ◌∷◌, ◌++◌, codes}
use Rattle.py_value.specs.declared.kinds.Kind.TheVariants as kind
use Rattle.py_value.specs.declared.types.Data.{Data}
use Rattle.py_value.specs.declared.types.Data.TheVariants as D

-- a text with an apostrophe
abbrev pub apostrophe : Data
apostrophe = D.Text (codes "it's")

-- a text with both quotes, a backslash, and characters that are written by their numbers
abbrev pub mixed : Data
mixed = D.Text (codes "'\"\\" ++ 0 ∷ 9 ∷ 10 ∷ 13 ∷ 31 ∷ 127 ∷ 195 ∷ 169 ∷ [])

-- `(1,)`
abbrev pub one_item : Data
one_item = D.Tuple (D.Int (pos 1) ∷ [])

-- `{'a': [True, None]}`
abbrev pub one_pair : Data
one_pair = D.Dict ((D.Text (codes "a"), D.List (D.Bool true ∷ D.None ∷ [])) ∷ [])

-- a slider from 0 to 10
abbrev pub slider : Data
slider =
    D.Element kind.Slider (codes "s")
    (
    (D.Text (codes "start"), D.Int (pos 0))
    ∷ (D.Text (codes "stop"), D.Int (pos 10))
    ∷ (D.Text (codes "step"), D.Int (pos 1))
    ∷ (D.Text (codes "value"), D.Int (pos 0))
    ∷ (D.Text (codes "label"), D.Text [])
    ∷ []
    )
    (D.Int (pos 0))
    (D.Int (pos 0))
