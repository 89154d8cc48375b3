-- Worked calls of sliders.
use Rattle.std.specs.Prelude.{ℕ, List, [], ◌∷◌, ◌++◌, codes, pos}
use Rattle.py_value.specs.declared.types.Data.{Data}
use Rattle.py_value.specs.declared.types.Data.TheVariants as D
use Rattle.py_value.specs.declared.kinds.Kind.TheVariants as kind
use Rattle.py_value.specs.ElementData.{ElementData}
use Rattle.py_value.specs.Elements.{Arguments}

-- the names of a slider's parameters, in order
abbrev pub slider_names : List Data
slider_names =
    D.Text (codes "start") ∷ D.Text (codes "stop") ∷ D.Text (codes "step") ∷ D.Text (codes "value") ∷ D.Text (codes "label") ∷ []

-- arguments by place alone
abbrev pub places : List Data → Arguments
places ds = record { places = ds; words = [] }

-- one more argument by name
abbrev pub with_word : List ℕ → Data → Arguments → Arguments
with_word name d args = record { places = args.places; words = args.words ++ (name, d) ∷ [] }

-- `(0, 10)`
abbrev pub to_ten : Arguments
to_ten = places (D.Int (pos 0) ∷ D.Int (pos 10) ∷ [])

-- the slider `s` from 0 to 10
abbrev pub zero_to_ten : ElementData
zero_to_ten =
    record {
      kind = kind.Slider;
      name = codes "s";
      params =
          (D.Text (codes "start"), D.Int (pos 0))
          ∷ (D.Text (codes "stop"), D.Int (pos 10))
          ∷ (D.Text (codes "step"), D.Int (pos 1))
          ∷ (D.Text (codes "value"), D.Int (pos 0))
          ∷ (D.Text (codes "label"), D.Text [])
          ∷ [];
      initial = D.Int (pos 0);
      present = D.Int (pos 0);
    }
