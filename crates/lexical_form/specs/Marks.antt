-- Marks: operators and delimiters (Python language reference, sections 2.5 and 2.6, those of this language).
use Rattle.std.specs.Prelude.{ℕ, Bool, List, [], ◌∷◌, codes}
use Rattle.py_tree.specs.Names.{is_among}

abbrev pub marks : List (List ℕ)
marks =
    codes "+" ∷ codes "-" ∷ codes "*" ∷ codes "**" ∷ codes "//" ∷ codes "%" ∷ codes "==" ∷ codes "!=" ∷ codes "<" ∷ codes "<=" ∷
    codes ">" ∷ codes ">=" ∷ codes "=" ∷ codes "+=" ∷ codes "-=" ∷ codes "*=" ∷ codes "//=" ∷ codes "%=" ∷ codes "(" ∷ codes ")" ∷
    codes "[" ∷ codes "]" ∷ codes "{" ∷ codes "}" ∷ codes "," ∷ codes ":" ∷ codes "." ∷ codes "@" ∷ []

abbrev pub is_mark : List ℕ → Bool
is_mark cs = is_among cs marks
