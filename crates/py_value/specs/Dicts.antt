-- The pairs of a dictionary by their keys (Python library reference, "Mapping Types"). Equal keys are one key.
use Rattle.std.specs.Prelude.{ℕ, suc, if◌then◌else◌, List, [], ◌∷◌, Option, Some, None}
use Rattle.std.specs.Option.{option_map}
use Rattle.py_value.specs.declared.types.Data.{Data}
use Rattle.py_value.specs.Eq.{eq_of}

-- the place of the first pair whose key is equal
abbrev pub place_of : Data → List (Data × Data) → Option ℕ
place_of key [] = None
place_of key (p ∷ pairs) = if eq_of key p.0 then Some 0 else option_map (λ n. suc n) (place_of key pairs)

-- the item of that pair
abbrev pub item_of : Data → List (Data × Data) → Option Data
item_of key [] = None
item_of key (p ∷ pairs) = if eq_of key p.0 then Some p.1 else item_of key pairs

-- the pairs with this item at the key: where a key is equal, it stays where and as it is, and a new one is appended
abbrev pub with_pair : Data → Data → List (Data × Data) → List (Data × Data)
with_pair key item [] = (key, item) ∷ []
with_pair key item (p ∷ pairs) = if eq_of key p.0 then (p.0, item) ∷ pairs else p ∷ with_pair key item pairs
