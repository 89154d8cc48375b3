-- `str` and `repr` of values.
use Rattle.std.specs.Prelude.{ℕ, Bool, true, false, if◌then◌else◌, ◌==◌, List, [], ◌∷◌, ◌++◌, codes, flat_map, length, map}
use Rattle.std.specs.Fmt.{signed_decimal}
use Rattle.py_value.specs.declared.kinds.Kind.{Kind}
use Rattle.py_value.specs.declared.kinds.Kind.TheVariants as kind
use Rattle.py_value.specs.declared.types.Data.{Data}
use Rattle.py_value.specs.declared.types.Data.TheOpen.{Data-F}
use Rattle.py_value.specs.declared.types.Data.TheFolds.{fold-Data}
use Rattle.py_value.specs.ElementData.{ElementData}
use Rattle.py_value.specs.Quoted.{text_literal}

-- the two texts of a value
pub record Spelling : Type 0 where
  pub str : List ℕ
  pub repr : List ℕ

-- a value whose `str` is its `repr`
abbrev pub plain_spelling : List ℕ → Spelling
plain_spelling text = record { str = text; repr = text }

abbrev pub truth_text : Bool → List ℕ
truth_text true = codes "True"
truth_text false = codes "False"

-- texts with `, ` between them
abbrev pub comma_list : List (List ℕ) → List ℕ
comma_list [] = []
comma_list (text ∷ texts) = text ++ flat_map (λ t. codes ", " ++ t) texts

-- what stands before the text of an index
abbrev pub separator : ℕ → List ℕ
separator i = if i == 0 then [] else codes ", "

abbrev pub items_text : List Spelling → List ℕ
items_text items = comma_list (map (λ s. s.repr) items)

-- what ends a tuple of so many items: one item has a comma after it
abbrev pub tuple_end : ℕ → List ℕ
tuple_end n = if n == 1 then codes ",)" else codes ")"

-- `KEY: ITEM`
abbrev pub pair_text : Spelling × Spelling → List ℕ
pair_text p = p.0.repr ++ (codes ": " ++ p.1.repr)

abbrev pub pairs_text : List (Spelling × Spelling) → List ℕ
pairs_text pairs = comma_list (map pair_text pairs)

abbrev pub kind_name : Kind → List ℕ
kind_name kind.Slider = codes "slider"
kind_name kind.Number = codes "number"
kind_name kind.Checkbox = codes "checkbox"
kind_name kind.Switch = codes "switch"
kind_name kind.Text = codes "text"
kind_name kind.TextArea = codes "text_area"
kind_name kind.Dropdown = codes "dropdown"
kind_name kind.Radio = codes "radio"
kind_name kind.Multiselect = codes "multiselect"

-- ` NAME=VALUE`
abbrev pub param_text : Spelling × Spelling → List ℕ
param_text p = codes " " ++ (p.0.str ++ (codes "=" ++ p.1.repr))

abbrev pub params_text : List (Spelling × Spelling) → List ℕ
params_text params = flat_map param_text params

-- `<KIND NAME PARAMETERS>`
abbrev pub shown : Kind → List ℕ → List (Spelling × Spelling) → List ℕ
shown kind name params = codes "<" ++ (kind_name kind ++ (codes " " ++ (name ++ (params_text params ++ codes ">"))))

-- the texts of a level whose parts come as their texts
abbrev pub spelling_step : Data-F Spelling → Spelling
spelling_step Data-F.None = plain_spelling (codes "None")
spelling_step (Data-F.Bool b) = plain_spelling (truth_text b)
spelling_step (Data-F.Int n) = plain_spelling (signed_decimal n)
spelling_step (Data-F.Text t) = record { str = t; repr = text_literal t }
spelling_step (Data-F.List items) = plain_spelling (codes "[" ++ (items_text items ++ codes "]"))
spelling_step (Data-F.Tuple items) = plain_spelling (codes "(" ++ (items_text items ++ tuple_end (length items)))
spelling_step (Data-F.Dict pairs) = plain_spelling (codes "{" ++ (pairs_text pairs ++ codes "}"))
spelling_step (Data-F.Element kind name params initial present) = plain_spelling (shown kind name params)
spelling_step (Data-F.Html t) = plain_spelling t

abbrev pub spelling_of : Data → Spelling
spelling_of = fold-Data Spelling spelling_step

abbrev pub spelling_of_pair : Data × Data → Spelling × Spelling
spelling_of_pair p = (spelling_of p.0, spelling_of p.1)

-- `str` of a value
abbrev pub str_of : Data → List ℕ
str_of d = (spelling_of d).str

-- `repr` of a value
abbrev pub repr_of : Data → List ℕ
repr_of d = (spelling_of d).repr

-- the text of an element
abbrev pub element_text : ElementData → List ℕ
element_text e = shown e.kind e.name (map spelling_of_pair e.params)
