-- What contracts see of an element.
use Rattle.std.specs.Prelude.{ℕ, List, refl}
use Rattle.std.specs.Coded.{Coded, code_by, coded×, coded_ℕ, coded_list}
use Rattle.py_value.specs.declared.types.Data.{Data}
use Rattle.py_value.specs.declared.kinds.Kind.{Kind}
use Rattle.py_value.specs.contracts.types.Data as shadow
use Rattle.py_value.specs.contracts.kinds.Kind as kinds

pub record ElementData : Type 0 where
  pub kind : Kind
  pub name : List ℕ
  pub params : List (Data × Data)
  pub initial : Data
  pub present : Data

-- the element with these fields
abbrev pub element : Kind → List ℕ → List (Data × Data) → Data → Data → ElementData
element kind name params initial present = record { kind = kind; name = name; params = params; initial = initial; present = present }

-- the same element with another present value
abbrev pub with_present : Data → ElementData → ElementData
with_present value e = element e.kind e.name e.params e.initial value

-- how the proofs number elements: as nested pairs of their fields
abbrev pub element_code : Coded ElementData
element_code =
    code_by (Kind × (List ℕ × (List (Data × Data) × (Data × Data))))
    (coded× kinds.the_row.coded (coded× (coded_list coded_ℕ) (coded× (coded_list (coded× shadow.the_row.coded shadow.the_row.coded)) (coded× shadow.the_row.coded shadow.the_row.coded))))
    (λ e. (e.kind, (e.name, (e.params, (e.initial, e.present)))))
    (λ p. element p.0 p.1.0 p.1.1.0 p.1.1.1.0 p.1.1.1.1)
    (λ _. refl)
