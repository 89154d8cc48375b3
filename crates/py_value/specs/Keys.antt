-- What values may be keys of a dictionary (Python language reference, section 3.1, "hashable"; library reference, "Mapping Types").
use Rattle.std.specs.Prelude.{◌≡◌, List, [], ◌∷◌, map, Option, Some, None}
use Rattle.py_value.specs.declared.types.Data.{Data}
use Rattle.py_value.specs.declared.types.Data.TheOpen.{Data-F}
use Rattle.py_value.specs.declared.types.Data.TheFolds.{fold-Data}
use Rattle.py_value.specs.declared.op_fault.OpFault.{OpFault}
use Rattle.py_value.specs.declared.op_fault.OpFault.TheVariants.{WrongType, Subset}

-- the first fault of several
abbrev pub first_fault : List (Option OpFault) → Option OpFault
first_fault [] = None
first_fault (None ∷ faults) = first_fault faults
first_fault (Some fault ∷ faults) = Some fault

-- why a value can't be a key, of a level whose parts come as why they can't
abbrev pub key_step : Data-F (Option OpFault) → Option OpFault
key_step Data-F.None = None
key_step (Data-F.Bool b) = None
key_step (Data-F.Int n) = None
key_step (Data-F.Text t) = None
key_step (Data-F.List faults) = Some WrongType
key_step (Data-F.Tuple faults) = first_fault faults
key_step (Data-F.Dict faults) = Some WrongType
-- Python takes these two as keys by identity, which this language hasn't
key_step (Data-F.Element kind name params initial present) = Some Subset
key_step (Data-F.Html t) = Some Subset

-- why a value can't be a key; none where it may be one. In a tuple the first item that can't be one decides
abbrev pub key_fault : Data → Option OpFault
key_fault = fold-Data (Option OpFault) key_step

-- why the first of several values that can't be a key can't
abbrev pub key_fault_of_all : List Data → Option OpFault
key_fault_of_all items = first_fault (map key_fault items)

-- the value may be a key: it is None, a truth value, a number, a text, or a tuple of such
abbrev pub IsKey : Data → Type 0
IsKey d = key_fault d ≡ None

-- the pairs' first parts may be keys
abbrev pub KeysOf : List (Data × Data) → Type 0
KeysOf [] = Unit {0}
KeysOf (p ∷ pairs) = IsKey p.0 × KeysOf pairs
