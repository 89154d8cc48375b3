-- A value is one level of its data, which has every level: `data_of` and `value_of` undo each other.
use Rattle.std.specs.Prelude.{List, map}
use Rattle.py_value.specs.declared.types.Data.{Data, out-Data}
use Rattle.py_value.specs.declared.types.Data.TheVariants as D
use Rattle.py_value.specs.declared.types.Data.TheOpen.{Data-F}
use Rattle.py_value.specs.declared.types.Value.{Value}
use Rattle.py_value.specs.declared.types.Value.TheVariants as V
use Rattle.py_value.specs.ElementData.{element}

-- the data of a value
abbrev pub data_of : Value → Data
data_of V.None = D.None
data_of (V.Bool b) = D.Bool b
data_of (V.Int n) = D.Int n
data_of (V.Text t) = D.Text t
data_of (V.List items) = D.List items
data_of (V.Tuple items) = D.Tuple items
data_of (V.Dict pairs) = D.Dict pairs
data_of (V.Element e) = D.Element e.kind e.name e.params e.initial e.present
data_of (V.Html t) = D.Html t

-- the value that is this level
abbrev pub value_step : Data-F Data → Value
value_step Data-F.None = V.None
value_step (Data-F.Bool b) = V.Bool b
value_step (Data-F.Int n) = V.Int n
value_step (Data-F.Text t) = V.Text t
value_step (Data-F.List items) = V.List items
value_step (Data-F.Tuple items) = V.Tuple items
value_step (Data-F.Dict pairs) = V.Dict pairs
value_step (Data-F.Element kind name params initial present) = V.Element (element kind name params initial present)
value_step (Data-F.Html t) = V.Html t

-- the value of these data
abbrev pub value_of : Data → Value
value_of d = value_step (out-Data d)

-- the data of values in order
abbrev pub all_of : List Value → List Data
all_of values = map data_of values

abbrev pub pair_of : Value × Value → Data × Data
pair_of p = (data_of p.0, data_of p.1)

-- the data of pairs in order
abbrev pub pairs_of : List (Value × Value) → List (Data × Data)
pairs_of pairs = map pair_of pairs
