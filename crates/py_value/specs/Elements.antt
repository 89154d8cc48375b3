-- Elements of the user interface (marimo's documentation, "Inputs"): what their calls make, what values they admit, and their kinds'
-- parameters. Sliders are built; calls of the other kinds are outside the language yet.
use Rattle.std.specs.Prelude.{ℕ, ◌%◌, ◌==◌, Bool, true, false, not, ◌&&◌, if◌then◌else◌, List, [], ◌∷◌, length, drop, find, codes, map, ℤ, pos, nat_abs, int_le, Option, Some, None, option_and_then, Result, Ok, Err}
use Rattle.std.specs.Int.{int_gap}
use Rattle.std.specs.List.{list_any, list_all}
use Rattle.std.specs.Str.{bytes_eq}
use Rattle.py_value.specs.Dicts.{item_of, with_pair}
use Rattle.py_value.specs.ElementData.{ElementData, with_present}
use Rattle.py_value.specs.Maps.{look_up}
use Rattle.py_value.specs.Texts.{kind_name}
use Rattle.py_value.specs.View.{data_of, value_of}
use Rattle.py_value.specs.declared.types.Data.{Data}
use Rattle.py_value.specs.declared.types.Data.TheVariants as D
use Rattle.py_value.specs.declared.types.Value.{Value}
use Rattle.py_value.specs.declared.types.Value.TheVariants as V
use Rattle.py_value.specs.declared.kinds.Kind.{Kind}
use Rattle.py_value.specs.declared.kinds.Kind.TheVariants as kind
use Rattle.py_value.specs.declared.op_fault.OpFault.{OpFault}
use Rattle.py_value.specs.declared.op_fault.OpFault.TheVariants as fault

-- all kinds, and the one that a name stands for
abbrev pub kinds : List Kind
kinds =
    kind.Slider ∷ kind.Number ∷ kind.Checkbox ∷ kind.Switch ∷ kind.Text ∷ kind.TextArea ∷ kind.Dropdown ∷ kind.Radio ∷
    kind.Multiselect ∷ []

abbrev pub kind_called : List ℕ → Option Kind
kind_called name = find (λ k. bytes_eq name (kind_name k)) kinds

-- values by names, in order; a name may come twice
abbrev pub Named : Type 0
Named = List (List ℕ × Data)

-- the arguments of a call: those by place, and those by name
pub record Arguments : Type 0 where
  pub places : List Data
  pub words : Named

-- what a parameter is where no argument is given for it
pub data Default : Type 0 where
  -- one has to be given
  Wanted : Default
  Constant : Data → Default
  -- what an earlier parameter is
  Same : (other : List ℕ) → Default

pub record Parameter : Type 0 where
  pub name : List ℕ
  pub default : Default

abbrev pub parameter : List ℕ → Default → Parameter
parameter name default = record { name = name; default = default }

-- the parameters of a slider, in the order of their places
abbrev pub slider_parameters : List Parameter
slider_parameters =
    parameter (codes "start") Wanted ∷ parameter (codes "stop") Wanted ∷ parameter (codes "step") (Constant (D.Int (pos 1))) ∷
    parameter (codes "value") (Same (codes "start")) ∷ parameter (codes "label") (Constant (D.Text [])) ∷ []

-- the name is one of these
abbrev pub is_one_of : List ℕ → List (List ℕ) → Bool
is_one_of name names = list_any (λ other. bytes_eq other name) names

-- no name stands twice
abbrev pub are_distinct : List (List ℕ) → Bool
are_distinct [] = true
are_distinct (x ∷ xs) = not (is_one_of x xs) && are_distinct xs

abbrev pub parameter_names : List Parameter → List (List ℕ)
parameter_names ps = map (λ (p : Parameter). p.name) ps

abbrev pub word_names : Named → List (List ℕ)
word_names words = map (λ (w : List ℕ × Data). w.0) words

-- each name is one of these
abbrev pub are_among : List (List ℕ) → List (List ℕ) → Bool
are_among names others = list_all (λ name. is_one_of name others) names

-- arguments by name are for different parameters of these
abbrev pub are_words_of : List Parameter → Named → Bool
are_words_of ps words = are_among (word_names words) (parameter_names ps) && are_distinct (word_names words)

-- what the parameters of an element are: pairs of their names, as texts, and what they are
abbrev pub Params : Type 0
Params = List (Data × Data)

-- what the parameter of this name is
abbrev pub param : List ℕ → Params → Option Data
param name params = item_of (D.Text name) params

abbrev pub default_of : Default → Params → Option Data
default_of Wanted earlier = None
default_of (Constant d) earlier = Some d
default_of (Same other) earlier = param other earlier

-- the argument by name, else the default
abbrev pub word_or_default : Option Data → Default → Params → Option Data
word_or_default (Some d) default earlier = Some d
word_or_default None default earlier = default_of default earlier

-- what a parameter is: the first of the arguments by place that are left, else the one of its name, else its default. None where
-- it is wanting
abbrev pub argument : Parameter → List Data → Named → Params → Option Data
argument p (d ∷ ds) words earlier = Some d
argument p [] words earlier = word_or_default (look_up p.name words) p.default earlier

-- What the parameters are, behind those before them. None where there are more arguments than places, or one is wanting.
abbrev pub params_after : List Parameter → List Data → Named → Params → Option Params
params_after [] [] words earlier = Some earlier
params_after [] (d ∷ ds) words earlier = None
params_after (p ∷ ps) places words earlier =
    option_and_then (λ d. params_after ps (drop 1 places) words (with_pair (D.Text p.name) d earlier)) (argument p places words earlier)

-- the parameters of a call; none where its arguments don't fit them
abbrev pub params_of_call : List Parameter → Arguments → Option Params
params_of_call ps args =
    if are_words_of (drop (length args.places) ps) args.words then params_after ps args.places args.words [] else None

-- the number that a value is, which a truth value isn't here; none for other values
abbrev pub number_in : Value → Option ℤ
number_in (V.Int n) = Some n
number_in v = None

abbrev pub is_text : Value → Bool
is_text (V.Text t) = true
is_text v = false

-- a text is there
abbrev pub has_text : Option Data → Bool
has_text None = false
has_text (Some d) = is_text (value_of d)

-- the number that the parameter of this name is
abbrev pub number_at : List ℕ → Params → Option ℤ
number_at name params = option_and_then (λ d. number_in (value_of d)) (param name params)

-- the range of a slider: its first and last number, and how far one value is from the next
pub record Range : Type 0 where
  pub start : ℤ
  pub stop : ℤ
  pub step : ℤ

abbrev pub range_of : Option ℤ → Option ℤ → Option ℤ → Option Range
range_of (Some start) (Some stop) (Some step) = Some (record { start = start; stop = stop; step = step })
range_of start stop step = None

abbrev pub range_at : Params → Option Range
range_at params = range_of (number_at (codes "start") params) (number_at (codes "stop") params) (number_at (codes "step") params)

-- from the start to the stop, a whole number of steps of 1 or more from the start
abbrev pub is_in_range : Range → ℤ → Bool
is_in_range r n = int_le (pos 1) r.step && int_le r.start n && int_le n r.stop && ((int_gap r.start n % nat_abs r.step) == 0)

abbrev pub slider : List ℕ → Params → ℤ → ElementData
slider name params n = record { kind = kind.Slider; name = name; params = params; initial = D.Int n; present = D.Int n }

-- A slider of these parameters: wrong types come before wrong values. Its first value is in its range, so the start isn't greater
-- than the stop.
abbrev pub slider_by : List ℕ → Params → Option Range → Option ℤ → Bool → Result ElementData OpFault
slider_by name params (Some r) (Some n) true = if is_in_range r n then Ok (slider name params n) else Err fault.Value
slider_by name params range n label = Err fault.WrongType

abbrev pub slider_of : List ℕ → Option Params → Result ElementData OpFault
slider_of name None = Err fault.WrongType
slider_of name (Some params) =
    slider_by name params (range_at params) (number_at (codes "value") params) (has_text (param (codes "label") params))

-- The element that a call makes, at its initial value. Wrong, wanting or repeated arguments and wrong types are a `TypeError`,
-- wrong values a `ValueError`.
abbrev pub made : Kind → List ℕ → Arguments → Result ElementData OpFault
made kind.Slider name args = slider_of name (params_of_call slider_parameters args)
made other name args = Err fault.Subset

abbrev pub admits_number : Option Range → Option ℤ → Option Data
admits_number (Some r) (Some n) = if is_in_range r n then Some (D.Int n) else None
admits_number range n = None

abbrev pub admitted_by : Kind → ElementData → Data → Option Data
admitted_by kind.Slider e d = admits_number (range_at e.params) (number_in (value_of d))
admitted_by other e d = None

-- What the value of an element becomes when it is set; none where the element doesn't admit it. A slider admits the numbers of its
-- range.
abbrev pub admitted : ElementData → Data → Option Data
admitted e d = admitted_by e.kind e d

-- the element at the value that is kept for it, or as it is where none is kept
abbrev pub at_kept : Option Value → ElementData → ElementData
at_kept None e = e
at_kept (Some v) e = with_present (data_of v) e
