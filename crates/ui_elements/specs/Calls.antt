-- What the definitions of elements see of arguments and parameters.
use Rattle.std.specs.Prelude.{ℕ, List, [], map}
use Rattle.py_value.specs.View.{data_of}
use Rattle.py_value.specs.declared.types.Data.{Data}
use Rattle.py_value.specs.declared.types.Data.TheVariants as D
use Rattle.py_value.specs.Elements.{Arguments, Named, Default, Wanted, Constant, Same, Parameter, parameter}
use Rattle.ui_elements.specs.declared.args.Args.{Args}
use Rattle.ui_elements.specs.declared.args.Word.{Word}
use Rattle.ui_elements.specs.declared.parameters.Preset.{Preset}
use Rattle.ui_elements.specs.declared.parameters.Preset.TheVariants as preset
use Rattle.ui_elements.specs.declared.parameters.Parameter.{Parameter as Row}

abbrev pub word_of : Word → List ℕ × Data
word_of w = (w.name, data_of w.value)

abbrev pub words_of : List Word → Named
words_of words = map word_of words

abbrev pub arguments_of : Args → Arguments
arguments_of args = record { places = args.places; words = words_of args.words }

abbrev pub preset_of : Preset → Default
preset_of preset.Wanted = Wanted
preset_of (preset.Number n) = Constant (D.Int n)
preset_of preset.EmptyText = Constant (D.Text [])
preset_of (preset.Same other) = Same other.now

abbrev pub parameter_of : Row → Parameter
parameter_of p = parameter p.name.now (preset_of p.preset)

abbrev pub parameters_of : List Row → List Parameter
parameters_of ps = map parameter_of ps
