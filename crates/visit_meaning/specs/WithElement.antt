-- What a visitor's bindings are when a value is set: the element has it as its present value.
use Rattle.std.specs.Prelude.{Option, Some}
use Rattle.py_tree.specs.Names.{Name}
use Rattle.py_value.specs.ElementData.{ElementData, with_present}
use Rattle.py_value.specs.Maps.{put}
use Rattle.py_value.specs.declared.types.Data.{Data}
use Rattle.py_value.specs.declared.types.Value.TheVariants as V
use Rattle.run_meaning.specs.Meaning.{Env}
use Rattle.run_meaning.specs.declared.binding.Binding.TheVariants.{Plain}

-- the name bound to the element at this present value
abbrev pub with_element : Name → Option ElementData → Option Data → Env → Env
with_element x (Some e) (Some d) env = put x (Plain (V.Element (with_present d e))) env
with_element x e d env = env
