-- Conversions and formats of the code, seen as pure data.
use Rattle.std.specs.Prelude.{option_map}
use Rattle.py_tree.specs.FieldFormats as pure
use Rattle.py_tree.specs.declared.spec.Align.{Align}
use Rattle.py_tree.specs.declared.spec.Align.TheVariants as align
use Rattle.py_tree.specs.declared.spec.Convert.{Convert}
use Rattle.py_tree.specs.declared.spec.Convert.TheVariants as convert
use Rattle.py_tree.specs.declared.spec.Form.{Form}
use Rattle.py_tree.specs.declared.spec.Form.TheVariants as form
use Rattle.py_tree.specs.declared.spec.Spec.{Spec}
use Rattle.py_tree.specs.declared.spec.Spec.TheVariants as spec

abbrev pub view_convert : Convert → pure.Convert
view_convert convert.Plain = pure.as_is
view_convert convert.Repr = pure.repr
view_convert convert.Str = pure.str

abbrev pub view_align : Align → pure.Align
view_align align.Left = pure.left
view_align align.Right = pure.right
view_align align.Center = pure.center

abbrev pub view_form : Form → pure.Form
view_form form.Decimal = pure.decimal
view_form form.Text = pure.string

abbrev pub view_spec : Spec → pure.Spec
view_spec (spec.Aligned a w f) = pure.aligned (option_map view_align a) w (option_map view_form f)
view_spec (spec.Zeros w d) = pure.zeros w d
view_spec (spec.Comma d) = pure.comma d
