-- How definitions of elements compute at texts and numbers.
use Rattle.std.proofs.Common.{◌≡◌, ℕ, ℤ, Bool, List}
use Rattle.std.specs.Str.{bytes_eq}
use Rattle.py_value.specs.declared.types.Data.TheVariants as D
use Rattle.py_value.specs.declared.types.Value.TheVariants as V
use Rattle.py_value.specs.View.{value_of}
use Rattle.py_value.specs.Eq.{eq_of}
use Rattle.py_value.proofs.Equals.{eq-Text}
use Rattle.py_value.proofs.Levels.{value_of-data_of}

pub same_text : (s t : List ℕ) → eq_of (D.Text s) (D.Text t) ≡ bytes_eq s t
same_text s t = eq-Text s (V.Text t)

pub a_number : (n : ℤ) → value_of (D.Int n) ≡ V.Int n
a_number n = value_of-data_of (V.Int n)

pub a_truth : (b : Bool) → value_of (D.Bool b) ≡ V.Bool b
a_truth b = value_of-data_of (V.Bool b)

pub a_text : (t : List ℕ) → value_of (D.Text t) ≡ V.Text t
a_text t = value_of-data_of (V.Text t)
