-- The parameter of a name among pairs.
use Rattle.std.proofs.Common.{◌≡◌, ℕ, ◌<◌, ◌+◌, true, false, List, length, drop, get_or, refl, Some, None}
use Rattle.std.proofs.lemmas.List.{drop_more}
use Rattle.std.proofs.Math.Seq.{drop-length}
use Rattle.py_value.specs.declared.types.Data.TheVariants as D
use Rattle.py_value.specs.declared.types.Value.{Value}
use Rattle.py_value.specs.View.{data_of, pairs_of}
use Rattle.py_value.specs.Eq.{eq_of}
use Rattle.py_value.specs.Elements.{param}
use Rattle.py_value.proofs.Equals.{eq-Text}
use Rattle.py_value.proofs.KeyFaults.{key_fault-Text}
use Rattle.py_value.proofs.Levels.{value_of-data_of}

pub param_here : (name : List ℕ) (vs : List (Value × Value)) (i : ℕ) (d : Value × Value) → i < length vs → eq_of (D.Text name) (data_of (get_or vs i d).0) ≡ true → param name (pairs_of (drop i vs)) ≡ Some (data_of (get_or vs i d).1)
param_here name vs i d h e = rw (drop_more vs i d h, e) refl

pub param_else : (name : List ℕ) (vs : List (Value × Value)) (i : ℕ) (d : Value × Value) → i < length vs → eq_of (D.Text name) (data_of (get_or vs i d).0) ≡ false → param name (pairs_of (drop i vs)) ≡ param name (pairs_of (drop (i + 1) vs))
param_else name vs i d h e = rw (drop_more vs i d h, e) refl

pub param_end : (name : List ℕ) (vs : List (Value × Value)) (i : ℕ) → i ≡ length vs → param name (pairs_of (drop i vs)) ≡ None
param_end name vs i h = rw (h, drop-length vs) refl

-- what a search for a parameter uses
pub ruleset keys = (param_here, param_else, param_end, eq-Text, key_fault-Text)

-- what a reader of one value uses
pub ruleset seen = (value_of-data_of)
