-- Python's `==` as far as values decide it (Python language reference, section 6.10.1): a truth value is the number 0 or 1, lists and
-- tuples have equal items in order, dictionaries equal pairs in any order. Python compares elements and HTML by identity, which values haven't.
use Rattle.std.specs.Prelude.{ℤ, Bool, true, false, ◌&&◌, ◌||◌, ◌==◌, bytes_eq, List, [], ◌∷◌, length, Option, Some, None}
use Rattle.std.specs.Ordering.{int_eq}
use Rattle.py_value.specs.declared.types.Data.{Data}
use Rattle.py_value.specs.declared.types.Data.TheOpen.{Data-F}
use Rattle.py_value.specs.declared.types.Data.TheFolds.{fold-Data}
use Rattle.py_value.specs.declared.types.Value.{Value}
use Rattle.py_value.specs.declared.types.Value.TheVariants as V
use Rattle.py_value.specs.View.{value_of}
use Rattle.py_value.specs.Whole.{bit, number_of}

-- the number that something counts as is this one
abbrev pub number_eq : ℤ → Option ℤ → Bool
number_eq n None = false
number_eq n (Some m) = int_eq n m

-- each item passes its test, and there are as many tests as items
abbrev pub each_passes : List (Data → Bool) → List Data → Bool
each_passes [] [] = true
each_passes [] (item ∷ items) = false
each_passes (test ∷ tests) [] = false
each_passes (test ∷ tests) (item ∷ items) = test item && each_passes tests items

-- one of the pairs passes, its key the first test and its item the second
abbrev pub one_passes : (Data → Bool) × (Data → Bool) → List (Data × Data) → Bool
one_passes test [] = false
one_passes test (p ∷ pairs) = (test.0 p.0 && test.1 p.1) || one_passes test pairs

-- each test is passed by one of the pairs
abbrev pub all_pass : List ((Data → Bool) × (Data → Bool)) → List (Data × Data) → Bool
all_pass [] pairs = true
all_pass (test ∷ tests) pairs = one_passes test pairs && all_pass tests pairs

-- what a level equals, whose parts come as tests of what they equal
abbrev pub eq_level : Data-F (Data → Bool) → Value → Bool
eq_level Data-F.None V.None = true
eq_level (Data-F.Bool b) v = number_eq (bit b) (number_of v)
eq_level (Data-F.Int n) v = number_eq n (number_of v)
eq_level (Data-F.Text s) (V.Text t) = bytes_eq s t
eq_level (Data-F.List tests) (V.List items) = each_passes tests items
eq_level (Data-F.Tuple tests) (V.Tuple items) = each_passes tests items
eq_level (Data-F.Dict tests) (V.Dict pairs) = (length tests == length pairs) && all_pass tests pairs
eq_level x v = false

abbrev pub eq_step : Data-F (Data → Bool) → Data → Bool
eq_step x d = eq_level x (value_of d)

-- whether two values are equal
abbrev pub eq_of : Data → Data → Bool
eq_of = fold-Data (Data → Bool) eq_step

-- two lists are equal item by item
abbrev pub each_eq : List Data → List Data → Bool
each_eq [] [] = true
each_eq [] (d ∷ ds) = false
each_eq (c ∷ cs) [] = false
each_eq (c ∷ cs) (d ∷ ds) = eq_of c d && each_eq cs ds

-- a pair stands among others
abbrev pub has_pair : Data × Data → List (Data × Data) → Bool
has_pair p [] = false
has_pair p (q ∷ qs) = (eq_of p.0 q.0 && eq_of p.1 q.1) || has_pair p qs

-- every pair stands among others
abbrev pub pairs_in : List (Data × Data) → List (Data × Data) → Bool
pairs_in [] qs = true
pairs_in (p ∷ ps) qs = has_pair p qs && pairs_in ps qs
