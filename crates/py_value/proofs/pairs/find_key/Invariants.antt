-- No key so far is equal.
use Rattle.std.proofs.Common.{◌≡◌}
use Rattle.py_value.specs.View.{data_of, pairs_of}
use Rattle.py_value.specs.Dicts.{place_of}
use Rattle.py_value.proofs.Places.{place_from}
use Rattle.py_value.proofs.pairs.find_key.Given as goal

abbrev pub invariant-loop-at : goal.invariant-loop-at
invariant-loop-at l = place_of (data_of l.key) (pairs_of l.pairs) ≡ place_from (data_of l.key) l.pairs l.at
