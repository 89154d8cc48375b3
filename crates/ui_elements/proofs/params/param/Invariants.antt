-- No key so far is the name.
use Rattle.std.proofs.Common.{◌≡◌, drop}
use Rattle.py_value.specs.View.{pairs_of}
use Rattle.py_value.specs.Elements.{param}
use Rattle.ui_elements.proofs.params.param.Given as goal

abbrev pub invariant-loop-pair : goal.invariant-loop-pair
invariant-loop-pair l = param l.name (pairs_of l.pairs) ≡ param l.name (pairs_of (drop l.pair-index l.pairs))
