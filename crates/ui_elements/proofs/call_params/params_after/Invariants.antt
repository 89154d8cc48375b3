-- The parameters so far are set, and the rest is still to be filled.
use Rattle.std.proofs.Common.{◌≡◌, [], drop}
use Rattle.py_value.specs.View.{all_of}
use Rattle.py_value.specs.Elements.{params_after}
use Rattle.ui_elements.specs.Calls.{parameters_of, words_of}
use Rattle.ui_elements.proofs.call_params.params_after.Given as goal

abbrev pub invariant-loop-at : goal.invariant-loop-at
invariant-loop-at l =
    params_after (parameters_of l.parameters) (all_of l.places) (words_of l.words) []
    ≡ params_after (parameters_of (drop l.at l.parameters)) (all_of (drop l.at l.places)) (words_of l.words) l.params
