-- No argument so far is of the name.
use Rattle.std.proofs.Common.{◌≡◌, drop}
use Rattle.py_value.specs.Maps.{look_up}
use Rattle.ui_elements.specs.Calls.{words_of}
use Rattle.ui_elements.proofs.call_params.word.Given as goal

abbrev pub invariant-loop-word : goal.invariant-loop-word
invariant-loop-word l = look_up l.name (words_of l.words) ≡ look_up l.name (words_of (drop l.word-index l.words))
