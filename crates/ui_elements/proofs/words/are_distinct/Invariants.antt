-- No name so far stands again behind it.
use Rattle.std.proofs.Common.{◌≡◌, drop}
use Rattle.py_value.specs.Elements.{are_distinct, word_names}
use Rattle.ui_elements.specs.Calls.{words_of}
use Rattle.ui_elements.proofs.words.are_distinct.Given as goal

abbrev pub invariant-loop-at : goal.invariant-loop-at
invariant-loop-at l = are_distinct (word_names (words_of l.words)) ≡ are_distinct (word_names (words_of (drop l.at l.words)))
