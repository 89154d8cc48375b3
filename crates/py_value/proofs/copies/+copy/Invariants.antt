-- What the loops have copied so far, and what falls.
use Rattle.std.proofs.Common.{◌≡◌, ◌+◌, ◌*◌, take}
use Rattle.py_value.specs.View.{data_of}
use Rattle.py_value.specs.Depth.{depth_of, depth_of_all, depth_of_pairs, depth_of_element}
use Rattle.py_value.proofs.copies.+copy.Given as goal

abbrev pub invariant-copy_values-loop-value : goal.invariant-copy_values-loop-value
invariant-copy_values-loop-value l = l.out.items ≡ take l.value-index l.from

abbrev pub invariant-copy_pairs-loop-pair : goal.invariant-copy_pairs-loop-pair
invariant-copy_pairs-loop-pair l = l.out.items ≡ take l.pair-index l.from

abbrev pub decreases-copy : goal.decreases-copy
decreases-copy l = 3 * depth_of (data_of l.v.now)

abbrev pub decreases-copy_element : goal.decreases-copy_element
decreases-copy_element l = 3 * depth_of_element l.e.now + 2

abbrev pub decreases-copy_values : goal.decreases-copy_values
decreases-copy_values l = 3 * depth_of_all l.values.now + 1

abbrev pub decreases-copy_pairs : goal.decreases-copy_pairs
decreases-copy_pairs l = 3 * depth_of_pairs l.pairs.now + 1
