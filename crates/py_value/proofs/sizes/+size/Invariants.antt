-- The sizes so far, and what falls.
use Rattle.std.proofs.Common.{◌≡◌, ◌+◌, ◌*◌, take}
use Rattle.py_value.specs.View.{data_of, all_of, pairs_of}
use Rattle.py_value.specs.Depth.{depth_of, depth_of_all, depth_of_pairs}
use Rattle.py_value.specs.Size.{cap, size_of_all, size_of_pairs}
use Rattle.py_value.proofs.sizes.+size.Given as goal

abbrev pub invariant-size_of_all-loop-item : goal.invariant-size_of_all-loop-item
invariant-size_of_all-loop-item l = l.total ≡ cap (size_of_all (all_of (take l.item-index l.items)))

abbrev pub invariant-size_of_pairs-loop-pair : goal.invariant-size_of_pairs-loop-pair
invariant-size_of_pairs-loop-pair l = l.total ≡ cap (size_of_pairs (pairs_of (take l.pair-index l.pairs)))

abbrev pub decreases-size : goal.decreases-size
decreases-size l = 2 * depth_of (data_of l.v.now)

abbrev pub decreases-size_of_all : goal.decreases-size_of_all
decreases-size_of_all l = 2 * depth_of_all (all_of l.items.now) + 1

abbrev pub decreases-size_of_pairs : goal.decreases-size_of_pairs
decreases-size_of_pairs l = 2 * depth_of_pairs (pairs_of l.pairs.now) + 1
