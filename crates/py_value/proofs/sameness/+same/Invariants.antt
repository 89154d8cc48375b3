-- How far two lists are the same, and what falls.
use Rattle.std.proofs.Common.{length, ◌-◌, ◌+◌, ◌*◌, ◌≡◌, ◌≤◌, take}
use Rattle.py_value.specs.View.{data_of, all_of, pairs_of}
use Rattle.py_value.specs.Depth.{depth_of, depth_of_all, depth_of_pairs, depth_of_element}
use Rattle.py_value.proofs.sameness.+same.Given as goal

abbrev pub invariant-same_all-loop-i : goal.invariant-same_all-loop-i
invariant-same_all-loop-i l = (length l.a ≡ length l.b) × (l.i ≤ length l.a) × (take l.i l.a ≡ take l.i l.b)

abbrev pub decreases-same_all-loop-i : goal.decreases-same_all-loop-i
decreases-same_all-loop-i l = length l.a - l.i

abbrev pub invariant-same_pairs-loop-i : goal.invariant-same_pairs-loop-i
invariant-same_pairs-loop-i l = (length l.a ≡ length l.b) × (l.i ≤ length l.a) × (take l.i l.a ≡ take l.i l.b)

abbrev pub decreases-same_pairs-loop-i : goal.decreases-same_pairs-loop-i
decreases-same_pairs-loop-i l = length l.a - l.i

abbrev pub decreases-same : goal.decreases-same
decreases-same l = 3 * depth_of (data_of l.a.now)

abbrev pub decreases-same_element : goal.decreases-same_element
decreases-same_element l = 3 * depth_of_element l.a.now + 2

abbrev pub decreases-same_all : goal.decreases-same_all
decreases-same_all l = 3 * depth_of_all (all_of l.a.now) + 1

abbrev pub decreases-same_pairs : goal.decreases-same_pairs
decreases-same_pairs l = 3 * depth_of_pairs (pairs_of l.a.now) + 1
