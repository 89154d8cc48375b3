-- How far the loops have come, and what falls.
use Rattle.std.proofs.Common.{◌≡◌, ◌≤◌, ◌-◌, ◌+◌, ◌*◌, drop, length, max}
use Rattle.py_value.specs.View.{data_of, all_of, pair_of, pairs_of}
use Rattle.py_value.specs.Depth.{depth_of, depth_of_all, depth_of_pairs}
use Rattle.py_value.specs.Eq.{each_eq, pairs_in, has_pair}
use Rattle.py_value.proofs.equality.+eq.Given as goal

abbrev pub invariant-each_eq-loop-i : goal.invariant-each_eq-loop-i
invariant-each_eq-loop-i l = (length l.a ≡ length l.b) × (l.i ≤ length l.a) × (each_eq (all_of l.a) (all_of l.b) ≡ each_eq (all_of (drop l.i l.a)) (all_of (drop l.i l.b)))

abbrev pub decreases-each_eq-loop-i : goal.decreases-each_eq-loop-i
decreases-each_eq-loop-i l = length l.a - l.i

abbrev pub invariant-pairs_in-loop-pair : goal.invariant-pairs_in-loop-pair
invariant-pairs_in-loop-pair l = pairs_in (pairs_of l.pairs) (pairs_of l.others) ≡ pairs_in (pairs_of (drop l.pair-index l.pairs)) (pairs_of l.others)

abbrev pub invariant-has_pair-loop-other : goal.invariant-has_pair-loop-other
invariant-has_pair-loop-other l = has_pair (pair_of l.pair) (pairs_of l.others) ≡ has_pair (pair_of l.pair) (pairs_of (drop l.other-index l.others))

abbrev pub decreases-eq_value : goal.decreases-eq_value
decreases-eq_value l = 4 * depth_of (data_of l.a.now)

abbrev pub decreases-each_eq : goal.decreases-each_eq
decreases-each_eq l = 4 * depth_of_all (all_of l.a.now) + 1

abbrev pub decreases-pairs_in : goal.decreases-pairs_in
decreases-pairs_in l = 4 * depth_of_pairs (pairs_of l.pairs.now) + 2

abbrev pub decreases-has_pair : goal.decreases-has_pair
decreases-has_pair l = 4 * max (depth_of (data_of l.pair.now.0)) (depth_of (data_of l.pair.now.1)) + 1

abbrev pub decreases-eq_pairs : goal.decreases-eq_pairs
decreases-eq_pairs l = 4 * depth_of_pairs (pairs_of l.a.now) + 3
