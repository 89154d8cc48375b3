-- The items so far may be keys, and what falls.
use Rattle.std.proofs.Common.{◌≡◌, ◌+◌, ◌*◌, drop}
use Rattle.py_value.specs.View.{data_of, all_of}
use Rattle.py_value.specs.Depth.{depth_of, depth_of_all}
use Rattle.py_value.specs.Keys.{key_fault_of_all}
use Rattle.py_value.proofs.key_faults.+key.Given as goal

abbrev pub invariant-key_fault_of_all-loop-item : goal.invariant-key_fault_of_all-loop-item
invariant-key_fault_of_all-loop-item l = key_fault_of_all (all_of l.items) ≡ key_fault_of_all (all_of (drop l.item-index l.items))

abbrev pub decreases-key_fault : goal.decreases-key_fault
decreases-key_fault l = 2 * depth_of (data_of l.v.now)

abbrev pub decreases-key_fault_of_all : goal.decreases-key_fault_of_all
decreases-key_fault_of_all l = 2 * depth_of_all (all_of l.items.now) + 1
