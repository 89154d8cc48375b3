-- What is written is the text so far.
use Rattle.std.proofs.Common.{◌≡◌, ◌+◌, ◌*◌, ◌++◌, map, take}
use Rattle.py_value.specs.View.{data_of, all_of, pairs_of}
use Rattle.py_value.specs.Depth.{depth_of, depth_of_all, depth_of_pairs, depth_of_element}
use Rattle.py_value.specs.Texts.{items_text, pairs_text, params_text, spelling_of, spelling_of_pair}
use Rattle.py_value.proofs.repr.+text.Given as goal

abbrev pub invariant-push_items-loop-i : goal.invariant-push_items-loop-i
invariant-push_items-loop-i l = l.out ≡ l.fn.out ++ items_text (map spelling_of (all_of (take l.i l.items)))

abbrev pub invariant-push_pairs-loop-i : goal.invariant-push_pairs-loop-i
invariant-push_pairs-loop-i l = l.out ≡ l.fn.out ++ pairs_text (map spelling_of_pair (pairs_of (take l.i l.pairs)))

abbrev pub invariant-push_params-loop-param : goal.invariant-push_params-loop-param
invariant-push_params-loop-param l = l.out ≡ l.fn.out ++ params_text (map spelling_of_pair (pairs_of (take l.param-index l.params)))

abbrev pub decreases-push_repr : goal.decreases-push_repr
decreases-push_repr l = 3 * depth_of (data_of l.v.now)

abbrev pub decreases-push_text : goal.decreases-push_text
decreases-push_text l = 3 * depth_of (data_of l.v.now) + 1

abbrev pub decreases-push_items : goal.decreases-push_items
decreases-push_items l = 3 * depth_of_all (all_of l.items.now) + 1

abbrev pub decreases-push_pairs : goal.decreases-push_pairs
decreases-push_pairs l = 3 * depth_of_pairs (pairs_of l.pairs.now) + 2

abbrev pub decreases-push_params : goal.decreases-push_params
decreases-push_params l = 3 * depth_of_pairs (pairs_of l.params.now) + 2

abbrev pub decreases-push_element : goal.decreases-push_element
decreases-push_element l = 3 * depth_of_element l.e.now + 2
