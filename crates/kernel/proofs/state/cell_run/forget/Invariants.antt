-- the names so far are gone
use Rattle.std.proofs.Common.{◌≡◌, drop, not}
use Rattle.py_tree.specs.Names.{is_among}
use Rattle.py_value.specs.Maps.{where_name}
use Rattle.kernel.proofs.state.cell_run.forget.Given as goal

abbrev pub invariant-loop-name : goal.invariant-loop-name
invariant-loop-name l = where_name (λ x. not (is_among x (drop l.name-index l.name-items))) l.env ≡ where_name (λ x. not (is_among x l.name-items)) l.fn.env
