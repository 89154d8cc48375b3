-- the child is added to the parents so far
use Rattle.std.proofs.Common.{◌≡◌, ℕ, ◌+◌, ◌==◌, if◌then◌else◌, take}
use Rattle.cell_graph.specs.Counts.{list_in, count_of}
use Rattle.cell_graph.proofs.children.add_child.Given as goal

abbrev pub invariant-loop-parent : goal.invariant-loop-parent
invariant-loop-parent l =
    (a d : ℕ) → count_of d (list_in l.children a) ≡ count_of d (list_in l.fn.children a) + (if l.child == d then count_of a (take l.parent-index l.parents) else 0)
