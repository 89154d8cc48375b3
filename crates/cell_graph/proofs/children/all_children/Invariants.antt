-- the cells so far are added to their parents
use Rattle.std.proofs.Common.{◌≡◌, ℕ, if◌then◌else◌, length}
use Rattle.std.specs.Prelude.{nat_lt}
use Rattle.cell_graph.specs.Counts.{list_in, count_of}
use Rattle.cell_graph.proofs.children.all_children.Given as goal

abbrev pub invariant-loop-cell : goal.invariant-loop-cell
invariant-loop-cell l = record {
  count : length l.children.items ≡ length l.parents;
  each : (a d : ℕ) → count_of d (list_in l.children.items a) ≡ (if nat_lt d l.cell then count_of a (list_in l.parents d) else 0);
}
