-- the cells so far are marked
use Rattle.std.proofs.Common.{◌≡◌, ℕ, ◌+◌, ◌&&◌, ◌||◌, not, length, take}
use Rattle.std.specs.List.{count_by}
use Rattle.graph_meaning.specs.Graph.{is_in}
use Rattle.cell_graph.specs.Marks.{is_marked}
use Rattle.cell_graph.proofs.cycles.mark.Given as goal

abbrev pub invariant-loop-cell : goal.invariant-loop-cell
invariant-loop-cell l = record {
  marks : (c : ℕ) → is_marked l.marked c ≡ (is_marked l.fn.marked c || is_in c (take l.cell-index l.cells));
  added : (c : ℕ) → is_in c l.pending.items ≡ (is_in c l.fn.pending.items || (is_in c (take l.cell-index l.cells) && not (is_marked l.fn.marked c)));
  counted : count_by not l.marked + length l.pending.items ≡ count_by not l.fn.marked + length l.fn.pending.items;
}
