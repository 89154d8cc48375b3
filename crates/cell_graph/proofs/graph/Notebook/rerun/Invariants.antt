-- the cells so far that run again, and the places of those that wait
use Rattle.std.proofs.Common.{◌-◌, length}
use Rattle.graph_meaning.specs.Reruns.{reads_one, is_within}
use Rattle.py_tree.specs.View.{view_cells}
use Rattle.cell_graph.proofs.Reruns.{IsSpread}
use Rattle.cell_graph.proofs.graph.Notebook.rerun.Given as goal

abbrev pub invariant-loop-place : goal.invariant-loop-place
invariant-loop-place l =
    let nb = view_cells l.self-inside.cells.items in
    IsSpread l.self-inside.order.items l.self-inside.children.items (reads_one nb l.names) (is_within nb l.names (length nb)) l.listed.items l.pending.keys

abbrev pub decreases-loop-place : goal.decreases-loop-place
decreases-loop-place l = length l.self-inside.order.items - length l.listed.items
