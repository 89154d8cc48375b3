-- the names so far are dropped
use Rattle.std.proofs.Common.{◌≡◌, ◌+◌, ◌++◌, drop}
use Rattle.std.specs.Prelude.{flat_map}
use Rattle.graph_meaning.specs.Graph.{elements_of}
use Rattle.py_tree.specs.View.{view_cells}
use Rattle.kernel.proofs.DroppedNames.{apart_from}
use Rattle.kernel.proofs.state.setting.drop_created.Given as goal

abbrev pub invariant-loop-cell : goal.invariant-loop-cell
invariant-loop-cell l =
    apart_from (flat_map (elements_of (view_cells l.notebook)) (drop l.cell-index l.cells)) l.present
    ≡ apart_from (flat_map (elements_of (view_cells l.notebook)) l.cells) l.fn.present

abbrev pub invariant-loop-name : goal.invariant-loop-name
invariant-loop-name l =
    apart_from (drop l.name-index l.name-items ++ flat_map (elements_of (view_cells l.notebook)) (drop (l.cell-index + 1) l.cells)) l.present
    ≡ apart_from (flat_map (elements_of (view_cells l.notebook)) l.cells) l.fn.present
