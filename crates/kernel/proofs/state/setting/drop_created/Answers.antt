-- Each name that is dropped is gone with the rest.
use Rattle.std.proofs.Common.{◌∙◌, sym, ap, drop, not, ◌+◌, ◌++◌}
use Rattle.std.specs.Prelude.{flat_map}
use Rattle.std.specs.Str.{bytes_eq}
use Rattle.graph_meaning.specs.Graph.{elements_of}
use Rattle.py_tree.specs.View.{view_cells}
use Rattle.py_value.specs.Maps.{where_name}
use Rattle.kernel.proofs.DroppedNames.{apart_from, next_dropped, no_names}
use Rattle.kernel.proofs.state.setting.drop_created.Goals as goal

pub loop-name-preserved : goal.loop-name-preserved
loop-name-preserved c =
    let names = c.items-name-items.result.now in
    let i = c.loop-name.name-index in
    let rest = flat_map (elements_of (view_cells c.args.notebook.now)) (drop (c.loop-cell.cell-index + 1) c.args.cells.now) in
    ap (apart_from (drop (i + 1) names ++ rest)) (c.remove-dropped.ensures.left ∙ ap (λ n. where_name (λ x. not (bytes_eq x n)) c.loop-name.present) c.items.ensures)
    ∙ next_dropped names rest i c.name-item.result c.loop-name.present c.loop-name-test.true c.name-item.is ∙ c.loop-name.invariant

pub returns : goal.returns
returns c =
    sym (no_names (elements_of (view_cells c.args.notebook.now)) c.args.cells.now c.loop-cell.cell-index c.loop-cell.present c.loop-cell-test.false)
    ∙ c.loop-cell.invariant
