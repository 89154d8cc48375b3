-- No cell lies on a cycle, so the order lists every cell.
use Rattle.std.proofs.Common.{◌≡◌, ℕ, List, true, sym, ap, ◌∙◌, subst, arith}
use Rattle.std.proofs.lemmas.List.{length-map}
use Rattle.graph_meaning.specs.Graph.{is_in, order, NoneCyclic}
use Rattle.graph_meaning.proofs.Orders.{free_is_listed}
use Rattle.py_tree.specs.Trees.{Cell}
use Rattle.py_tree.specs.View.{view_cell, view_cells}
use Rattle.py_tree.specs.declared.tree.CellCode.{CellCode}
use Rattle.cell_graph.proofs.graph.Notebook.order.Goals as goal

pub returns-clause-every : goal.returns-clause-every
returns-clause-every c = λ d below.
    let nb : List Cell = view_cells c.args.self.now in
    let free : NoneCyclic nb = subst (λ (cells : List CellCode). NoneCyclic (view_cells cells)) c.self.view_is c.self.invariant.7 in
    let size = length-map c.args.self.now view_cell in
    let is : c.as_slice.result.now ≡ order nb =
    c.as_slice.ensures.value ∙ c.self.invariant.5 ∙ ap (λ (cells : List CellCode). order (view_cells cells)) c.self.view_is in
    subst (λ (cells : List ℕ). is_in d cells ≡ true) (sym is) (free_is_listed nb free d (omega (arith, below, size)))
