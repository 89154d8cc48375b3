-- A cell more lies on a cycle, or on none.
use Rattle.std.proofs.Common.{ℕ, ◌+◌, List, sym, ap, ◌∙◌, subst}
use Rattle.std.specs.Prelude.{Vec}
use Rattle.std.specs.declared.alloc.Global.{Global}
use Rattle.graph_meaning.specs.Graph.{AreCyclic}
use Rattle.cell_graph.proofs.Ancestors.{AreFound, found_more, found_same, all_found}
use Rattle.cell_graph.proofs.cycles.cyclic_cells.Goals as goal
use Rattle.cell_graph.proofs.cycles.cyclic_cells.Goals.{then-branch+in_ok-push, else-branch}

pub loop-cell-preserved : goal.loop-cell-preserved
loop-cell-preserved c = λ nb kept.
    let above : List (List ℕ) = c.args.parents.now in
    let n = c.loop-cell.cell in
    let cells : List ℕ = c.loop-cell.cells.items in
    let so_far = c.loop-cell.invariant nb kept in
    elim c.if-branch.branch [
      | then-branch+in_ok-push w ↦
          let cycle = c.in_ok-lies_on_cycle.ensures.on nb kept w.if-branch.true in
          subst (AreFound nb above (n + 1)) (sym (ap (λ (v : Vec ℕ Global). v.items) w.cells-is ∙ w.in_ok-push.ensures.items))
          (found_more nb above n c.loop-cell-test.true cells so_far cycle)
      | else-branch w ↦
          let free = c.in_ok-lies_on_cycle.ensures.off nb kept w.if-branch.false in
          subst (AreFound nb above (n + 1)) (sym (ap (λ (v : Vec ℕ Global). v.items) w.cells-is))
          (found_same nb above n c.loop-cell-test.true cells so_far free)
    ]

pub returns : goal.returns
returns c = λ nb kept.
    subst (AreCyclic nb) (sym c.of.ensures)
    (all_found nb c.args.parents.now c.loop-cell.cell c.loop-cell.cells.items kept c.loop-cell-test.false (c.loop-cell.invariant nb kept))
