-- A kernel can run each notebook of the form.
use Rattle.std.proofs.Common.{subst, sym, arith}
use Rattle.std.proofs.lemmas.List.{length-map}
use Rattle.py_tree.specs.View.{view_cell, view_cells}
use Rattle.visit_meaning.specs.Runnable.{Runnable}
use Rattle.thin_runs.proofs.ThinCode.{thin_few}
use Rattle.thin_runs.proofs.ThinRuns.{thin_runnable}
use Rattle.server_checks.proofs.notebooks.slider.Goals as goal

pub notebook-requires : goal.notebook-requires
notebook-requires c =
    let cells = c.in-Ok.cells.items in
    omega (arith, thin_few (view_cells cells) c.in-Ok.ensures.cells.thin, length-map cells view_cell)

pub returns-in-Ok-notebook : goal.returns-in-Ok-notebook
returns-in-Ok-notebook c =
    let cells = view_cells c.in-Ok.cells.items in
    subst (λ cells. Runnable (view_cells cells)) (sym c.in-Ok-notebook.ensures.same) (thin_runnable cells c.in-Ok.ensures.cells.thin)
