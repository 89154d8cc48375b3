-- The cell is cancelled, or does what its run says.
use Rattle.std.proofs.Common.{◌≡◌, ◌∙◌, sym, ap, subst, not, ◌+◌, ◌≤◌, add-zero, arith, length, get_or}
use Rattle.std.specs.Prelude.{Some, slice_get}
use Rattle.visit_meaning.specs.Whole as whole
use Rattle.py_tree.specs.Names.{is_among}
use Rattle.py_tree.specs.Trees.{Cell}
use Rattle.py_tree.specs.View.{view_cell, view_cells}
use Rattle.py_value.specs.Maps.{where_name}
use Rattle.kernel.specs.KernelState.{IsPlain, outcome_at, run_of}
use Rattle.kernel.proofs.CellRun.{plain_after, plain_without, removed_again}
use Rattle.kernel.proofs.Results.{on_ok_then, if_ok_each}
use Rattle.kernel.proofs.CellStep.{code_at, one_code, parents_there, may_run, defs_are, elements_are, cancelled_outcome, ran_outcome}
use Rattle.kernel.proofs.state.KernelState.run_cell.Goals as goal

pub all_ok-requires : goal.all_ok-requires
all_ok-requires g c = parents_there c.args.self.now.notebook.now c.args.cell (length c.as_slice.result.now) c.parents.result.now c.parents.ensures (ap length c.as_slice.ensures.value ∙ c.requires.count)

pub returns-then-not-all_ok-clause-frame : goal.returns-then-not-all_ok-clause-frame
returns-then-not-all_ok-clause-frame g c code e =
    let off = may_run c.args.self.now c.args.cell c.as_slice.result.now c.parents.result.now _ c.as_slice.ensures.value c.parents.ensures (sym c.if-not-all_ok.true ∙ c.all_ok.ensures) in
    c.cancelled_frame.ensures ∙ ap (λ (o : whole.Outcome). o.frame) (cancelled_outcome c.args.self.now c.args.cell code off)

pub returns-then-not-all_ok-clause-env : goal.returns-then-not-all_ok-clause-env
returns-then-not-all_ok-clause-env g c code e =
    let nb = view_cells c.args.self.now.notebook.now in
    let off = may_run c.args.self.now c.args.cell c.as_slice.result.now c.parents.result.now _ c.as_slice.ensures.value c.parents.ensures (sym c.if-not-all_ok.true ∙ c.all_ok.ensures) in
    c.forget.ensures ∙ ap (λ ns. where_name (λ x. not (is_among x ns)) c.args.self.now.env) (c.defs_of-defs.ensures ∙ defs_are nb c.args.cell code e)
    ∙ ap (λ (o : whole.Outcome). o.env) (cancelled_outcome c.args.self.now c.args.cell code off)

pub returns-then-not-all_ok-clause-steps : goal.returns-then-not-all_ok-clause-steps
returns-then-not-all_ok-clause-steps g c code e =
    let off = may_run c.args.self.now c.args.cell c.as_slice.result.now c.parents.result.now _ c.as_slice.ensures.value c.parents.ensures (sym c.if-not-all_ok.true ∙ c.all_ok.ensures) in
    sym (add-zero c.args.steps.now) ∙ ap (λ (o : whole.Outcome). c.args.steps.now + o.cost) (cancelled_outcome c.args.self.now c.args.cell code off)

pub returns-then-not-all_ok-clause-plain : goal.returns-then-not-all_ok-clause-plain
returns-then-not-all_ok-clause-plain g c = plain_without c.defs_of-defs.result.now c.args.self.now.env c.forget.new.env c.requires.plain c.forget.ensures

pub run_code-requires-clause-meant : goal.run_code-requires-clause-meant
run_code-requires-clause-meant g c =
    let at = code_at c.args.self.now.notebook.now c.args.cell c.index-cells-cell.result c.requires.there (c.index-cells-cell.is ∙ ap (λ xs. get_or xs c.args.cell c.index-cells-cell.result) c.cells.ensures.cells) in
    c.requires.runnable.meant c.args.cell (view_cell c.index-cells-cell.result) at

pub run_code-requires-clause-plain_code : goal.run_code-requires-clause-plain_code
run_code-requires-clause-plain_code g c =
    let at = code_at c.args.self.now.notebook.now c.args.cell c.index-cells-cell.result c.requires.there (c.index-cells-cell.is ∙ ap (λ xs. get_or xs c.args.cell c.index-cells-cell.result) c.cells.ensures.cells) in
    c.requires.runnable.plain c.args.cell (view_cell c.index-cells-cell.result) at

pub run_code-requires-clause-plain : goal.run_code-requires-clause-plain
run_code-requires-clause-plain g c = plain_without c.defs_of-defs.result.now c.args.self.now.env c.forget.new.env c.requires.plain c.forget.ensures

pub run_code-requires-clause-defs : goal.run_code-requires-clause-defs
run_code-requires-clause-defs g c =
    let at = code_at c.args.self.now.notebook.now c.args.cell c.index-cells-cell.result c.requires.there (c.index-cells-cell.is ∙ ap (λ xs. get_or xs c.args.cell c.index-cells-cell.result) c.cells.ensures.cells) in
    c.defs_of-defs.ensures ∙ defs_are (view_cells c.args.self.now.notebook.now) c.args.cell (view_cell c.index-cells-cell.result) at

pub run_code-requires-clause-own : goal.run_code-requires-clause-own
run_code-requires-clause-own g c =
    let at = code_at c.args.self.now.notebook.now c.args.cell c.index-cells-cell.result c.requires.there (c.index-cells-cell.is ∙ ap (λ xs. get_or xs c.args.cell c.index-cells-cell.result) c.cells.ensures.cells) in
    c.elements_of-own.ensures ∙ elements_are (view_cells c.args.self.now.notebook.now) c.args.cell (view_cell c.index-cells-cell.result) at

pub run_code-requires-clause-removed : goal.run_code-requires-clause-removed
run_code-requires-clause-removed g c =
    let code = view_cell c.index-cells-cell.result in
    let at = code_at c.args.self.now.notebook.now c.args.cell c.index-cells-cell.result c.requires.there (c.index-cells-cell.is ∙ ap (λ xs. get_or xs c.args.cell c.index-cells-cell.result) c.cells.ensures.cells) in
    let is = c.forget.ensures ∙ ap (λ ns. where_name (λ x. not (is_among x ns)) c.args.self.now.env) (c.defs_of-defs.ensures ∙ defs_are (view_cells c.args.self.now.notebook.now) c.args.cell code at) in
    subst (λ env. whole.without_defs code env ≡ env) (sym is) (removed_again code c.args.self.now.env)

pub returns-clause-frame : goal.returns-clause-frame
returns-clause-frame g c =
    let nb = view_cells c.args.self.now.notebook.now in
    let code = view_cell c.index-cells-cell.result in
    let at = code_at c.args.self.now.notebook.now c.args.cell c.index-cells-cell.result c.requires.there (c.index-cells-cell.is ∙ ap (λ xs. get_or xs c.args.cell c.index-cells-cell.result) c.cells.ensures.cells) in
    let is = c.forget.ensures ∙ ap (λ ns. where_name (λ x. not (is_among x ns)) c.args.self.now.env) (c.defs_of-defs.ensures ∙ defs_are nb c.args.cell code at) in
    let on = may_run c.args.self.now c.args.cell c.as_slice.result.now c.parents.result.now _ c.as_slice.ensures.value c.parents.ensures (sym c.if-not-all_ok.false ∙ c.all_ok.ensures) in
    let outcome = ran_outcome c.args.self.now c.args.cell code c.forget.new.env on is in
    if_ok_each c.run_code.result (λ (k : Cell). slice_get nb c.args.cell ≡ Some k) _ (λ k. (outcome_at c.args.self.now c.args.cell k).frame)
    (λ k e. ap (λ (o : whole.Outcome). o.frame) outcome ∙ ap (λ k. (outcome_at c.args.self.now c.args.cell k).frame) (one_code (slice_get nb c.args.cell) code k at e)) c.run_code.ensures.frame

pub returns-clause-env : goal.returns-clause-env
returns-clause-env g c =
    let nb = view_cells c.args.self.now.notebook.now in
    let code = view_cell c.index-cells-cell.result in
    let at = code_at c.args.self.now.notebook.now c.args.cell c.index-cells-cell.result c.requires.there (c.index-cells-cell.is ∙ ap (λ xs. get_or xs c.args.cell c.index-cells-cell.result) c.cells.ensures.cells) in
    let is = c.forget.ensures ∙ ap (λ ns. where_name (λ x. not (is_among x ns)) c.args.self.now.env) (c.defs_of-defs.ensures ∙ defs_are nb c.args.cell code at) in
    let on = may_run c.args.self.now c.args.cell c.as_slice.result.now c.parents.result.now _ c.as_slice.ensures.value c.parents.ensures (sym c.if-not-all_ok.false ∙ c.all_ok.ensures) in
    let outcome = ran_outcome c.args.self.now c.args.cell code c.forget.new.env on is in
    on_ok_then c.run_code.result _ _
    (λ h k e. h ∙ ap (λ (o : whole.Outcome). o.env) outcome ∙ ap (λ k. (outcome_at c.args.self.now c.args.cell k).env) (one_code (slice_get nb c.args.cell) code k at e)) c.run_code.ensures.env

pub returns-clause-steps : goal.returns-clause-steps
returns-clause-steps g c =
    let nb = view_cells c.args.self.now.notebook.now in
    let code = view_cell c.index-cells-cell.result in
    let at = code_at c.args.self.now.notebook.now c.args.cell c.index-cells-cell.result c.requires.there (c.index-cells-cell.is ∙ ap (λ xs. get_or xs c.args.cell c.index-cells-cell.result) c.cells.ensures.cells) in
    let is = c.forget.ensures ∙ ap (λ ns. where_name (λ x. not (is_among x ns)) c.args.self.now.env) (c.defs_of-defs.ensures ∙ defs_are nb c.args.cell code at) in
    let on = may_run c.args.self.now c.args.cell c.as_slice.result.now c.parents.result.now _ c.as_slice.ensures.value c.parents.ensures (sym c.if-not-all_ok.false ∙ c.all_ok.ensures) in
    let outcome = ran_outcome c.args.self.now c.args.cell code c.forget.new.env on is in
    on_ok_then c.run_code.result _ _
    (λ h k e. h ∙ ap (λ (o : whole.Outcome). c.args.steps.now + o.cost) outcome ∙ ap (λ k. c.args.steps.now + (outcome_at c.args.self.now c.args.cell k).cost) (one_code (slice_get nb c.args.cell) code k at e)) c.run_code.ensures.steps

pub returns-clause-plain : goal.returns-clause-plain
returns-clause-plain g c =
    on_ok_then c.run_code.result _ _
    (λ h. subst IsPlain (sym h) (plain_after c.forget.new.env (run_of (record c.args.self.now { env = c.forget.new.env }) (view_cell c.index-cells-cell.result)) (plain_without c.defs_of-defs.result.now c.args.self.now.env c.forget.new.env c.requires.plain c.forget.ensures)))
    c.run_code.ensures.env

pub returns-then-not-all_ok-clause-most : goal.returns-then-not-all_ok-clause-most
returns-then-not-all_ok-clause-most g c = λ code e. omega arith

pub returns-clause-most : goal.returns-clause-most
returns-clause-most g c =
    let nb = view_cells c.args.self.now.notebook.now in
    let code = view_cell c.index-cells-cell.result in
    let at = code_at c.args.self.now.notebook.now c.args.cell c.index-cells-cell.result c.requires.there (c.index-cells-cell.is ∙ ap (λ xs. get_or xs c.args.cell c.index-cells-cell.result) c.cells.ensures.cells) in
    let is = c.forget.ensures ∙ ap (λ ns. where_name (λ x. not (is_among x ns)) c.args.self.now.env) (c.defs_of-defs.ensures ∙ defs_are nb c.args.cell code at) in
    let on = may_run c.args.self.now c.args.cell c.as_slice.result.now c.parents.result.now _ c.as_slice.ensures.value c.parents.ensures (sym c.if-not-all_ok.false ∙ c.all_ok.ensures) in
    let outcome = ran_outcome c.args.self.now c.args.cell code c.forget.new.env on is in
    λ k e. subst (λ n. c.run_code.new.steps ≤ c.args.steps.now + n)
    (ap (λ (o : whole.Outcome). o.cost) outcome ∙ ap (λ k. (outcome_at c.args.self.now c.args.cell k).cost) (one_code (slice_get nb c.args.cell) code k at e))
    c.run_code.ensures.most
