-- The kept names are those that aren't local.
use Rattle.std.proofs.Common.{◌≡◌, ◌++◌, ◌∙◌, ap, subst, filter, not, rules, Bool, Bor, IfOk}
use Rattle.std.proofs.lemmas.Fn.{filter_same}
use Rattle.py_tree.specs.Names.{Name, first_seen, is_local}
use Rattle.py_tree.specs.Scope as scope
use Rattle.py_tree.specs.View.{view_block, view_cell}
use Rattle.cell_graph.specs.Texts.{texts}
use Rattle.cell_graph.proofs.Names.{texts-filter}
use Rattle.cell_graph.proofs.cell_names.defs.Goals as goal

pub returns : goal.returns
returns c =
    let test : Name → Bool = λ x. not (is_local x) in
    let bound = scope.bound (view_block c.args.cell.now.body) in
    let kept : c.retain.new.self.items ≡ filter (λ (r : Bor Name). test r.now) c.add_bound.new.names.items =
    filter_same _ _ _ (λ x b f' k. search rules) _ _ c.retain.ensures.filtered in
    let all : texts c.add_bound.new.names.items ≡ bound =
    c.in_ok-add_bound.ensures ∙ ap (λ xs. texts xs ++ bound) c.new-bound.ensures.items in
    let names : texts c.in_ok-set_of.field-0.keys ≡ scope.defs (view_cell c.args.cell.now) =
    c.in_ok-set_of.ensures ∙ ap (λ xs. first_seen (texts xs)) (c.as_slice.ensures.value ∙ kept)
    ∙ ap first_seen (texts-filter test c.add_bound.new.names.items ∙ ap (filter test) all) in
    subst (λ xs. IfOk c.lines_of-2.result (λ lines. lines ≡ xs)) names c.lines_of-2.ensures
