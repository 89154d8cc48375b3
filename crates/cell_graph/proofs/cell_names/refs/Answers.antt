-- The kept names are those that are free.
use Rattle.std.proofs.Common.{◌≡◌, ◌++◌, ◌∙◌, ap, subst, filter, not, ◌||◌, rules, Bool, Bor, IfOk}
use Rattle.std.proofs.lemmas.Fn.{filter_same}
use Rattle.py_tree.specs.Names.{Name, first_seen, is_among, is_local, builtins}
use Rattle.py_tree.specs.Scope as scope
use Rattle.py_tree.specs.View.{view_block, view_cell}
use Rattle.cell_graph.specs.Texts.{texts}
use Rattle.py_tree.proofs.NamesOf.{among_first_seen}
use Rattle.cell_graph.proofs.Names.{texts-filter, filter_alike}
use Rattle.cell_graph.proofs.cell_names.refs.Goals as goal

pub returns : goal.returns
returns c =
    let bound = scope.bound (view_block c.args.cell.now.body) in
    let read = scope.read_names (view_block c.args.cell.now.body) in
    let test : Name → Bool = scope.is_free (texts c.in_ok-bound_set.bound_set.keys) in
    let kept : c.retain.new.self.items ≡ filter (λ (r : Bor Name). test r.now) c.add_read.new.names.items =
    filter_same _ _ _ (λ x b f' k. search rules) _ _ c.retain.ensures.filtered in
    let all_bound : texts c.add_bound.new.names.items ≡ bound =
    c.in_ok-add_bound.ensures ∙ ap (λ xs. texts xs ++ bound) c.new-bound.ensures.items in
    let set : texts c.in_ok-bound_set.bound_set.keys ≡ first_seen bound =
    c.in_ok-bound_set.ensures ∙ ap (λ xs. first_seen (texts xs)) c.as_slice.ensures.value ∙ ap first_seen all_bound in
    let same : (x : Name) → test x ≡ scope.is_free bound x =
    λ x. ap (λ b. not (b || is_local x || is_among x builtins)) (ap (is_among x) set ∙ among_first_seen x bound) in
    let all_read : texts c.add_read.new.names.items ≡ read =
    c.in_ok-add_read.ensures ∙ ap (λ xs. texts xs ++ read) c.new-read.ensures.items in
    let names : texts c.in_ok-set_of.field-0.keys ≡ scope.refs (view_cell c.args.cell.now) =
    c.in_ok-set_of.ensures ∙ ap (λ xs. first_seen (texts xs)) (c.as_slice-2.ensures.value ∙ kept)
    ∙ ap first_seen (texts-filter test c.add_read.new.names.items ∙ ap (filter test) all_read ∙ filter_alike test (scope.is_free bound) same read) in
    subst (λ xs. IfOk c.lines_of-2.result (λ lines. lines ≡ xs)) names c.lines_of-2.ensures
