-- The cells that run again are those that the answer has, from the bindings and the present values that it has.
use Rattle.std.proofs.Common.{◌∙◌, ap, map}
use Rattle.std.specs.Prelude.{flat_map, fold}
use Rattle.graph_meaning.specs.Graph.{elements_of}
use Rattle.graph_meaning.specs.Reruns.{rerun}
use Rattle.py_tree.specs.Names.{Name}
use Rattle.py_tree.specs.View.{view_cells}
use Rattle.py_value.specs.declared.types.Value.{Value}
use Rattle.kernel.specs.Sets.{with_set}
use Rattle.kernel.specs.declared.pending.Cells.TheVariants as cells
use Rattle.kernel.proofs.DroppedNames.{apart_from}
use Rattle.kernel.proofs.SetValues.{again_there, set_kept, set_taken}
use Rattle.kernel.proofs.state.KernelState.keep.Goals as goal

pub drop_created-requires : goal.drop_created-requires
drop_created-requires c =
    again_there c.args.self.now.notebook.now c.in_ok-names_of.field-0 c.items.result.now (c.items.ensures ∙ c.in_ok-again.ensures)

pub returns-clause-kept : goal.returns-clause-kept
returns-clause-kept c = λ items fit.
    let s = c.args.self.now in
    let nb = view_cells s.notebook.now in
    let again_is = c.in_ok-again.ensures ∙ ap (rerun nb) (c.in_ok-names_of.ensures ∙ ap (map (λ (t : Name × Value). t.0)) c.as_slice-2.ensures.value) in
    set_kept s c.requires.kept c.requires.free c.requires.on items c.args.sets.items fit c.drop_created.new.present c.set_elements.new.env
    (cells.Again c.in_ok-again.again) again_is (c.in_ok-set_elements.ensures ∙ ap (fold with_set s.env) c.as_slice.ensures.value)
    (c.drop_created.ensures ∙ (λ i. apart_from (flat_map (elements_of nb) (c.items.ensures i)) (c.in_ok-keep_values.ensures i)))

pub returns-clause-taken : goal.returns-clause-taken
returns-clause-taken c = λ items fit.
    let s = c.args.self.now in
    let nb = view_cells s.notebook.now in
    let again_is = c.in_ok-again.ensures ∙ ap (rerun nb) (c.in_ok-names_of.ensures ∙ ap (map (λ (t : Name × Value). t.0)) c.as_slice-2.ensures.value) in
    set_taken s c.requires.kept c.requires.free c.requires.on items c.args.sets.items fit c.drop_created.new.present c.set_elements.new.env
    (cells.Again c.in_ok-again.again) again_is (c.in_ok-set_elements.ensures ∙ ap (fold with_set s.env) c.as_slice.ensures.value)
    (c.drop_created.ensures ∙ (λ i. apart_from (flat_map (elements_of nb) (c.items.ensures i)) (c.in_ok-keep_values.ensures i)))
