-- The element is put back with the other present value.
use Rattle.std.proofs.Common.{◌≡◌, ◌∙◌, sym, ap, not, Some}
use Rattle.std.specs.Str.{bytes_eq}
use Rattle.run_meaning.specs.declared.binding.Binding.TheVariants.{Plain}
use Rattle.py_value.specs.ElementData.{with_present}
use Rattle.py_value.specs.Maps.{look_up, put, where_name}
use Rattle.py_value.specs.View.{data_of}
use Rattle.py_value.specs.declared.types.Value.TheVariants as V
use Rattle.kernel.proofs.PutBack.{element_set}
use Rattle.kernel.proofs.state.setting.set_element.Goals as goal

pub returns-in_ok-put : goal.returns-in_ok-put
returns-in_ok-put c =
    let env = c.args.env.now in
    let taken = c.in-Some-Plain-Element in
    let found : c.remove.result ≡ look_up c.args.name.now env = c.remove.ensures.taken ∙ ap (λ n. look_up n env) c.items.ensures in
    let bound : Some (Plain (V.Element taken.element)) ≡ look_up c.args.name.now env =
    sym (taken.is ∙ ap Some (taken.field-0-is ∙ ap Plain taken.field-0-0-is)) ∙ found in
    let left = c.remove.ensures.left ∙ ap (λ n. where_name (λ x. not (bytes_eq x n)) env) c.items.ensures in
    let now = c.set_present.ensures ∙ ap (λ v. with_present (data_of v) taken.element) c.in_ok-copy.ensures in
    c.in_ok-put.ensures.ok
    ∙ (λ i. put (c.in_ok-copy-2.ensures i) (Plain (V.Element (now i))) (left i))
    ∙ element_set c.args.name.now taken.element (data_of c.args.value.now) env bound c.requires.there c.requires.sorted
