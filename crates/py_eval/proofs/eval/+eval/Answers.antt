-- Each way through a sum and an attribute.
use Rattle.std.proofs.Common.{arith, ◌≡◌, IsTrue, refl, sym, ◌∙◌, true, codes}
use Rattle.std.specs.Str.{bytes_eq}
use Rattle.py_tree.specs.Meant.{has_meaning}
use Rattle.py_tree.specs.Trees.{name, binary, Add, attribute}
use Rattle.py_tree.specs.View.{view}
use Rattle.py_eval.proofs.Sequence.{exit, onward, paid}
use Rattle.py_eval.proofs.TreeViews.{is_sum, is_attribute, is_attribute_of_name, right_meant}
use Rattle.py_eval.proofs.eval.+eval.Goals as goal

pub returns-in_err-x-in-Add-clause-meets : goal.returns-in_err-x-in-Add-clause-meets
returns-in_err-x-in-Add-clause-meets t c =
    let is : view c.args.tree.now ≡ binary Add (view c.get.result.now) (view c.in-Add.b) = is_sum _ _ _ _ _ c.in-Add.is c.get.ensures refl in
    rw (is, paid _ 1 c.args.line _ _ c.in_ok-charge.ensures.meets)
    (exit _ _ _ _ _ _ _ c.from_residual-in_err-x-in-Add.ensures.1 c.in_err-x-in-Add.ensures.meets)

pub returns-in_err-y-in-Add-clause-meets : goal.returns-in_err-y-in-Add-clause-meets
returns-in_err-y-in-Add-clause-meets t c =
    let is : view c.args.tree.now ≡ binary Add (view c.get.result.now) (view c.get-in-Add.result.now) = is_sum _ _ _ _ _ c.in-Add.is c.get.ensures c.get-in-Add.ensures in
    rw (is, paid _ 1 c.args.line _ _ c.in_ok-charge.ensures.meets, onward _ _ c.in_ok-x-in-Add.x _ _ c.in_ok-x-in-Add.ensures.meets)
    (exit _ _ _ _ _ _ _ c.from_residual-in_err-y-in-Add.ensures.1 c.in_err-y-in-Add.ensures.meets)

pub returns-in_ok-y-in-Add-clause-meets : goal.returns-in_ok-y-in-Add-clause-meets
returns-in_ok-y-in-Add-clause-meets t c =
    let is : view c.args.tree.now ≡ binary Add (view c.get.result.now) (view c.get-in-Add.result.now) = is_sum _ _ _ _ _ c.in-Add.is c.get.ensures c.get-in-Add.ensures in
    rw (is, paid _ 1 c.args.line _ _ c.in_ok-charge.ensures.meets, onward _ _ c.in_ok-x-in-Add.x _ _ c.in_ok-x-in-Add.ensures.meets, onward _ _ c.in_ok-y-in-Add.y _ _ c.in_ok-y-in-Add.ensures.meets)
    (c.sum.ensures _)

pub eval-requires-in-Add : goal.eval-requires-in-Add
eval-requires-in-Add t c =
    let meant : IsTrue (has_meaning (view c.get-in-Add.result.now)) = right_meant _ _ _ _ c.get-in-Add.ensures c.in-Add.is c.requires in
    (omega (arith, c.in_ok-charge.ensures.paid, c.in_ok-x-in-Add.ensures.used), meant)

pub returns-in-Name-get-clause-meets : goal.returns-in-Name-get-clause-meets
returns-in-Name-get-clause-meets t c =
    let is : view c.args.tree.now ≡ attribute (name c.items-in-Name-get.result.now) c.in-Attribute.name =
    is_attribute_of_name _ _ _ _ _ _ c.in-Attribute.is c.get-in-Attribute.ensures c.in-Name-get.is c.items-in-Name-get.ensures in
    let read : bytes_eq c.in-Attribute.name (codes "value") ≡ true = sym c.is_value.ensures ∙ c.if-not-is_value.false in
    rw (is, paid _ 1 c.args.line _ _ c.in_ok-charge.ensures.meets, read)
    c.present_of_name.ensures.meets

pub returns-in_err-value-in-Attribute-clause-meets : goal.returns-in_err-value-in-Attribute-clause-meets
returns-in_err-value-in-Attribute-clause-meets t c =
    let is : view c.args.tree.now ≡ attribute (view c.get-in-Attribute-2.result.now) c.in-Attribute.name = is_attribute _ _ _ _ c.in-Attribute.is c.get-in-Attribute-2.ensures in
    let read : bytes_eq c.in-Attribute.name (codes "value") ≡ true = sym c.is_value.ensures ∙ c.if-not-is_value.false in
    rw (is, paid _ 1 c.args.line _ _ c.in_ok-charge.ensures.meets, read)
    (exit _ _ _ _ _ _ _ c.from_residual-in_err-value-in-Attribute.ensures.1 c.in_err-value-in-Attribute.ensures.meets)

pub returns-in_ok-value-in-Attribute-clause-meets : goal.returns-in_ok-value-in-Attribute-clause-meets
returns-in_ok-value-in-Attribute-clause-meets t c =
    let is : view c.args.tree.now ≡ attribute (view c.get-in-Attribute-2.result.now) c.in-Attribute.name = is_attribute _ _ _ _ c.in-Attribute.is c.get-in-Attribute-2.ensures in
    let read : bytes_eq c.in-Attribute.name (codes "value") ≡ true = sym c.is_value.ensures ∙ c.if-not-is_value.false in
    rw (is, paid _ 1 c.args.line _ _ c.in_ok-charge.ensures.meets, read, onward _ _ c.in_ok-value-in-Attribute.value _ _ c.in_ok-value-in-Attribute.ensures.meets)
    (c.present_of.ensures _)
