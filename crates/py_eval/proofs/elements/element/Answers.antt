-- Each way through a call that makes an element.
use Rattle.std.proofs.Common.{◌≡◌, ◌∙◌, ap}
use Rattle.run_meaning.specs.Meaning.{made_at}
use Rattle.py_eval.specs.Shows.{scene_of}
use Rattle.py_value.specs.Size.{charge_of}
use Rattle.py_eval.proofs.Sequence.{exit, onward, paid, unpaid}
use Rattle.py_eval.proofs.elements.element.Goals as goal

pub returns-in_err-read_module-clause-meets : goal.returns-in_err-read_module-clause-meets
returns-in_err-read_module-clause-meets c =
    rw (paid _ 1 c.args.line _ _ c.in_ok-charge.ensures.meets)
    (exit _ _ _ _ _ _ _ c.from_residual-in_err-read_module.ensures.1 (c.in_err-read_module.ensures _))

pub returns-in_err-places-clause-meets : goal.returns-in_err-places-clause-meets
returns-in_err-places-clause-meets c =
    rw (paid _ 1 c.args.line _ _ c.in_ok-charge.ensures.meets, onward _ _ _ _ _ (c.in_ok-read_module.ensures _))
    (exit _ _ _ _ _ _ _ c.from_residual-in_err-places.ensures.1 c.in_err-places.ensures.meets)

pub returns-in_err-charge-2-clause-meets : goal.returns-in_err-charge-2-clause-meets
returns-in_err-charge-2-clause-meets c =
    let amount : c.operand_charge.result ≡ charge_of c.in_ok-places.places.items = c.operand_charge.ensures ∙ ap charge_of c.as_slice.ensures.value in
    rw (paid _ 1 c.args.line _ _ c.in_ok-charge.ensures.meets, onward _ _ _ _ _ (c.in_ok-read_module.ensures _), onward _ _ _ _ _ c.in_ok-places.ensures.meets, ← amount)
    (unpaid _ _ _ _ _ _ _ _ c.from_residual-in_err-charge-2.ensures.1 c.in_err-charge-2.ensures.meets)

pub returns-clause-meets : goal.returns-clause-meets
returns-clause-meets c =
    let amount : c.operand_charge.result ≡ charge_of c.in_ok-places.places.items = c.operand_charge.ensures ∙ ap charge_of c.as_slice.ensures.value in
    rw (paid _ 1 c.args.line _ _ c.in_ok-charge.ensures.meets, onward _ _ _ _ _ (c.in_ok-read_module.ensures _), onward _ _ _ _ _ c.in_ok-places.ensures.meets, ← amount, paid (made_at (scene_of c.args.scene.now) c.args.line c.args.name.now c.args.kind c.in_ok-places.places.items) _ _ _ _ c.in_ok-charge-2.ensures.meets)
    (c.make_element.ensures _)
