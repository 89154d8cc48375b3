-- Each way through a line.
use Rattle.std.proofs.Common.{◌≡◌, ◌∙◌, ap, refl, Bool, not, codes, [], ◌∷◌}
use Rattle.run_meaning.specs.declared.binding.Binding.TheVariants.{Module}
use Rattle.py_tree.specs.Names.{Name, is_among}
use Rattle.py_value.specs.Maps.{put, where_name}
use Rattle.py_eval.proofs.Kept.{kept_put}
use Rattle.py_tree.specs.View.{view_head}
use Rattle.py_eval.proofs.Sequence.{exit, onward}
use Rattle.py_eval.proofs.lines.run_line.Goals as goal

pub returns-in_err-eval-in-Value-clause-meets : goal.returns-in_err-eval-in-Value-clause-meets
returns-in_err-eval-in-Value-clause-meets c =
    rw (ap view_head c.in-Value.is, ← c.get.ensures) (exit _ _ _ _ _ _ _ c.from_residual.ensures.1 c.in_err-eval-in-Value.ensures.meets)

pub returns-in_ok-eval-in-Value-clause-meets : goal.returns-in_ok-eval-in-Value-clause-meets
returns-in_ok-eval-in-Value-clause-meets c =
    rw (ap view_head c.in-Value.is, ← c.get.ensures, onward _ _ c.in_ok-eval-in-Value.field-0 _ _ c.in_ok-eval-in-Value.ensures.meets) refl

pub returns-in_err-value-in-Assign-clause-meets : goal.returns-in_err-value-in-Assign-clause-meets
returns-in_err-value-in-Assign-clause-meets c =
    rw (ap view_head c.in-Assign.is, ← c.items-names.ensures, ← c.get-in-Assign.ensures) (exit _ _ _ _ _ _ _ c.from_residual-in_err-value-in-Assign.ensures.1 c.in_err-value-in-Assign.ensures.meets)

pub returns-in_err-bind_targets-in-Assign-clause-meets : goal.returns-in_err-bind_targets-in-Assign-clause-meets
returns-in_err-bind_targets-in-Assign-clause-meets c =
    rw (ap view_head c.in-Assign.is, ← c.items-names.ensures, ← c.get-in-Assign.ensures, onward _ _ c.in_ok-value-in-Assign.value _ _ c.in_ok-value-in-Assign.ensures.meets)
    (exit _ _ _ _ _ _ _ c.from_residual-in_err-bind_targets-in-Assign.ensures.1 (c.in_err-bind_targets-in-Assign.ensures.meets _))

pub returns-in_ok-bind_targets-in-Assign-clause-meets : goal.returns-in_ok-bind_targets-in-Assign-clause-meets
returns-in_ok-bind_targets-in-Assign-clause-meets c =
    rw (ap view_head c.in-Assign.is, ← c.items-names.ensures, ← c.get-in-Assign.ensures, onward _ _ c.in_ok-value-in-Assign.value _ _ c.in_ok-value-in-Assign.ensures.meets, onward _ _ c.bind_targets.new.env _ _ (c.in_ok-bind_targets-in-Assign.ensures.meets _)) refl

pub returns-in_ok-put-in-ImportMo-clause-kept : goal.returns-in_ok-put-in-ImportMo-clause-kept
returns-in_ok-put-in-ImportMo-clause-kept c =
    let others : Name → Bool = λ x. not (is_among x (codes "mo" ∷ [])) in
    let name : c.in_ok-name-in-ImportMo.name ≡ codes "mo" = c.in_ok-name-in-ImportMo.ensures in
    rw (ap view_head c.in-ImportMo.is)
    (ap (where_name others) (c.in_ok-put-in-ImportMo.ensures.ok ∙ ap (λ x. put x Module c.args.env.now) name) ∙ kept_put others (codes "mo") Module c.args.env.now refl)

pub returns-in_err-bind_targets-in-Assign-clause-kept : goal.returns-in_err-bind_targets-in-Assign-clause-kept
returns-in_err-bind_targets-in-Assign-clause-kept c = rw (ap view_head c.in-Assign.is, ← c.items-names.ensures) c.in_err-bind_targets-in-Assign.ensures.kept

pub returns-in_ok-bind_targets-in-Assign-clause-kept : goal.returns-in_ok-bind_targets-in-Assign-clause-kept
returns-in_ok-bind_targets-in-Assign-clause-kept c = rw (ap view_head c.in-Assign.is, ← c.items-names.ensures) c.in_ok-bind_targets-in-Assign.ensures.kept
