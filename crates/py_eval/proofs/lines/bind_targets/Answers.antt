-- A name that is no target keeps its binding.
use Rattle.std.proofs.Common.{arith, ◌≡◌, ◌∙◌, ap, not}
use Rattle.run_meaning.specs.declared.binding.Binding.TheVariants.{Plain}
use Rattle.py_tree.specs.Names.{is_among}
use Rattle.py_value.specs.Maps.{where_name}
use Rattle.py_eval.proofs.Kept.{kept_put, first_among}
use Rattle.py_eval.proofs.lines.bind_targets.Goals as goal

pub returns-clause-kept : goal.returns-clause-kept
returns-clause-kept c =
    let name : c.in_ok-name.name ≡ c.target-item.result = c.in_ok-name.ensures ∙ c.items.ensures in
    ap (where_name (λ x. not (is_among x c.args.targets.now))) c.in_ok-put.ensures.ok
    ∙ kept_put (λ x. not (is_among x c.args.targets.now)) c.in_ok-name.name (Plain c.args.value) c.args.env.now (ap not (first_among c.in_ok-name.name _ c.args.targets.now (omega (arith, c.in-len1.len_at_least)) (name ∙ c.target-item.is)))
