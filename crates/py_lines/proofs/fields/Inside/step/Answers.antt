use Rattle.std.proofs.Common.{◌≡◌, ◌∙◌, ◌≤◌, sym, subst, length, get_or, true}
use Rattle.lexical_form.specs.Fields.{is_blank}
use Rattle.py_lines.proofs.FieldStepLaws.{blank_boundary}
use Rattle.py_lines.proofs.fields.Inside.step.Goals as goal

pub split_at-requires : goal.split_at-requires
split_at-requires c =
    let same = c.as_bytes.ensures.value in
    blank_boundary c.args.text.now c.utf8.text (subst (λ xs. 1 ≤ length xs) same c.in-len1-up.len_at_least)
    (subst (λ xs. is_blank (get_or xs 0 0) ≡ true) same (sym c.is_blank.ensures ∙ c.if-is_blank.true))
