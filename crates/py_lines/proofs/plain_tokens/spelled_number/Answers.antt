-- What `number` answers is the spelled number.
use Rattle.std.proofs.Common.{◌≡◌, ◌∙◌, sym, subst, cond, Some, None, pos, List, ℕ, arith, refl}
use Rattle.std.proofs.lemmas.Int.{ints}
use Rattle.std.specs.Prelude.{string_bytes}
use Rattle.lexical_form.specs.Numbers.{is_number, number_of}
use Rattle.py_lines.proofs.NumberLaws.{kept_by}
use Rattle.py_lines.proofs.plain_tokens.spelled_number.Goals as goal

pub of_number-requires : goal.of_number-requires
of_number-requires c =
    let text = c.as_str.ensures.value in
    let said : Some c.in-Some.spelled ≡ cond (is_number c.as_str.result.now) (Some (pos (number_of c.as_str.result.now))) None = sym c.in-Some.is ∙ c.number.ensures in
    let here = subst (λ (cs : List ℕ). Some c.in-Some.spelled ≡ cond (is_number cs) (Some (pos (number_of cs))) None) text said in
    let kept = kept_by (string_bytes c.args.text) c.in-Some.spelled (is_number (string_bytes c.args.text)) refl here in
    omega (arith, ints, kept.0, kept.1)
