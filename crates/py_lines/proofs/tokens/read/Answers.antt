-- An f-text, where its prefix and a quote stand, else another token.
use Rattle.std.proofs.Common.{◌≡◌, ◌∙◌, sym, ap, subst}
use Rattle.std.specs.Prelude.{IfOk}
use Rattle.lexical_form.specs.Reading.{Read}
use Rattle.lexical_form.specs.Tokens.{Token}
use Rattle.py_lexer.specs.ScanView.{seen}
use Rattle.py_lexer.specs.Views.{quotes}
use Rattle.py_lines.specs.FTextCuts.{opened_says}
use Rattle.py_lines.proofs.FTextCutLaws.{not_opened, opens}
use Rattle.py_lines.proofs.tokens.read.Goals as goal

pub returns-in_default-clause-reads : goal.returns-in_default-clause-reads
returns-in_default-clause-reads c =
    let other = not_opened c.args.text.now (ap opened_says (sym c.as_bytes.ensures.value) ∙ sym c.in_default.ensures) in
    subst (λ (x : Read Token). IfOk c.plain.result (λ o. seen o ≡ x)) (sym other) c.plain.ensures.reads

pub f_text-requires : goal.f_text-requires
f_text-requires c = opens c.args.text.now (quotes c.in-Some.q) c.in-Some.inside.now (ap opened_says (sym c.as_bytes.ensures.value) ∙ sym c.in-Some.ensures)
