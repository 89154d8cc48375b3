-- The text of a file is no longer than the file, and what its text is answered is what the file is.
use Rattle.std.proofs.Common.{◌∙◌, true, ap, subst, sym, arith, length}
use Rattle.lexical_form.specs.Readable.{readable}
use Rattle.py_lexer.specs.Answers.{Answered}
use Rattle.py_lexer.specs.ScanView.{view_lines}
use Rattle.py_lexer.proofs.AnswerLaws.{answers, clean_answers}
use Rattle.py_lexer.proofs.CleanLaws.{readable_short}
use Rattle.py_lexer.proofs.logical_lines.lines_by.Goals as goal

pub text_lines-requires-2-clause-small : goal.text_lines-requires-2-clause-small
text_lines-requires-2-clause-small g c =
    let copy = ap length (c.as_str.ensures.value ∙ c.in_ok-copy.ensures) in
    let text = ap length c.in-Ok.ensures.cases.0 in
    let short = readable_short c.in-Ok.text.now in
    omega (arith, copy, text, short, c.requires.small)

pub returns-then-is_clean : goal.returns-then-is_clean
returns-then-is_clean g c =
    let clean = sym c.is_clean.ensures.is ∙ c.if-is_clean.true in
    let text = subst (λ xs. Answered true xs (view_lines c.text_lines.result)) c.in-Ok.ensures.cases.0 c.text_lines.ensures in
    clean_answers c.args.bytes.now (view_lines c.text_lines.result) c.in-Ok.ensures.cases.1 clean text

pub returns : goal.returns
returns g c =
    let text = c.as_str.ensures.value ∙ (c.in_ok-copy.ensures ∙ ap readable c.in-Ok.ensures.cases.0) in
    let here = subst (λ xs. Answered c.is_readable.result xs (view_lines c.text_lines-2.result)) text c.text_lines-2.ensures in
    let whole = subst (λ b. Answered b (readable c.args.bytes.now) (view_lines c.text_lines-2.result)) c.is_readable.ensures here in
    answers c.args.bytes.now (view_lines c.text_lines-2.result) c.in-Ok.ensures.cases.1 whole
