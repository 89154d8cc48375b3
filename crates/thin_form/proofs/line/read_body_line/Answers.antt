-- The line that is read is the one of the form that spells the text.
use Rattle.std.proofs.Common.{◌≡◌, List, ℕ, Option, None, Some, ap, ◌∙◌, sym, subst}
use Rattle.std.specs.Prelude.{option_map, IfSome, IsTrue}
use Rattle.std.specs.Str.{IsUtf8}
use Rattle.std.proofs.lemmas.Result.{IfOk-weaker}
use Rattle.thin_form.specs.SliderNames.{as_elements}
use Rattle.thin_form.specs.Lines.{read_line}
use Rattle.form_meaning.specs.Thin.{Elements, is_line, head_text}
use Rattle.py_tree.specs.View.{view_head}
use Rattle.py_tree.specs.declared.tree.Line.{Line}
use Rattle.thin_form.proofs.LineFound.{line_found}
use Rattle.thin_form.proofs.LineOnly.{line_only, line_is_text}
use Rattle.thin_form.proofs.line.read_body_line.Goals as goal

found : (es : Elements) (text : List ℕ) (o : Option Line) → option_map view_head o ≡ read_line es text
    → IfSome o (λ l. IsTrue (is_line es (view_head l)) × (text ≡ head_text (view_head l)))
found es text None e = tt
found es text (Some l) e = let line = line_found es text (view_head l) (sym e) in (line.0, sym line.1)

pub returns-in-Ok-clause-found : goal.returns-in-Ok-clause-found
returns-in-Ok-clause-found c =
    let es = as_elements c.args.elements.now in
    IfOk-weaker c.read_line.result _ _ (λ o e. found es c.args.text.now o (e ∙ ap (read_line es) c.in-Ok.ensures.cases.0)) c.read_line.ensures

pub returns-in-Ok-clause-only : goal.returns-in-Ok-clause-only
returns-in-Ok-clause-only c h e s =
    let es = as_elements c.args.elements.now in
    IfOk-weaker c.read_line.result _ _ (λ o read. read ∙ (ap (read_line es) (c.in-Ok.ensures.cases.0 ∙ s) ∙ line_only es h e)) c.read_line.ensures

pub returns-in-Err-clause-only : goal.returns-in-Err-clause-only
returns-in-Err-clause-only c h e s =
    absurd (c.in-Err.ensures.cases.0 (subst IsUtf8 (sym s) (line_is_text (as_elements c.args.elements.now) h e)))
