-- What is assigned is a call where it is a slider.
use Rattle.std.proofs.Common.{◌≡◌, sym, ap, ◌∙◌, subst}
use Rattle.std.specs.Prelude.{Bool, IsTrue, List, ℕ}
use Rattle.thin_form.specs.Lines.{is_call}
use Rattle.form_meaning.specs.Thin.{Elements, is_line, stands_alone}
use Rattle.py_tree.specs.View.{view, view_head}
use Rattle.py_tree.specs.declared.expr.Expr.{Expr}
use Rattle.py_tree.specs.declared.tree.Line.{Line}
use Rattle.py_tree.specs.declared.tree.Line.TheVariants as line
use Rattle.thin_form.proofs.LineCases.{call_alone}
use Rattle.thin_form.proofs.line.stands_alone.Goals as goal

alone : (es : Elements) (l : Line) (xs : List (List ℕ)) (e : Expr) → l ≡ line.Assign xs e → IsTrue (is_line es (view_head l))
    → is_call (view e) ≡ stands_alone (view_head l)
alone es l xs e same h =
    call_alone es xs (view e) (subst (λ l. IsTrue (is_line es (view_head l))) same h) ∙ sym (ap (λ l. stands_alone (view_head l)) same)

pub returns-in-Assign : goal.returns-in-Assign
returns-in-Assign c = λ es h.
    let read : Expr → Bool = λ e. is_call (view e) in
    c.is_call.ensures ∙ (ap read c.get.ensures ∙ alone es c.args.line.now c.in-Assign.field-0 c.in-Assign.tree c.in-Assign.is h)
