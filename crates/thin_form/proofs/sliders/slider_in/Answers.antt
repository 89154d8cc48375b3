-- A line that makes a slider has an indent, and is UTF-8.
use Rattle.std.proofs.Common.{◌≡◌, None, sym, ap, ◌∙◌}
use Rattle.std.specs.Prelude.{codes}
use Rattle.thin_form.specs.Choices.{◌>>=◌}
use Rattle.thin_form.specs.Sliders.{slider_name, slider_in}
use Rattle.thin_form.proofs.Ends.{front_off, none_by}
use Rattle.thin_form.proofs.SliderLines.{slider_text}
use Rattle.thin_form.proofs.sliders.slider_in.Goals as goal

pub returns-in_err-text : goal.returns-in_err-text
returns-in_err-text c =
    let line = c.args.line.now in
    let none : None ≡ slider_in line = none_by (slider_in line) (λ x e. let t = slider_text line x e in c.in_err-text.ensures t.0 t.1 t.2) in
    rw c.from_residual.ensures none

pub returns : goal.returns
returns c =
    let text = c.in_ok-text.text.now in
    c.slider_name.ensures
    ∙ sym (ap slider_in c.in_ok-text.ensures ∙ ap (λ o. o >>= slider_name) (front_off (codes "    ") text))
