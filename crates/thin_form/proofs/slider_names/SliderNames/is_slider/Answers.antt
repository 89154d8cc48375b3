-- A look-up in the set is one among the names.
use Rattle.std.proofs.Common.{ap, ◌∙◌}
use Rattle.thin_form.specs.SliderNames.{Known}
use Rattle.py_tree.specs.Names.{is_among}
use Rattle.thin_form.proofs.NameSets.{has_name}
use Rattle.thin_form.proofs.slider_names.SliderNames.is_slider.Goals as goal

pub returns : goal.returns
returns c =
    c.contains.ensures
    ∙ (has_name c.args.name.now c.self.inside.sliders.keys ∙ ap (λ (known : Known). is_among c.args.name.now known.sliders) c.self.view_is)
