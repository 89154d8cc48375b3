-- The name that the line adds, and the import.
use Rattle.std.proofs.Common.{◌||◌, ap, ◌∙◌}
use Rattle.std.specs.Str.{bytes_eq}
use Rattle.py_tree.specs.Names.{is_among}
use Rattle.thin_form.specs.SliderNames.{Known, is_just}
use Rattle.thin_form.proofs.NameSets.{name_added}
use Rattle.thin_form.proofs.slider_names.SliderNames.learn.Goals as goal

pub returns-in_ok-insert : goal.returns-in_ok-insert
returns-in_ok-insert c =
    let name = c.in-Some.name in
    record {
      sliders = λ x.
          name_added c.self.inside.sliders c.insert.new.self name c.in_ok-insert.ensures.updates x
          ∙ (ap (λ (known : Known). is_among x known.sliders || bytes_eq name.now x) c.self.view_is
          ∙ ap (λ o. is_among x c.args.self.now.sliders || is_just o x) c.in-Some.ensures);
      imported =
          ap (λ (known : Known). known.imported || c.is_import.result) c.self.view_is ∙ ap (λ b. c.args.self.now.imported || b) c.is_import.ensures;
    }
