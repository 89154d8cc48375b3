-- The look-up among the entries is that by their names.
use Rattle.std.proofs.Common.{ap, ◌∙◌}
use Rattle.py_value.specs.Maps.{look_up}
use Rattle.py_value.proofs.ByName.{looked_up}
use Rattle.py_value.proofs.name_map.NameMap.get.Goals as goal

pub returns : goal.returns
returns g c = c.get.ensures.value ∙ looked_up c.args.name.now c.self.inside.inner.entries ∙ ap (look_up c.args.name.now) c.self.view_is
