-- The removal among the entries is that by their names.
use Rattle.std.proofs.Common.{ap, ◌∙◌, not}
use Rattle.std.specs.Str.{bytes_eq}
use Rattle.py_value.specs.Maps.{look_up, where_name}
use Rattle.py_value.proofs.ByName.{looked_up, removed}
use Rattle.py_value.proofs.name_map.NameMap.remove.Goals as goal

pub returns-clause-taken : goal.returns-clause-taken
returns-clause-taken g c = c.remove.ensures.value ∙ looked_up c.args.name.now c.self.inside.inner.entries ∙ ap (look_up c.args.name.now) c.self.view_is

pub returns-clause-left : goal.returns-clause-left
returns-clause-left g c =
    removed c.args.name.now c.self.inside.inner.entries _ c.remove.ensures.entries c.remove.ensures.updates.1
    ∙ ap (where_name (λ x. not (bytes_eq x c.args.name.now))) c.self.view_is
