-- The insertion among the entries is that by their names.
use Rattle.std.proofs.Common.{ap, ◌∙◌}
use Rattle.py_value.specs.Maps.{put}
use Rattle.py_value.specs.Named.{name_entries}
use Rattle.py_value.proofs.ByName.{inserted}
use Rattle.py_value.proofs.name_map.NameMap.put.Goals as goal

pub returns-clause-ok : goal.returns-clause-ok
returns-clause-ok g c =
    ap name_entries c.in_ok-insert.ensures.entries
    ∙ inserted c.into_items.result c.args.item c.self.inside.inner.entries
    ∙ λ i. put (c.into_items.ensures i) c.args.item (c.self.view_is i)
