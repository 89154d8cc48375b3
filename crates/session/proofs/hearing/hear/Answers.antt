-- What the link gave.
use Rattle.std.proofs.Common.{sym, refl}
use Rattle.std.specs.Prelude.{None, Some}
use Rattle.session.proofs.Talking.{taken_one}
use Rattle.session.proofs.hearing.hear.Goals as goal

pub returns-in-Text-clause-hears : goal.returns-in-Text-clause-hears
returns-in-Text-clause-hears g c =
    (Some c.in-Text.bytes.items, refl, taken_one (g.K.Link.told c.args.link.now) (g.K.Link.told c.recv.new.self) (Some c.in-Text.bytes.items) (rw c.in-Text.is at c.recv.ensures.took))

pub returns-in-Other-clause-hears : goal.returns-in-Other-clause-hears
returns-in-Other-clause-hears g c =
    (None, sym c.new.ensures.items, taken_one (g.K.Link.told c.args.link.now) (g.K.Link.told c.recv.new.self) None (rw c.in-Other.is at c.recv.ensures.took))
