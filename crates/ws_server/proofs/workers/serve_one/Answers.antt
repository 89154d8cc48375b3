-- The session begins with a kernel at its beginning.
use Rattle.std.proofs.Common.{[], inl, refl, arith}
use Rattle.std.proofs.lemmas.List.Elements.{All-nil}
use Rattle.link_io.specs.Links.{fresh}
use Rattle.session.specs.Talks.{IsNoClose}
use Rattle.ws_server.proofs.Endings.{ends_of}
use Rattle.ws_server.proofs.workers.serve_one.Goals as goal

pub returns-clause-ends : goal.returns-clause-ends
returns-clause-ends g c all told =
    ends_of c.args.notebook.now c.args.budget c.serve_visitor.new.kernel all (g.K.Link.told c.serve_visitor.new.link) c.serve_visitor.result
    (rw (c.in-Ok.ensures, told) at c.serve_visitor.ensures.serves)

pub returns-in_default-clause-ends : goal.returns-in_default-clause-ends
returns-in_default-clause-ends g c all told = (fresh all, told, refl, (omega arith, [], [], All-nil IsNoClose, refl, omega arith, [], ([], tt, refl), [], refl, inl refl))
