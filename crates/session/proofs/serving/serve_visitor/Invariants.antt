-- the messages so far were answered
use Rattle.std.proofs.Common.{◌≡◌, ◌≤◌, List, length}
use Rattle.link_io.specs.Links.{Item}
use Rattle.session.proofs.Calling.{Answered}
use Rattle.session.proofs.serving.serve_visitor.Given as goal

abbrev pub invariant-loop : goal.invariant-loop
invariant-loop g l =
    (g.K.Link.faults l.fn.link ≤ g.K.Link.faults l.link)
    × ((items : List Item) × (length items ≡ l.counter)
    × Answered l.fn.kernel l.fn.steps (g.K.Link.told l.fn.link) items l.kernel l.steps (g.K.Link.told l.link))
