-- What a report tells.
use Rattle.ws_server.proofs.Reported.{reported}
use Rattle.ws_server.proofs.laws.reports_tell.Goals as goal
use Rattle.ws_server.specs.Visitors.{alone_in}

pub returns : goal.returns
returns c = λ nb budget. reported (alone_in nb budget)
