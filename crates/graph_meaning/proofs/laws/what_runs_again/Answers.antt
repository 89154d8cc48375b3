-- Each direction is a lemma about the cells within so many edges, all of which stand in the order.
use Rattle.std.proofs.Common.{length}
use Rattle.graph_meaning.specs.Graph.{order}
use Rattle.graph_meaning.specs.Reruns.{is_within}
use Rattle.graph_meaning.proofs.Orders.{free_is_listed}
use Rattle.graph_meaning.proofs.Reachability as reaching
use Rattle.graph_meaning.proofs.laws.what_runs_again.Goals as goal

pub returns-clause-reached : goal.returns-clause-reached
returns-clause-reached c = λ nb names free d below. (
  λ again. reaching.reached nb names (length nb) d (reaching.passes (is_within nb names (length nb)) (order nb) d again),
  λ led. reaching.is_kept (is_within nb names (length nb)) (order nb) d (free_is_listed nb free d below) (reaching.near_reached nb names d led),
)

pub returns-clause-once : goal.returns-clause-once
returns-clause-once c = reaching.runs_once
