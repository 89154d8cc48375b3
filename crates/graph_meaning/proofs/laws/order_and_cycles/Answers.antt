-- Each direction is a lemma about places.
use Rattle.std.proofs.Common.{length}
use Rattle.graph_meaning.proofs.Orders.{listed_is_free, free_is_listed, not_on_cycle}
use Rattle.graph_meaning.proofs.laws.order_and_cycles.Goals as goal

pub returns-clause-free : goal.returns-clause-free
returns-clause-free c = listed_is_free

pub returns-clause-lists : goal.returns-clause-lists
returns-clause-lists c = free_is_listed

pub returns-clause-none : goal.returns-clause-none
returns-clause-none c = λ nb d listed cycle. not_on_cycle nb (length nb) d listed cycle
