-- the first places of the order, and what is left to list
use Rattle.std.proofs.Common.{◌≡◌, List}
use Rattle.py_tree.specs.Trees.{Cell}
use Rattle.graph_meaning.specs.Graph.{places}
use Rattle.cell_graph.specs.Tables.{AreParents}
use Rattle.cell_graph.proofs.OrderSteps.{IsSwept}
use Rattle.cell_graph.proofs.order.order_of.Given as goal

abbrev pub invariant-loop : goal.invariant-loop
invariant-loop l = record {
  swept : IsSwept l.parents l.listed.items l.counts.items l.ready.keys;
  placed : (nb : List Cell) → AreParents nb l.parents → l.listed.items ≡ places nb l.counter;
}
