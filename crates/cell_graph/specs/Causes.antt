-- Why cells are refused.
use Rattle.std.specs.Prelude.{List}
use Rattle.cell_graph.specs.declared.fault.GraphFault.{GraphFault}
use Rattle.cell_graph.specs.declared.fault.GraphFault.TheVariants.{Doubly, Cycle, Memory}
use Rattle.graph_meaning.specs.Graph.{IsDoubled, IsCyclic}
use Rattle.py_tree.specs.Trees.{Cell}

-- Want of memory has no cause here.
abbrev pub IsCauseOf : GraphFault → List Cell → Type 0
IsCauseOf (Doubly x first second) nb = IsDoubled nb x first second
IsCauseOf (Cycle cells) nb = IsCyclic nb cells
IsCauseOf Memory nb = Unit {0}
