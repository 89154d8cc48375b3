-- The type keeps that no cell lies on a cycle.
use Rattle.std.proofs.Common.{subst, List}
use Rattle.graph_meaning.specs.Graph.{NoneCyclic}
use Rattle.py_tree.specs.View.{view_cells}
use Rattle.py_tree.specs.declared.tree.CellCode.{CellCode}
use Rattle.cell_graph.proofs.graph.Notebook.cells.Goals as goal

pub returns-clause-free : goal.returns-clause-free
returns-clause-free c = subst (λ (cells : List CellCode). NoneCyclic (view_cells cells)) c.self.view_is c.self.invariant.7
