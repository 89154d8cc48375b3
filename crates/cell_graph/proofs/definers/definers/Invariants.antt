-- the look-up finds the lists so far
use Rattle.std.proofs.Common.{take}
use Rattle.cell_graph.specs.Definers.{list_at, FindsLists}
use Rattle.cell_graph.proofs.definers.definers.Given as goal

abbrev pub invariant-loop-cell : goal.invariant-loop-cell
invariant-loop-cell l = FindsLists (take l.cell l.defs) (list_at l.table)
