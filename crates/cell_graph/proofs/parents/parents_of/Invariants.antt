-- the set has the lists in which one of the names so far stands
use Rattle.std.proofs.Common.{◌≡◌, List, take}
use Rattle.py_tree.specs.Names.{Name}
use Rattle.cell_graph.specs.Definers.{list_at, lists_with, FindsLists}
use Rattle.cell_graph.proofs.parents.parents_of.Given as goal

abbrev pub invariant-loop-name : goal.invariant-loop-name
invariant-loop-name l =
    (lists : List (List Name)) → FindsLists lists (list_at l.table) → l.cells.keys ≡ lists_with lists (take l.name-index l.names)
