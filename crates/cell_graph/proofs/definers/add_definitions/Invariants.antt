-- with the names so far the look-up finds the last list too
use Rattle.std.proofs.Common.{◌≡◌, List, [], ◌∷◌, ◌++◌, length, take}
use Rattle.py_tree.specs.Names.{Name}
use Rattle.cell_graph.specs.Definers.{list_at, FindsLists}
use Rattle.cell_graph.proofs.definers.add_definitions.Given as goal

abbrev pub invariant-loop-name : goal.invariant-loop-name
invariant-loop-name l =
    (lists : List (List Name)) → length lists ≡ l.cell → FindsLists lists (list_at l.fn.table)
    → FindsLists (lists ++ take l.name-index l.names ∷ []) (list_at l.table)
