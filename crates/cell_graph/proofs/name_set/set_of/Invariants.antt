-- the set has the names so far, and those that first come later are to follow
use Rattle.std.proofs.Common.{◌≡◌, ◌++◌, drop}
use Rattle.cell_graph.specs.Texts.{texts}
use Rattle.py_tree.specs.Names.{first_seen, first_seen_after}
use Rattle.cell_graph.proofs.name_set.set_of.Given as goal

abbrev pub invariant-loop-name : goal.invariant-loop-name
invariant-loop-name l =
    texts l.set.keys ++ first_seen_after (texts l.set.keys) (texts (drop l.name-index l.all)) ≡ first_seen (texts l.all)
