-- What the table says of the lists of definitions, it says of the cells.
use Rattle.std.proofs.Common.{◌≡◌, List, map, take, sym, ap, ◌∙◌, subst}
use Rattle.std.proofs.lemmas.List.{take_all}
use Rattle.py_tree.specs.Names.{Name}
use Rattle.cell_graph.specs.Definers.{lists_with}
use Rattle.cell_graph.specs.Tables.{AreParents}
use Rattle.cell_graph.proofs.Cells.{none_doubled, are_parents}
use Rattle.cell_graph.proofs.parents.all_parents.Goals as goal

pub returns-clause-parents : goal.returns-clause-parents
returns-clause-parents c = λ nb kept read.
    let referenced : List (List Name) = c.args.refs.now in
    let all : take c.loop-names.names-index referenced ≡ referenced = take_all c.loop-names.names-index referenced c.loop-names-test.false in
    subst (AreParents nb) (sym (c.loop-names.invariant ∙ ap (map (lists_with c.args.defs.now)) all)) (are_parents nb c.args.defs.now kept referenced read)

pub returns-clause-once : goal.returns-clause-once
returns-clause-once c = λ nb kept. none_doubled nb c.args.defs.now kept _ c.in_ok-table.ensures.finds
