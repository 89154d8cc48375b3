-- The cells at a name are taken out, and put back with one more.
use Rattle.std.proofs.Common.{◌≡◌, ℕ, ◌&&◌, ◌||◌, ◌==◌, List, [], ◌∷◌, ◌++◌, not, ap, ◌∙◌}
use Rattle.std.specs.Prelude.{unwrap_or}
use Rattle.std.specs.Str.{bytes_eq}
use Rattle.py_tree.specs.Names.{Name}
use Rattle.py_value.specs.Maps.{Map, put, where_name}
use Rattle.graph_meaning.specs.Graph.{is_in}
use Rattle.cell_graph.specs.Readers.{cells_at}
use Rattle.cell_graph.proofs.ReaderTable.{one_more, name_more}
use Rattle.cell_graph.proofs.readers.add_reader.Goals as goal
use Rattle.cell_graph.proofs.readers.add_reader.Goals.{in-Some, in-None}

pub loop-name-preserved : goal.loop-name-preserved
loop-name-preserved c x d =
    let table : Map (List ℕ) = c.loop-name.table in
    let name : Name = c.name-item.result in
    let cell = c.args.cell in
    let asked : c.items.result.now ≡ name = c.items.ensures in
    let before : c.match-remove.cells ≡ cells_at table name = elim c.match-remove.branch [
      | in-Some w ↦ w.cells-is ∙ ap (λ o. unwrap_or o []) w.in-Some.ensures.taken ∙ ap (cells_at table) asked
      | in-None w ↦ w.cells-is ∙ w.of-cells.ensures ∙ w.new.ensures.items ∙ ap (λ o. unwrap_or o []) w.in-None.ensures.taken ∙ ap (cells_at table) asked
    ] in
    let new : c.put.new.self ≡ put name (cells_at table name ++ cell ∷ []) (where_name (λ y. not (bytes_eq y name)) table) =
    c.in_ok-put.ensures.ok
    ∙ (λ i. put (c.in_ok-copy.ensures i) (c.in_ok-push.ensures i) (c.remove.ensures.left i))
    ∙ (λ i. put name (before i ++ cell ∷ []) (where_name (λ y. not (bytes_eq y (asked i))) table)) in
    ap (λ (t : Map (List ℕ)). is_in d (cells_at t x)) new ∙ one_more table name cell x d
    ∙ ap (λ b. b || ((cell == d) && bytes_eq name x)) (c.loop-name.invariant x d)
    ∙ name_more c.args.names.now c.loop-name.name-index name c.loop-name-test.true c.name-item.is x (is_in d (cells_at c.args.table.now x)) (cell == d)
