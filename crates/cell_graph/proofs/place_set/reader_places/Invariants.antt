-- the places of the cells that reference one of the names so far
use Rattle.std.proofs.Common.{◌≡◌, filter, take}
use Rattle.std.specs.List.{list_any}
use Rattle.graph_meaning.specs.Graph.{numbers_from}
use Rattle.cell_graph.specs.Places.{is_placed}
use Rattle.cell_graph.specs.Readers.{cells_at}
use Rattle.cell_graph.proofs.place_set.reader_places.Given as goal

abbrev pub invariant-loop-name : goal.invariant-loop-name
invariant-loop-name l =
    l.pending.keys
    ≡ filter (λ q. list_any (λ x. is_placed l.places (cells_at l.readers x) q) (take l.name-index l.names)) (numbers_from 0 l.places)
