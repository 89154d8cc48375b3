-- Threads may share a notebook. A search for it from nothing, at the call that shares one, comes to its limits.
use denote.Param.Send.{IsSync, sendable}
use denote.Param.SendFields.{declared_sync, as_row_sync}
use Rattle.std.proofs.Crossing.{crosses}
use Rattle.py_value.proofs.name_map.NameMap.TheSendSync as name_map
use Rattle.cell_graph.proofs.cell_list.CellList.TheSendSync as cell_list
use Rattle.cell_graph.specs.contracts.graph.Notebook as notebook
use Rattle.py_tree.proofs.Sharing.{cell_sync}
use Rattle.py_value.proofs.texts.Lines.TheSendSync as lines

pub notebook_sync : IsSync notebook.the_row
notebook_sync = search (sendable, crosses, as_row_sync, declared_sync, lines.the_sync, cell_list.the_sync, name_map.the_sync, cell_sync) depth 60 fits 6000
