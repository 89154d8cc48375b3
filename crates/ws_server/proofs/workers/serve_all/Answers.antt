-- What a worker's thread borrows may be shared. The type of the closure is written out, since the search for it comes to its limits.
use denote.Param.Send.{param_sync, sendable}
use Rattle.std.proofs.Crossing.{crosses, sync}
use Rattle.std.proofs.alloc.Global.TheSendSync as heap
use Rattle.ws_server.proofs.Sharing.{notebook_sync}
use Rattle.ws_server.proofs.workers.serve_all.Lts.{arg-0-2}
use Rattle.ws_server.proofs.workers.serve_all.Goals as goal

pub for_each_mut-requires-sync-F : goal.for_each_mut-requires-sync-F
for_each_mut-requires-sync-F g c κs within =
    let runtime = c.type_bounds.sync-R in
    let gate = c.type_bounds.sync-G in
    param_sync 2 (arg-0-2 g.row.R g.row.D g.row.G g.row.D-Visitor g.R.laws g.D.laws g.G.laws g.D.Visitor.laws g.R.Threads-dict g.R.Wait-dict
    g.D.Door-dict g.D.Visitor.Link-dict g.G.Gate-dict g.D.Destruct-dict g.D.Visitor.Destruct-dict κs)
    (search (sendable, crosses, sync, heap.the_field_sync, notebook_sync) depth 20)
