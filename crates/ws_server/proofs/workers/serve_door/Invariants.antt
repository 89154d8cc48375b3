-- the visitors so far were served, and each fault of the door was counted
use Rattle.std.proofs.Common.{◌≡◌, ◌+◌, ◌-◌, ◌^◌, ◌≤◌, min, false}
use Rattle.py_tree.specs.View.{view_cells}
use Rattle.ws_server.proofs.Shares.{IsPart}
use Rattle.ws_server.specs.Visitors.{alone_in}
use Rattle.ws_server.proofs.workers.serve_door.Given as goal

abbrev pub invariant-loop-turn : goal.invariant-loop-turn
invariant-loop-turn g l =
    (g.D.Door.out l.worker.door ≡ false)
    × IsPart (alone_in (view_cells l.notebook) l.budget) (g.D.Door.queue l.fn.worker.door) (g.D.Door.queue l.worker.door) l.worker.report l.turn
    × (g.D.Door.faults l.fn.worker.door ≤ g.D.Door.faults l.worker.door)
    × (min (g.D.Door.faults l.fn.worker.door + l.worker.report.doors) (2 ^ 64 - 1) ≤ g.D.Door.faults l.worker.door)
    × (l.worker.report.doors ≡ 0 → g.D.Door.faults l.worker.door ≡ g.D.Door.faults l.fn.worker.door)
