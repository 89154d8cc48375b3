-- the doors are moved into workers, in order, and back again
use Rattle.std.proofs.Common.{◌≡◌, ◌≤◌, ◌+◌, ◌^◌, ◌<◌, false, vec_len, [], ◌++◌, length, map}
use Rattle.std.specs.Prelude.{All}
use Rattle.std.specs.Vec.{vec_capacity}
use Rattle.std.specs.Vec.Iter.{into_iter_items, into_iter_len}
use Rattle.ws_server.specs.Reports.{IsNew}
use Rattle.py_tree.specs.View.{view_cells}
use Rattle.ws_server.proofs.Sums.{IsGoing}
use Rattle.link_io.specs.Porches.{seen}
use Rattle.ws_server.specs.Visitors.{alone_in}
use Rattle.ws_server.proofs.workers.serve_doors.Given as goal

abbrev pub invariant-loop-door : goal.invariant-loop-door
invariant-loop-door g l =
    (goal.iterator-loop-door g).can_next l.door-iterator ×
    (goal.iterator-loop-door g).is_finite l.door-iterator
    × (into_iter_len l.door-iterator ≡ length (into_iter_items l.door-iterator))
    × (map (λ w. w.door) l.workers.items ++ into_iter_items l.door-iterator ≡ l.fn.doors.items)
    × (vec_len l.workers + length (into_iter_items l.door-iterator) ≤ vec_capacity l.workers)
    × (vec_len l.fn.doors ≤ vec_capacity l.doors) × (l.doors.items ≡ []) × (l.count ≡ vec_len l.fn.doors)
    × All (λ w. (g.D.Door.out w.door ≡ false) × IsNew w.report) l.workers.items
    × (vec_len l.workers + into_iter_len l.door-iterator ≡ vec_len l.fn.doors)

abbrev pub invariant-loop-worker : goal.invariant-loop-worker
invariant-loop-worker g l =
    (goal.iterator-loop-worker g).can_next l.worker-iterator ×
    (goal.iterator-loop-worker g).is_finite l.worker-iterator
    × (into_iter_len l.worker-iterator ≡ length (into_iter_items l.worker-iterator))
    × (vec_len l.doors + length (into_iter_items l.worker-iterator) ≤ vec_capacity l.doors)
    × (vec_len l.doors + length (into_iter_items l.worker-iterator) < 2 ^ 32)
    × IsGoing (alone_in (view_cells l.notebook) l.budget) l.quota (λ d. seen (g.D.Door.queue d) (g.D.Door.faults d)) l.fn.doors.items l.doors.items (into_iter_items l.worker-iterator) l.report
    × All (λ d. g.D.Door.out d ≡ false) l.doors.items
    × All (λ w. g.D.Door.out w.door ≡ false) (into_iter_items l.worker-iterator)
