-- The doors are moved into workers, in order, and back again, and the report is the sum of the workers'.
use Rattle.std.proofs.Common.{◌≡◌, ◌∙◌, sym, ap, subst, inl, map, length, take, drop, [], ◌++◌, append-nil, false, arith, vec_len}
use Rattle.std.proofs.lemmas.List.Elements.{All-head, All-nil, All-push, All-tail}
use Rattle.std.specs.Prelude.{All}
use Rattle.std.specs.Vec.Iter.{into_iter_items}
use Rattle.py_tree.specs.View.{view_cells}
use Rattle.ws_server.proofs.Sums.{IsGoing, Pend, all_at, empty_of, going_done, going_more, going_none, going_within, moved_more, next_of, pend_of, take_own}
use Rattle.ws_server.specs.Reports.{IsNew}
use Rattle.link_io.specs.Porches.{seen}
use Rattle.ws_server.specs.Visitors.{alone_in}
use Rattle.ws_server.proofs.workers.serve_doors.Goals as goal

pub loop-door-preserved : goal.loop-door-preserved
loop-door-preserved g c =
    let at = c.loop-door.invariant in
    let s = c.in-Some.ensures.steps in
    let put = c.push_reserved.ensures.items in
    let rest = into_iter_items c.next.new.self in
    let out : g.D.Door.out c.in-Some.door ≡ false =
    all_at (λ d. g.D.Door.out d ≡ false) _ c.in-Some.door rest _ c.args.doors.now.items s.0 at.3 c.requires.out in
    let one = ap (λ xs. length xs) s.0 in (
      tt,
      tt,
      omega (arith, at.2, s.1, one),
      subst (λ ws. map (λ w. w.door) ws ++ rest ≡ c.args.doors.now.items) (sym put) (moved_more c.loop-door.workers.items _ rest _ c.args.doors.now.items s.0 at.3),
      omega (arith, at.4, c.push_reserved.ensures.len, c.push_reserved.ensures.capacity, one),
      at.5,
      at.6,
      at.7,
      subst (λ ws. All (λ w. (g.D.Door.out w.door ≡ false) × IsNew w.report) ws) (sym put)
          (All-push (λ w. (g.D.Door.out w.door ≡ false) × IsNew w.report) c.loop-door.workers.items _ at.8 (out, c.new.ensures)),
      omega (arith, at.9, s.1, c.push_reserved.ensures.len),
    )

pub loop-worker-init : goal.loop-worker-init
loop-worker-init g c =
    let at = c.loop-door.invariant in
    let alone = alone_in (view_cells c.args.notebook.now) c.args.budget in
    let olds = c.args.doors.now.items in
    let ws = c.loop-door.workers.items in
    let vs = c.serve_all.new.workers in
    let it = c.into_iter-worker-iterator in
    let none : into_iter_items c.loop-door.door-iterator ≡ [] = empty_of (into_iter_items c.loop-door.door-iterator) (omega (arith, at.2, c.in-None.ensures.steps.0)) in
    let are : map (λ w. w.door) ws ≡ olds = sym (append-nil (map (λ w. w.door) ws)) ∙ ap (λ ds. map (λ w. w.door) ws ++ ds) (sym none) ∙ at.3 in
    let long : length vs ≡ length c.as_mut_slice.result.now = c.serve_all.ensures.len in
    let size = c.as_mut_slice.ensures.len in
    let len : c.loop-door.workers.len ≡ length vs = omega (arith, long, size) in
    let whole : into_iter_items it.result ≡ vs =
    it.ensures.into_iter_gives.0 ∙ ap (λ n. take n (vs ++ drop (length vs) ws)) len ∙ take_own vs (drop (length vs) ws) in
    let count = ap (λ xs. length xs) whole in
    let zero : vec_len c.replace-all.new.dest ≡ 0 =
    omega (arith, ap (λ v. vec_len v) c.replace-all.ensures.after, c.reserve-else-is_err.ensures.len, c.new-back.ensures.len) in
    let all : length vs ≡ vec_len c.args.doors.now = omega (arith, at.9, c.in-None.ensures.steps.0, len) in
    let pend = subst (λ us. Pend alone c.args.quota (λ d. seen (g.D.Door.queue d) (g.D.Door.faults d)) (map (λ w. seen (g.D.Door.queue w.door) (g.D.Door.faults w.door)) us) vs) c.as_mut_slice.ensures.value
    (pend_of alone c.args.quota (λ d. seen (g.D.Door.queue d) (g.D.Door.faults d)) c.as_mut_slice.result.now vs long c.serve_all.ensures.each) in (
      tt,
      tt,
      omega (arith, it.ensures.into_iter_gives.1, len, count),
      omega (arith, zero, all, count, at.5),
      omega (arith, zero, all, count, c.requires.few),
      subst (λ ds. IsGoing alone c.args.quota (λ d. seen (g.D.Door.queue d) (g.D.Door.faults d)) olds ds (into_iter_items it.result) c.new-report.result) (sym at.6)
          (subst (λ us. IsGoing alone c.args.quota (λ d. seen (g.D.Door.queue d) (g.D.Door.faults d)) olds [] us c.new-report.result) (sym whole)
          (going_none alone c.args.quota (λ d. seen (g.D.Door.queue d) (g.D.Door.faults d)) olds ws vs c.new-report.result are pend c.new-report.ensures)),
      subst (λ ds. All (λ d. g.D.Door.out d ≡ false) ds) (sym at.6) (All-nil (λ d. g.D.Door.out d ≡ false)),
      subst (λ us. All (λ w. g.D.Door.out w.door ≡ false) us) (sym whole) c.serve_all.ensures.out,
    )

pub add-requires-clause-within : goal.add-requires-clause-within
add-requires-clause-within g c =
    let at = c.loop-worker.invariant in going_within 4294967295 at.5 (omega (arith, at.4))

pub add-requires-clause-bounded : goal.add-requires-clause-bounded
add-requires-clause-bounded g c =
    let at = c.loop-worker.invariant in
    (next_of (alone_in (view_cells c.args.notebook.now) c.args.budget) c.args.quota (λ d. seen (g.D.Door.queue d) (g.D.Door.faults d)) at.5.left c.in-Some-worker.worker (into_iter_items c.next-in-loop-worker.new.self) _ c.in-Some-worker.ensures.steps.0 at.5.pend).bounded

pub loop-worker-preserved : goal.loop-worker-preserved
loop-worker-preserved g c =
    let at = c.loop-worker.invariant in
    let s = c.in-Some-worker.ensures.steps in
    let one = ap (λ xs. length xs) s.0 in
    let put = c.push_reserved-in-loop-worker.ensures.items in
    let rest = into_iter_items c.next-in-loop-worker.new.self in
    let here = subst (All (λ w. g.D.Door.out w.door ≡ false)) s.0 at.7 in (
      tt,
      tt,
      omega (arith, at.2, s.1, one),
      omega (arith, at.3, c.push_reserved-in-loop-worker.ensures.len, c.push_reserved-in-loop-worker.ensures.capacity, one),
      omega (arith, at.4, c.push_reserved-in-loop-worker.ensures.len, one),
      going_more c.in-Some-worker.worker (into_iter_items c.next-in-loop-worker.new.self) c.push_reserved-in-loop-worker.new.self.items c.add.new.self at.5 s.0 c.push_reserved-in-loop-worker.ensures.items c.add.ensures,
      subst (λ ds. All (λ d. g.D.Door.out d ≡ false) ds) (sym put)
          (All-push (λ d. g.D.Door.out d ≡ false) c.loop-worker.doors.items _ at.6 (All-head (λ w. g.D.Door.out w.door ≡ false) c.in-Some-worker.worker rest here)),
      All-tail (λ w. g.D.Door.out w.door ≡ false) c.in-Some-worker.worker rest here,
    )

pub returns : goal.returns
returns g c =
    let none : into_iter_items c.loop-worker.worker-iterator ≡ [] =
    empty_of (into_iter_items c.loop-worker.worker-iterator) (omega (arith, c.loop-worker.invariant.2, c.in-None-worker.ensures.steps.0)) in
    record { served = inl (going_done c.loop-worker.invariant.5 none); out = c.loop-worker.invariant.6 }
