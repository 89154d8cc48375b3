-- One turn more.
use Rattle.std.proofs.Common.{◌≡◌, ◌∙◌, refl, sym, subst, ◌+◌, ◌-◌, ◌^◌, ◌≤◌, min, arith, false}
use Rattle.py_tree.specs.View.{view_cells}
use Rattle.ws_server.proofs.Shares.{IsPart, doors_more, empty_rests, none_waits, part_bounded, part_ends, part_more, part_none, part_rests, most_memory, part_small, rose_some, used_up}
use Rattle.ws_server.specs.Visitors.{alone_in}
use Rattle.ws_server.proofs.workers.serve_door.Goals as goal
use Rattle.ws_server.proofs.workers.serve_door.Goals.{in-Visitor, in-Failed, in-Memory}

pub part-requires : goal.part-requires
part-requires g c = (c.accept.ensures.visitor c.in-Visitor.link c.in-Visitor.is).0

pub loop-turn-init : goal.loop-turn-init
loop-turn-init g c =
    let none = c.requires.new.doors in
    (c.requires.out, part_none _ _ _ c.requires.new, omega arith, omega (arith, none), λ zero. refl)

pub count-requires : goal.count-requires
count-requires g c = part_small c.loop-turn.invariant.1 (omega (arith, c.loop-turn-test.true, c.ranges.quota.fits))

pub loop-turn-preserved : goal.loop-turn-preserved
loop-turn-preserved g c =
    let alone = alone_in (view_cells c.args.notebook.now) c.args.budget in
    let q = g.D.Door.queue c.args.worker.now.door in
    let n = g.D.Door.faults c.args.worker.now.door in
    let at = c.loop-turn.invariant in
    let part = at.1 in
    let turns = part.turns in
    let few = c.loop-turn-test.true in
    let fits = c.ranges.quota.fits in
    elim c.match-accept.branch [
      | in-Visitor w ↦
          let came = c.accept.ensures.visitor w.in-Visitor.link w.in-Visitor.is in
          let o = w.count.ensures in
          let later = c.accept.ensures.later in
          let same = w.part.ensures.same in
          let quiet = c.accept.ensures.quiet (λ failed. let no = sym w.in-Visitor.is ∙ failed in cc) in
          subst (λ u. (g.D.Door.out u.door ≡ false) × IsPart alone q (g.D.Door.queue u.door) u.report (c.loop-turn.turn + 1) × (n ≤ g.D.Door.faults u.door) × (min (n + u.report.doors) (2 ^ 64 - 1) ≤ g.D.Door.faults u.door) × (u.report.doors ≡ 0 → g.D.Door.faults u.door ≡ n)) (sym w.worker-is) (
            w.part.ensures.out,
            part_more _ _ _ _ _ _ _ part came.2 w.serve_one-ended.ensures.ends (λ is. rose_some _ _ came.1 (w.serve_one-ended.ensures.failed is)) w.part.ensures.parted o,
            omega (arith, at.2, later, same),
            (let counted = at.3 in let doors = o.doors in omega (arith, later, same)),
            λ none. same ∙ (quiet ∙ at.4 (omega (arith, o.doors, none))),
          )
      | in-Failed w ↦
          let failed = c.accept.ensures.failed w.in-Failed.is in
          let later = c.accept.ensures.later in
          let sum = w.saturating_add-worker.ensures in
          subst (λ u. (g.D.Door.out u.door ≡ false) × IsPart alone q (g.D.Door.queue u.door) u.report (c.loop-turn.turn + 1) × (n ≤ g.D.Door.faults u.door) × (min (n + u.report.doors) (2 ^ 64 - 1) ≤ g.D.Door.faults u.door) × (u.report.doors ≡ 0 → g.D.Door.faults u.door ≡ n)) (sym w.worker-is) (
            failed.0,
            part_rests 0 _ _ part failed.2 (record { visitors = refl; closed = refl; links = refl; many = refl; memory = omega arith; one = omega (arith, sum, turns, few, fits) }),
            omega (arith, at.2, later),
            doors_more n c.loop-turn.worker.report.doors (g.D.Door.faults c.loop-turn.worker.door) _ _ at.3 failed.1 (omega (arith, sum)),
            λ none. absurd (omega (arith, sum, none)),
          )
      | in-Memory w ↦
          let wanting = c.accept.ensures.memory w.in-Memory.is in
          let later = c.accept.ensures.later in
          let sum = w.saturating_add-worker-in-Memory.ensures in
          let memory = part.memory_is in
          let quiet = c.accept.ensures.quiet (λ failed. let no = sym w.in-Memory.is ∙ failed in cc) in
          subst (λ u. (g.D.Door.out u.door ≡ false) × IsPart alone q (g.D.Door.queue u.door) u.report (c.loop-turn.turn + 1) × (n ≤ g.D.Door.faults u.door) × (min (n + u.report.doors) (2 ^ 64 - 1) ≤ g.D.Door.faults u.door) × (u.report.doors ≡ 0 → g.D.Door.faults u.door ≡ n)) (sym w.worker-is) (
            wanting.0,
            part_rests 1 _ _ part wanting.1 (record { visitors = refl; closed = refl; links = refl; many = refl; memory = omega (arith, sum, most_memory part, few, fits); one = omega arith }),
            omega (arith, at.2, later),
            (let counted = at.3 in omega (arith, later)),
            λ none. quiet ∙ at.4 none,
          )
    ]

pub returns-in-NoMore-clause-bounded : goal.returns-in-NoMore-clause-bounded
returns-in-NoMore-clause-bounded g c = part_bounded c.loop-turn.invariant.1 (omega (arith, c.loop-turn-test.true, c.ranges.quota.fits))

pub returns-clause-bounded : goal.returns-clause-bounded
returns-clause-bounded g c = part_bounded c.loop-turn.invariant.1 (omega (arith, c.loop-turn.auto.turn-end, c.ranges.quota.fits))

pub returns-in-NoMore-clause-share : goal.returns-in-NoMore-clause-share
returns-in-NoMore-clause-share g c =
    let at = c.loop-turn.invariant in
    let empty = (c.accept.ensures.no_more c.in-NoMore.is).1 in
    let rests = part_ends _ at.1 (empty_rests _ _ empty) in
    let quiet = c.accept.ensures.quiet (λ failed. let no = sym c.in-NoMore.is ∙ failed in cc) in
    record {
      visitors = rests.came;
      wanted = rests.wanted;
      counts = rests.counts;
      memory = rests.memory_is;
      row = rests.row;
      doors = let counted = at.3 in let later = c.accept.ensures.later in omega arith;
      sound = λ none. quiet ∙ at.4 none;
      later = omega (arith, at.2, c.accept.ensures.later);
      few = omega (arith, at.1.turns, c.loop-turn-test.true);
      turns = none_waits _ c.args.quota _ at.1 empty;
    }

pub returns-clause-share : goal.returns-clause-share
returns-clause-share g c =
    let at = c.loop-turn.invariant in
    let end = c.loop-turn.auto.turn-end in
    let over = c.loop-turn-test.false in
    record {
      visitors = at.1.came;
      wanted = at.1.wanted;
      counts = at.1.counts;
      memory = at.1.memory_is;
      row = at.1.row;
      doors = at.3;
      sound = at.4;
      later = at.2;
      few = omega (arith, at.1.turns, end);
      turns = used_up _ _ c.args.quota _ (omega (arith, at.1.turns, end, over));
    }
