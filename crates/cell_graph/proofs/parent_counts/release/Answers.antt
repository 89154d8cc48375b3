-- A child waits for one less, and is ready where it waits for none.
use Rattle.std.proofs.Common.{ℕ, ◌<◌, ◌≤◌, ◌&&◌, ◌||◌, ◌==◌, List, length, get_or, take, refl, ap, ◌∙◌, nat_cmp, BTreeSet, arith}
use Rattle.std.specs.BTreeSet.{insert_key}
use Rattle.std.proofs.lemmas.Bool.{eq-eqb, ne_eqb}
use Rattle.graph_meaning.specs.Graph.{numbers_from, is_in}
use Rattle.cell_graph.proofs.Counts.{still_held, counted, freed, held_still}
use Rattle.cell_graph.proofs.Names.{filter_alike}
use Rattle.cell_graph.proofs.Numbers.{inserted}
use Rattle.cell_graph.proofs.parent_counts.release.Goals as goal
use Rattle.cell_graph.proofs.parent_counts.release.Goals.{then-counts-child-eq0+in_ok-insert, else-counts-child-eq0}

pub overflow_sub-counts : goal.overflow_sub-counts
overflow_sub-counts c = still_held c.args.counts.now c.loop-child.counts c.args.children.now c.loop-child.child-index c.loop-child-test.true c.requires.enough c.loop-child.invariant.counts

pub loop-child-preserved : goal.loop-child-preserved
loop-child-preserved c =
    let before : List ℕ = c.args.counts.now in
    let counts : List ℕ = c.loop-child.counts in
    let children : List ℕ = c.args.children.now in
    let i = c.loop-child.child-index in
    let e = get_or children i 0 in
    let lt : i < length children = c.loop-child-test.true in
    let inside : e < length before = c.requires.within i 0 lt in
    let there : e < length counts = omega arith in
    let least : 1 ≤ get_or counts e 0 = still_held before counts children i lt c.requires.enough c.loop-child.invariant.counts in
    record {
      counts = λ q. counted counts children i e lt refl there least q ∙ c.loop-child.invariant.counts q;
      ready = λ p h. elim c.if-counts-child-eq0.branch [
        | then-counts-child-eq0+in_ok-insert w ↦
            ap (λ (s : BTreeSet ℕ). s.keys) w.ready-is ∙ w.in_ok-insert.ensures.keys
            ∙ ap (λ ks. insert_key nat_cmp ks e) (c.loop-child.invariant.ready p h)
            ∙ inserted (λ q. p q || (is_in q (take i children) && (get_or counts q 0 == 0))) e 0 before (omega arith) (omega arith)
            ∙ filter_alike _ _ (freed counts children i e lt refl there least p (eq-eqb _ 0 w.if-counts-child-eq0.true)) (numbers_from 0 before)
        | else-counts-child-eq0 w ↦
            ap (λ (s : BTreeSet ℕ). s.keys) w.ready-is ∙ c.loop-child.invariant.ready p h
            ∙ filter_alike _ _ (held_still counts children i e lt refl there least p (ne_eqb _ 0 w.if-counts-child-eq0.false)) (numbers_from 0 before)
      ];
    }
