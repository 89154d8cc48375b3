-- A cell more waits for none, or waits for some.
use Rattle.std.proofs.Common.{ℕ, ◌&&◌, ◌==◌, List, get_or, sym, ap, ◌∙◌, nat_cmp, BTreeSet, arith}
use Rattle.std.specs.Prelude.{nat_lt}
use Rattle.std.specs.BTreeSet.{insert_key}
use Rattle.std.proofs.lemmas.Bool.{eq-eqb, ne_eqb, and_left, lt-ltb, le-ltb}
use Rattle.graph_meaning.specs.Graph.{numbers_from}
use Rattle.cell_graph.proofs.Names.{filter_alike}
use Rattle.cell_graph.proofs.Numbers.{inserted, none_pass, filter_within}
use Rattle.cell_graph.proofs.Counts.{root_here, root_later}
use Rattle.cell_graph.proofs.parent_counts.roots.Goals as goal
use Rattle.cell_graph.proofs.parent_counts.roots.Goals.{then-counts-cell-eq0+in_ok-insert, else-counts-cell-eq0}

pub loop-cell-init : goal.loop-cell-init
loop-cell-init c =
    c.new-ready.ensures.empty
    ∙ sym (none_pass (λ q. nat_lt q 0 && (get_or c.args.counts.now q 0 == 0)) (λ q. and_left _ _ (le-ltb q 0 (omega arith))) (numbers_from 0 c.args.counts.now))

pub loop-cell-preserved : goal.loop-cell-preserved
loop-cell-preserved c =
    let counts : List ℕ = c.args.counts.now in
    let cell = c.loop-cell.cell in
    elim c.if-counts-cell-eq0.branch [
      | then-counts-cell-eq0+in_ok-insert w ↦
          ap (λ (s : BTreeSet ℕ). s.keys) w.ready-is ∙ w.in_ok-insert.ensures.keys
          ∙ ap (λ ks. insert_key nat_cmp ks cell) c.loop-cell.invariant
          ∙ inserted (λ q. nat_lt q cell && (get_or counts q 0 == 0)) cell 0 counts (omega arith) (omega arith)
          ∙ filter_alike _ _ (root_here counts cell (eq-eqb _ 0 w.if-counts-cell-eq0.true)) (numbers_from 0 counts)
      | else-counts-cell-eq0 w ↦
          ap (λ (s : BTreeSet ℕ). s.keys) w.ready-is ∙ c.loop-cell.invariant
          ∙ filter_alike _ _ (root_later counts cell (ne_eqb _ 0 w.if-counts-cell-eq0.false)) (numbers_from 0 counts)
    ]

pub returns : goal.returns
returns c =
    let counts : List ℕ = c.args.counts.now in
    c.loop-cell.invariant
    ∙ filter_within (λ q. nat_lt q c.loop-cell.cell && (get_or counts q 0 == 0)) (λ q. get_or counts q 0 == 0) 0 counts
    (λ q low high. ap (λ b. b && (get_or counts q 0 == 0)) (lt-ltb q c.loop-cell.cell (omega arith)))
