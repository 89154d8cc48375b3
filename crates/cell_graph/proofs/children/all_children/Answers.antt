-- A cell more is added to its parents.
use Rattle.std.proofs.Common.{◌≡◌, ℕ, ◌+◌, ◌++◌, ◌==◌, cond, List, [], length, take, drop, ap, ◌∙◌, arith}
use Rattle.std.proofs.lemmas.Grind.{common_steps}
use Rattle.std.proofs.lemmas.List.{get_or_default}
use Rattle.cell_graph.specs.Counts.{list_in, count_of}
use Rattle.cell_graph.proofs.Counts.{counts_more, counts_all}
use Rattle.cell_graph.proofs.children.all_children.Goals as goal

pub loop-cell-preserved : goal.loop-cell-preserved
loop-cell-preserved c =
    let new = c.add_child.new.children in
    let above : List (List ℕ) = c.args.parents.now in
    let cell = c.loop-cell.cell in
    let back : take c.loop-cell.children.len (new ++ drop (length new) c.loop-cell.children.items) ≡ new = grind (arith, common_steps) in
    let parents : c.items.result.now ≡ list_in above cell =
    c.items.ensures ∙ c.index-parents-cell.is ∙ get_or_default above cell c.index-parents-cell.result [] c.loop-cell-test.true in
    rw back (record {
      count = c.add_child.auto.children ∙ ap (λ (ls : List (List ℕ)). length ls) c.as_mut_slice.ensures.value ∙ c.loop-cell.invariant.count;
      each = λ a d.
          c.in_ok-add_child.ensures a d ∙ ap (λ (ls : List (List ℕ)). count_of d (list_in ls a) + cond (cell == d) (count_of a c.items.result.now) 0) c.as_mut_slice.ensures.value
          ∙ (λ i. c.loop-cell.invariant.each a d i + cond (cell == d) (count_of a (parents i)) 0) ∙ counts_more above cell a d;
    })

pub returns : goal.returns
returns c = record {
  count = c.loop-cell.invariant.count;
  each = λ a d. c.loop-cell.invariant.each a d ∙ counts_all c.args.parents.now c.loop-cell.cell a d c.loop-cell-test.false;
}
