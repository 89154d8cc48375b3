-- What is left of the list comes behind what is there.
use Rattle.std.proofs.Common.{◌≡◌, ◌++◌, drop, max}
use Rattle.py_tree.specs.ExprView.{view_pairs}
use Rattle.syntax_form.specs.Depth.{pair_depth}
use Rattle.syntax_form.specs.Printing.{pair_tokens, later_pair_tokens}
use Rattle.expr_tokens.specs.Parts.{parts_tokens, parts_depth}
use Rattle.expr_tokens.proofs.lists.push_pairs.Given as goal

abbrev pub invariant-loop-pair : goal.invariant-loop-pair
invariant-loop-pair l =
    let rest = view_pairs (drop l.pair-index l.later) in
    let all = view_pairs l.pairs in
    record {
      tokens : parts_tokens l.parts.items ++ later_pair_tokens rest ≡ parts_tokens l.fn.parts.items ++ pair_tokens all;
      depth : max (parts_depth l.parts.items) (pair_depth rest) ≡ max (parts_depth l.fn.parts.items) (pair_depth all);
    }
