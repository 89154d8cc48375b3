use Rattle.std.proofs.Common.{◌≡◌, ◌++◌, ◌∷◌, [], ap, ◌∙◌, arith}
use Rattle.py_tree.specs.ExprView.{view}
use Rattle.expr_parser.specs.ListView.{seen_pair, seen_pairs}
use Rattle.expr_parser.proofs.Depths.{pair_behind, seen_behind}
use Rattle.expr_parser.proofs.lists.Pairs.with.Goals as goal

pub invariant_of-result : goal.invariant_of-result
invariant_of-result c =
    let before = seen_pairs c.args.self.items.items in
    let pushed = seen_behind seen_pair c.push.new.self.items c.args.self.items.items c.pair.result c.in_ok-push.ensures.items in
    let all : seen_pairs c.push.new.self.items ≡ before ++ (view c.args.entry.key.expr, view c.args.entry.item.expr) ∷ [] =
    pushed ∙ ap (λ p. before ++ p ∷ []) c.pair.ensures in
    record {
      exact = pair_behind (seen_pairs c.push.new.self.items) before (view c.args.entry.key.expr, view c.args.entry.item.expr) c.max-depth.result c.args.self.depth
          c.args.entry.key.depth c.args.entry.item.depth all c.args.self.exact c.args.entry.key.exact c.args.entry.item.exact (omega (arith, c.max.ensures, c.max-depth.ensures));
    }
