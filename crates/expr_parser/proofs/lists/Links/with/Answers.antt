use Rattle.std.proofs.Common.{◌≡◌, ◌++◌, ◌∷◌, [], ap, ◌∙◌}
use Rattle.py_tree.specs.ExprView.{view, view_comparison}
use Rattle.expr_parser.specs.ListView.{seen_link, seen_links}
use Rattle.expr_parser.proofs.Depths.{link_behind, seen_behind}
use Rattle.expr_parser.proofs.lists.Links.with.Goals as goal

pub invariant_of-result : goal.invariant_of-result
invariant_of-result c =
    let before = seen_links c.args.self.items.items in
    let operand = view c.args.operand.expr in
    let pushed = seen_behind seen_link c.push.new.self.items c.args.self.items.items c.link.result c.in_ok-push.ensures.items in
    let all : seen_links c.push.new.self.items ≡ before ++ (view_comparison c.args.comparison, operand) ∷ [] = pushed ∙ ap (λ l. before ++ l ∷ []) c.link.ensures in
    record {
      exact = c.max-depth.ensures
          ∙ link_behind (seen_links c.push.new.self.items) before (view_comparison c.args.comparison, operand) c.args.self.depth c.args.operand.depth all c.args.self.exact c.args.operand.exact;
    }
