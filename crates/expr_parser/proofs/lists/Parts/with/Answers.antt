use Rattle.std.proofs.Common.{◌∙◌}
use Rattle.py_tree.specs.ExprView.{view}
use Rattle.expr_parser.specs.ListView.{trees}
use Rattle.expr_parser.proofs.Depths.{tree_behind, seen_behind}
use Rattle.expr_parser.proofs.lists.Parts.with.Goals as goal

pub invariant_of-result : goal.invariant_of-result
invariant_of-result c =
    let pushed = seen_behind view c.push.new.self.items c.args.self.items.items c.args.part.expr c.in_ok-push.ensures.items in
    record {
      exact = c.max-depth.ensures
          ∙ tree_behind (trees c.push.new.self.items) (trees c.args.self.items.items) (view c.args.part.expr) c.args.self.depth c.args.part.depth pushed c.args.self.exact c.args.part.exact;
    }
