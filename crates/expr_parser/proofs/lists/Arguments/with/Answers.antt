use Rattle.std.proofs.Common.{◌≡◌, ◌++◌, ◌∷◌, [], ap, ◌∙◌}
use Rattle.py_tree.specs.ExprView.{view}
use Rattle.expr_parser.specs.ListView.{argument_of, seen_argument, seen_arguments}
use Rattle.expr_parser.proofs.Depths.{argument_behind, value_depth_is, seen_behind}
use Rattle.expr_parser.proofs.lists.Arguments.with.Goals as goal

pub invariant_of-result : goal.invariant_of-result
invariant_of-result c =
    let given = argument_of c.args.given.name (view c.args.given.value.expr) in
    let before = seen_arguments c.args.self.items.items in
    let pushed = seen_behind seen_argument c.push.new.self.items c.args.self.items.items c.argument.result c.in_ok-push.ensures.items in
    let all : seen_arguments c.push.new.self.items ≡ before ++ given ∷ [] = pushed ∙ ap (λ a. before ++ a ∷ []) c.argument.ensures in
    record {
      exact = c.max-depth.ensures
          ∙ argument_behind (seen_arguments c.push.new.self.items) before given c.args.self.depth c.args.given.value.depth all c.args.self.exact
          (value_depth_is c.args.given.name (view c.args.given.value.expr) c.args.given.value.depth c.args.given.value.exact);
    }
