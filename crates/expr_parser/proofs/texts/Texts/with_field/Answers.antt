use Rattle.std.proofs.Common.{◌≡◌, ◌++◌, ◌∷◌, [], option_map, ap, ◌∙◌}
use Rattle.py_tree.specs.ExprView.{view}
use Rattle.py_tree.specs.FieldView.{view_convert, view_spec}
use Rattle.expr_parser.specs.TextView.{seen_text, seen_texts, filled}
use Rattle.expr_parser.proofs.Depths.{field_behind, seen_behind}
use Rattle.expr_parser.proofs.texts.Texts.with_field.Goals as goal

pub invariant_of-result : goal.invariant_of-result
invariant_of-result c =
    let before = seen_texts c.args.self.items.items in
    let value = view c.args.value.expr in
    let convert = view_convert c.args.convert in
    let spec = option_map view_spec c.args.spec in
    let pushed = seen_behind seen_text c.push.new.self.items c.args.self.items.items c.field.result c.in_ok-push.ensures.items in
    let all : seen_texts c.push.new.self.items ≡ before ++ filled value convert spec ∷ [] = pushed ∙ ap (λ t. before ++ t ∷ []) c.field.ensures in
    record {
      exact = c.max-depth.ensures
          ∙ field_behind (seen_texts c.push.new.self.items) before value convert spec c.args.self.depth c.args.value.depth all c.args.self.exact c.args.value.exact;
    }
