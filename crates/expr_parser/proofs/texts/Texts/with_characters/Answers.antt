use Rattle.std.proofs.Common.{◌≡◌, ◌++◌, ◌∷◌, [], ap, ◌∙◌}
use Rattle.expr_parser.specs.TextView.{seen_text, seen_texts, plain}
use Rattle.expr_parser.proofs.Depths.{characters_behind, seen_behind}
use Rattle.expr_parser.proofs.texts.Texts.with_characters.Goals as goal

pub invariant_of-result : goal.invariant_of-result
invariant_of-result c =
    let before = seen_texts c.args.self.items.items in
    let pushed = seen_behind seen_text c.push.new.self.items c.args.self.items.items c.characters.result c.in_ok-push.ensures.items in
    let all : seen_texts c.push.new.self.items ≡ before ++ plain c.args.spelling ∷ [] = pushed ∙ ap (λ t. before ++ t ∷ []) c.characters.ensures in
    record { exact = characters_behind (seen_texts c.push.new.self.items) before c.args.spelling c.args.self.depth all c.args.self.exact }
