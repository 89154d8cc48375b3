-- What is left of the list comes behind what is there.
use Rattle.std.proofs.Common.{◌≡◌, ◌++◌, drop, max}
use Rattle.py_tree.specs.ExprView.{views}
use Rattle.syntax_form.specs.Depth.{list_depth}
use Rattle.syntax_form.specs.Printing.{list_tokens, later_tokens}
use Rattle.expr_tokens.specs.Parts.{parts_tokens, parts_depth}
use Rattle.expr_tokens.proofs.lists.push_items.Given as goal

abbrev pub invariant-loop-item : goal.invariant-loop-item
invariant-loop-item l =
    let rest = views (drop l.item-index l.later) in
    let all = views l.items in
    record {
      tokens : parts_tokens l.parts.items ++ later_tokens rest ≡ parts_tokens l.fn.parts.items ++ list_tokens all;
      depth : max (parts_depth l.parts.items) (list_depth rest) ≡ max (parts_depth l.fn.parts.items) (list_depth all);
    }
