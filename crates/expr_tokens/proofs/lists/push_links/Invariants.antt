-- What is left of the list comes behind what is there.
use Rattle.std.proofs.Common.{◌≡◌, ◌++◌, drop, max}
use Rattle.py_tree.specs.ExprView.{view_links}
use Rattle.syntax_form.specs.Depth.{link_depth}
use Rattle.syntax_form.specs.Printing.{link_tokens}
use Rattle.expr_tokens.specs.Parts.{parts_tokens, parts_depth}
use Rattle.expr_tokens.proofs.lists.push_links.Given as goal

abbrev pub invariant-loop-link : goal.invariant-loop-link
invariant-loop-link l =
    let rest = view_links (drop l.link-index l.links) in
    let all = view_links l.links in
    record {
      tokens : parts_tokens l.parts.items ++ link_tokens rest ≡ parts_tokens l.fn.parts.items ++ link_tokens all;
      depth : max (parts_depth l.parts.items) (link_depth rest) ≡ max (parts_depth l.fn.parts.items) (link_depth all);
    }
