-- What is left of the list comes behind what is there.
use Rattle.std.proofs.Common.{◌≡◌, ◌++◌, drop, max}
use Rattle.py_tree.specs.ExprView.{view_arguments}
use Rattle.syntax_form.specs.Depth.{argument_depth}
use Rattle.syntax_form.specs.Printing.{argument_tokens, later_argument_tokens}
use Rattle.expr_tokens.specs.Parts.{parts_tokens, parts_depth}
use Rattle.expr_tokens.proofs.lists.push_arguments.Given as goal

abbrev pub invariant-loop-argument : goal.invariant-loop-argument
invariant-loop-argument l =
    let rest = view_arguments (drop l.argument-index l.later) in
    let all = view_arguments l.arguments in
    record {
      tokens : parts_tokens l.parts.items ++ later_argument_tokens rest ≡ parts_tokens l.fn.parts.items ++ argument_tokens all;
      depth : max (parts_depth l.parts.items) (argument_depth rest) ≡ max (parts_depth l.fn.parts.items) (argument_depth all);
    }
