-- An argument more, behind a comma.
use Rattle.std.proofs.Common.{◌∙◌, ap, sym, ◌+◌, ◌++◌, drop, max}
use Rattle.py_tree.specs.ExprView.{view_argument, view_arguments}
use Rattle.syntax_form.specs.Depth.{argument_depth}
use Rattle.syntax_form.specs.Printing.{mark, argument_tokens, later_argument_tokens}
use Rattle.expr_tokens.specs.Parts.{parts_tokens, parts_depth}
use Rattle.expr_tokens.proofs.Commas.{with_comma}
use Rattle.expr_tokens.proofs.LaterArguments.{later-argument, place}
use Rattle.expr_tokens.proofs.lists.push_arguments.Goals as goal

pub loop-argument-preserved : goal.loop-argument-preserved
loop-argument-preserved c =
    let later = c.in-Some.later.now in
    let i = c.loop-argument.argument-index in
    let a = c.argument-item.result in
    let rest = view_arguments (drop (i + 1) later) in
    let old = c.loop-argument.parts.items in
    let all = view_argument a rest in
    let mid = c.push.new.parts.items in
    let new = c.push_argument-in-loop-argument.new.parts.items in
    let next =
    with_comma old mid new (mark ",") (argument_tokens all) (later_argument_tokens rest) (argument_depth all) (argument_depth rest)
    c.in_ok-push.ensures (c.in_ok-push_argument-2.ensures rest) in
    let at = place later i a c.loop-argument-test.true c.argument-item.is in
    record {
      tokens =
          next.tokens ∙ ap (λ ts. parts_tokens old ++ ts) (sym (later-argument a rest) ∙ ap later_argument_tokens (sym at))
          ∙ c.loop-argument.invariant.tokens;
      depth = next.depth ∙ ap (λ args. max (parts_depth old) (argument_depth args)) (sym at) ∙ c.loop-argument.invariant.depth;
    }
