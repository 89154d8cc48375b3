-- What is left of the list comes behind what is there.
use Rattle.std.proofs.Common.{◌≡◌, ◌++◌, drop, max}
use Rattle.py_tree.specs.ExprView.{views}
use Rattle.syntax_form.specs.Depth.{list_depth}
use Rattle.syntax_form.specs.Printing.{test_tokens}
use Rattle.expr_tokens.specs.Parts.{parts_tokens, parts_depth}
use Rattle.expr_tokens.proofs.lists.push_tests.Given as goal

abbrev pub invariant-loop-test : goal.invariant-loop-test
invariant-loop-test l =
    let rest = views (drop l.test-index l.tests) in
    let all = views l.tests in
    record {
      tokens : parts_tokens l.parts.items ++ test_tokens rest ≡ parts_tokens l.fn.parts.items ++ test_tokens all;
      depth : max (parts_depth l.parts.items) (list_depth rest) ≡ max (parts_depth l.fn.parts.items) (list_depth all);
    }
