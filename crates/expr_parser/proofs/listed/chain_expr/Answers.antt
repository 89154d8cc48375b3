use Rattle.std.proofs.Common.{ap, ◌∙◌}
use Rattle.py_tree.specs.ExprView.{view}
use Rattle.py_tree.specs.declared.expr.Expr.TheVariants.{Chain}
use Rattle.expr_parser.proofs.Views.{is_chain}
use Rattle.expr_parser.proofs.listed.chain_expr.Goals as goal

pub returns : goal.returns
returns c =
    ap (λ ls. view (Chain c.args.first c.args.link.comparison c.args.link.operand ls)) c.of.ensures
    ∙ is_chain c.args.first c.args.link.operand c.args.link.comparison c.args.links.items
