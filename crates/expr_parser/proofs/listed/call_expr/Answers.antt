use Rattle.std.proofs.Common.{ap, ◌∙◌}
use Rattle.py_tree.specs.ExprView.{view}
use Rattle.py_tree.specs.declared.expr.Expr.TheVariants.{Call}
use Rattle.expr_parser.proofs.Views.{is_call}
use Rattle.expr_parser.proofs.listed.call_expr.Goals as goal

pub returns : goal.returns
returns c = ap (λ args. view (Call c.args.callee args c.args.comma)) c.of.ensures ∙ is_call c.args.callee c.args.arguments.items c.args.comma
