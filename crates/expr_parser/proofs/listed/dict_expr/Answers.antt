use Rattle.std.proofs.Common.{ap, ◌∙◌}
use Rattle.py_tree.specs.ExprView.{view}
use Rattle.py_tree.specs.declared.expr.Expr.TheVariants.{Dict}
use Rattle.expr_parser.proofs.Views.{is_dict}
use Rattle.expr_parser.proofs.listed.dict_expr.Goals as goal

pub returns : goal.returns
returns c = ap (λ ps. view (Dict ps c.args.comma)) c.of.ensures ∙ is_dict c.args.pairs.items c.args.comma
