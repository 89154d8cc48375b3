use Rattle.std.proofs.Common.{ap, ◌∙◌}
use Rattle.py_tree.specs.ExprView.{view}
use Rattle.py_tree.specs.declared.expr.Expr.TheVariants.{FText}
use Rattle.expr_parser.proofs.Views.{is_f_text}
use Rattle.expr_parser.proofs.listed.f_text_expr.Goals as goal

pub returns : goal.returns
returns c = ap (λ ps. view (FText c.args.spelling ps)) c.of.ensures ∙ is_f_text c.args.spelling c.args.pieces.items
