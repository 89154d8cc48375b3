use Rattle.std.proofs.Common.{◌≡◌, map, Some, None, sym, ◌∙◌}
use Rattle.py_tokens.specs.TokenView.{view_token, token_list}
use Rattle.py_tree.specs.ExprView.{view}
use Rattle.syntax_form.specs.Depth.{depth_limit}
use Rattle.syntax_reading.proofs.ExpressionLaws.{expression_found, expression_only}
use Rattle.syntax_reading.specs.Reading.{read_expression}
use Rattle.expr_parser.proofs.whole.expr.Goals as goal

pub returns-in_default-clause-only : goal.returns-in_default-clause-only
returns-in_default-clause-only c t h =
    let ts = map view_token (token_list c.args.tokens.now) in
    let none : None ≡ read_expression depth_limit ts = rw c.in_default.is at c.in_ok-part.ensures in
    none ∙ expression_only depth_limit ts t h

pub returns-clause-found : goal.returns-clause-found
returns-clause-found c spelled =
    let ts = map view_token (token_list c.args.tokens.now) in
    let some : Some (view c.in-Some.part.expr) ≡ read_expression depth_limit ts = rw c.in-Some.is at c.in_ok-part.ensures in
    expression_found depth_limit ts (view c.in-Some.part.expr) spelled (sym some)

pub returns-clause-only : goal.returns-clause-only
returns-clause-only c t h =
    let ts = map view_token (token_list c.args.tokens.now) in
    let some : Some (view c.in-Some.part.expr) ≡ read_expression depth_limit ts = rw c.in-Some.is at c.in_ok-part.ensures in
    some ∙ expression_only depth_limit ts t h
