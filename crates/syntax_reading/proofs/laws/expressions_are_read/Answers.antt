use Rattle.syntax_reading.proofs.ExpressionLaws.{expression_found, expression_only}
use Rattle.syntax_reading.proofs.laws.expressions_are_read.Goals as goal

pub returns-clause-found : goal.returns-clause-found
returns-clause-found c = expression_found

pub returns-clause-only : goal.returns-clause-only
returns-clause-only c = expression_only
