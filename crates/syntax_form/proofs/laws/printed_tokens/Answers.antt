use Rattle.syntax_form.proofs.PrintedTokens.{tree_tokens}
use Rattle.syntax_form.proofs.PrintedLines.{line_tokens}
use Rattle.syntax_form.proofs.laws.printed_tokens.Goals as goal

pub returns-clause-expressions : goal.returns-clause-expressions
returns-clause-expressions c = tree_tokens

pub returns-clause-lines : goal.returns-clause-lines
returns-clause-lines c = line_tokens
