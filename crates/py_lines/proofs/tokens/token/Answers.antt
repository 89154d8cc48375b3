-- The token that is read is the longest one.
use Rattle.py_lines.proofs.TokenLaws.{token_longest}
use Rattle.py_lines.proofs.tokens.token.Goals as goal

pub returns-clause-longest : goal.returns-clause-longest
returns-clause-longest c = token_longest c.args.text.now c.read.result c.read.ensures.reads
