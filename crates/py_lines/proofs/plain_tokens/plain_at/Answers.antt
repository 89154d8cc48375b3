-- The token that is the longest is the one that is read.
use Rattle.py_lines.proofs.PlainReads.{plain_read}
use Rattle.py_lines.proofs.plain_tokens.plain_at.Goals as goal

pub returns-clause-reads : goal.returns-clause-reads
returns-clause-reads c = plain_read c.args.text.now c.plain_token.result c.plain_token.ensures.longest
