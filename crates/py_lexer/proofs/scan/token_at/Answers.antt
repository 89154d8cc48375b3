-- What the function value reads.
use Rattle.py_lexer.proofs.Scanning.{token_read, token_short}
use Rattle.py_lexer.proofs.scan.token_at.Goals as goal

pub returns-clause-reads : goal.returns-clause-reads
returns-clause-reads g c = token_read c.args.rest.now c.next.result (c.requires.reads c.args.alloc _ _ c.args.rest c.next.result c.utf8.rest c.next.ensures)

pub returns-clause-short : goal.returns-clause-short
returns-clause-short g c =
    token_short c.args.rest.now c.next.result (token_read c.args.rest.now c.next.result (c.requires.reads c.args.alloc _ _ c.args.rest c.next.result c.utf8.rest c.next.ensures))

pub returns-clause-text : goal.returns-clause-text
returns-clause-text g c = c.requires.is_text c.args.alloc _ _ c.args.rest c.next.result c.utf8.rest c.next.ensures
