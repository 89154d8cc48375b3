-- What is said is what a format says that stands there.
use Rattle.std.proofs.Common.{◌∙◌, sym}
use Rattle.py_lexer.proofs.FormatSays.{answer_found, answer_whole, format_same}
use Rattle.py_lexer.proofs.formats.format.Goals as goal

pub returns-clause-found : goal.returns-clause-found
returns-clause-found c = answer_found c.args.bytes.now c.said.result c.said.ensures

pub returns-clause-whole : goal.returns-clause-whole
returns-clause-whole c = λ f rest good spelled. answer_whole c.args.bytes.now c.said.result c.said.ensures f rest good spelled

pub returns-clause-reads : goal.returns-clause-reads
returns-clause-reads c = c.said.ensures ∙ sym (format_same c.args.bytes.now)
