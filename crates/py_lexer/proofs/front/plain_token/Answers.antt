-- What is cut off is the longest token; where none is read, none begins.
use Rattle.lexical_form.proofs.PlainLongest.{none_stands}
use Rattle.py_lexer.specs.Views.{plain_kind}
use Rattle.py_lexer.proofs.PlainCuts.{cut_longest}
use Rattle.py_lexer.proofs.front.plain_token.Goals as goal

pub returns-in_default-clause-longest : goal.returns-in_default-clause-longest
returns-in_default-clause-longest c = λ u after stands spelled. none_stands c.args.text.now c.in_default.ensures u.kind u.spelling after stands spelled

pub returns-clause-longest : goal.returns-clause-longest
returns-clause-longest c =
    cut_longest c.args.text.now c.in-Some.len (plain_kind c.in-Some.kind) c.split_at.result.0.now c.split_at.result.1.now c.in-Some.ensures c.split_at.ensures.front c.split_at.ensures.back
