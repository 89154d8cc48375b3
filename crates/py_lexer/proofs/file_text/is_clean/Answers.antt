-- What holds nothing odd is its text.
use Rattle.std.proofs.Common.{sym, ◌∙◌}
use Rattle.py_lexer.proofs.CleanLaws.{clean_is}
use Rattle.py_lexer.proofs.file_text.is_clean.Goals as goal

pub returns-clause-same : goal.returns-clause-same
returns-clause-same c = λ clean. let p = clean_is c.args.bytes.now (sym c.holds_nothing_odd.ensures ∙ clean) in (p.same, p.whole)
