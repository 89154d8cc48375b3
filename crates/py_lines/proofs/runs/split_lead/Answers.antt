-- A text may be cut behind quotes.
use Rattle.std.proofs.Common.{◌∙◌, ap}
use Rattle.lexical_form.specs.TextReader.{lead}
use Rattle.py_lexer.specs.Views.{quotes}
use Rattle.py_lines.proofs.Boundaries.{lead_boundary}
use Rattle.py_lines.proofs.runs.split_lead.Goals as goal

pub split_at-requires : goal.split_at-requires
split_at-requires c = lead_boundary (quotes c.args.q) c.args.text.now c.lead.result c.requires c.utf8.text (c.lead.ensures.is ∙ ap (lead (quotes c.args.q)) c.as_bytes.ensures.value)
