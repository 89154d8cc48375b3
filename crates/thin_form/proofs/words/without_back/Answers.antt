-- The text ends with it, or with something else.
use Rattle.thin_form.proofs.Ends.{stripped_back}
use Rattle.thin_form.proofs.words.without_back.Goals as goal

pub returns : goal.returns
returns c = stripped_back c.args.back.now c.args.text.now c.strip_suffix.result c.strip_suffix.ensures.cases
