-- The text begins with it, or with something else.
use Rattle.thin_form.proofs.Ends.{stripped_front}
use Rattle.thin_form.proofs.words.without_front.Goals as goal

pub returns : goal.returns
returns c = stripped_front c.args.front.now c.args.text.now c.strip_prefix.result c.strip_prefix.ensures.cases
