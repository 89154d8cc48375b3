-- The word begins with the name, or it doesn't.
use Rattle.cli_words.proofs.OptionWords.{found}
use Rattle.cli_words.proofs.service.value.Goals as goal

pub returns : goal.returns
returns c = found c.args.name.now c.args.word.now c.strip_prefix.result c.strip_prefix.ensures.cases
