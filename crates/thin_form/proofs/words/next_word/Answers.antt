-- The text is cut at its first space.
use Rattle.std.proofs.Common.{lit<}
use Rattle.std.proofs.lemmas.Str.Pattern.{split_once_first}
use Rattle.thin_form.proofs.Cuts.{words_first, words_none}
use Rattle.thin_form.proofs.words.next_word.Goals as goal

pub returns-in-Some : goal.returns-in-Some
returns-in-Some c =
    let cut = split_once_first 32 c.args.text.now c.split_once.result c.split_once.ensures.cases (lit< tt) in
    words_first _ _ _ (rw c.in-Some.is at cut)

pub returns-in-None : goal.returns-in-None
returns-in-None c =
    let cut = split_once_first 32 c.args.text.now c.split_once.result c.split_once.ensures.cases (lit< tt) in
    words_none _ (rw c.in-None.is at cut)
