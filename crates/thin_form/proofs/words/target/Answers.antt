-- The text after ` = ` has a word.
use Rattle.std.proofs.Common.{sym, ap, ◌∙◌}
use Rattle.thin_form.specs.Words.{words, target}
use Rattle.thin_form.proofs.Cuts.{some_word}
use Rattle.thin_form.proofs.Targets.{target-assign}
use Rattle.thin_form.proofs.words.target.Goals as goal

pub returns-in-text-Some : goal.returns-in-text-Some
returns-in-text-Some c =
    let second = rw (c.in-text-Some.is-text-0, c.in-text-Some.is-1) at c.next_word-2.ensures in
    let whole = rw (c.in_ok-rest.was, second) at c.next_word.ensures in
    sym (ap target whole ∙ target-assign c.next_word.result.0.now (words c.in-text-Some.value.now) (some_word c.in-text-Some.value.now))
