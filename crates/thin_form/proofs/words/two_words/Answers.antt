-- Where more text follows, there are more words.
use Rattle.std.proofs.Common.{◌≡◌, ℕ, ◌<◌, List, [], ◌∷◌, length, None, refl, sym, ap, ◌∙◌, arith}
use Rattle.thin_form.specs.Words.{words, two_words}
use Rattle.thin_form.proofs.Cuts.{some_word}
use Rattle.thin_form.proofs.words.two_words.Goals as goal

three : (a b : List ℕ) (rest : List (List ℕ)) → 0 < length rest → two_words (a ∷ b ∷ rest) ≡ None
three a b [] l = absurd (omega arith)
three a b (c ∷ rest) l = refl

pub returns-in-Some : goal.returns-in-Some
returns-in-Some c =
    let second = rw c.in-Some.is at c.next_word-2.ensures in
    let whole = rw (c.in_ok-rest.was, second) at c.next_word.ensures in
    sym (ap two_words whole ∙ three c.next_word.result.0.now c.next_word-2.result.0.now (words c.in-Some.field-0.now) (some_word c.in-Some.field-0.now))
