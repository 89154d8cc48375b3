-- At the end these are the words of all.
use Rattle.std.proofs.Common.{◌∙◌, ap, map}
use Rattle.std.proofs.lemmas.List.{take_all}
use Rattle.py_tokens.specs.TokenView.{view_token}
use Rattle.syntax_reading.specs.Words.{word_of}
use Rattle.syntax_words.proofs.TokenWords.{one_by_one}
use Rattle.syntax_words.proofs.word_list.words.Goals as goal

pub returns : goal.returns
returns c =
    c.loop-token.invariant ∙
    (ap (map (λ t. word_of (view_token t))) (take_all c.loop-token.token-index c.args.tokens.now c.loop-token-test.false) ∙ one_by_one c.args.tokens.now)
