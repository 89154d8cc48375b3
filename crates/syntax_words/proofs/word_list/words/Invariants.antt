-- the words of the tokens so far
use Rattle.std.proofs.Common.{◌≡◌, map, take}
use Rattle.py_tokens.specs.TokenView.{view_token}
use Rattle.syntax_reading.specs.Words.{word_of}
use Rattle.syntax_words.specs.WordView.{view_words}
use Rattle.syntax_words.proofs.word_list.words.Given as goal

abbrev pub invariant-loop-token : goal.invariant-loop-token
invariant-loop-token l = view_words l.words.items ≡ map (λ t. word_of (view_token t)) (take l.token-index l.tokens)
