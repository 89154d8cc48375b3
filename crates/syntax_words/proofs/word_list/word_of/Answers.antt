use Rattle.py_tokens.specs.TokenView.{view_token}
use Rattle.syntax_words.proofs.TokenWords.{sound_word}
use Rattle.syntax_words.proofs.word_list.word_of.Goals as goal

pub invariant_of-result : goal.invariant_of-result
invariant_of-result c = record { sound = sound_word (view_token c.args.token.now) _ c.sense_of.ensures }
