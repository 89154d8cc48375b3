-- What a token is to the grammar, seen as a word of the reading.
use Rattle.std.specs.Prelude.{Bool, true}
use Rattle.py_tokens.specs.TokenView.{view_token, view_pieces}
use Rattle.syntax_reading.specs.Words as word
use Rattle.syntax_reading.specs.Words.{Word, is_free, may_be_literal, literal_of}
use Rattle.syntax_words.specs.FixedView.{view_fixed}
use Rattle.syntax_words.specs.declared.sense.Sense.{Sense}
use Rattle.syntax_words.specs.declared.sense.Sense.TheVariants as sense

abbrev pub view_sense : Sense → Word
view_sense (sense.Fixed f) = word.fixed (view_fixed f)
view_sense (sense.Name x) = word.name x.now
view_sense (sense.Literal k cs) = word.literal (literal_of k cs.now)
view_sense (sense.FText cs ps) = word.f_text cs.now (view_pieces ps.now)
view_sense (sense.Other t) = word.other (view_token t.now)

-- a name is no keyword, and a literal is a constant, a number or a text
abbrev pub is_sound : Word → Bool
is_sound (word.name x) = is_free x
is_sound (word.literal t) = may_be_literal t.kind t.spelling
is_sound (word.f_text cs ps) = true
is_sound (word.fixed f) = true
is_sound (word.other t) = true
