-- Words of the code, seen as those of the reading.
use Rattle.std.specs.Prelude.{List, map, Option, option_map}
use Rattle.syntax_reading.specs.Words as reading
use Rattle.syntax_reading.specs.Readers.{Read}
use Rattle.syntax_words.specs.SenseView.{view_sense}
use Rattle.syntax_words.specs.declared.word.Word.{Word}
use Rattle.syntax_words.specs.declared.word.Words.{Words}

abbrev pub view_word : Word → reading.Word
view_word w = view_sense w.sense

abbrev pub view_words : List Word → List reading.Word
view_words ws = map view_word ws

-- those that are left to read
abbrev pub words_of : Words → List reading.Word
words_of ws = view_words ws.words.now

-- what was found, and the words behind it
abbrev pub found : {A B : Type 0} → (A → B) → Option (A × Words) → Read B
found seen r = option_map (λ p. (seen p.0, words_of p.1)) r

-- the words behind something that was looked for
abbrev pub behind : Option Words → Read (Unit {0})
behind r = option_map (λ rest. (tt, words_of rest)) r
