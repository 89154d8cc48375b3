-- The pieces of an f-text, up to its closing quotes.
use Rattle.std.specs.Prelude.{◌≡◌, ℕ, List, [], ◌++◌, Some}
use Rattle.lexical_form.specs.Tokens.{Piece}
use Rattle.lexical_form.specs.Texts.{Quotes, Item}
use Rattle.lexical_form.specs.TextReader.{items_at}
use Rattle.lexical_form.specs.FTexts.{FPart, characters_piece, pieces_behind}
use Rattle.lexical_form.specs.FTextReader.{f_part_at}

-- the items that are read there give the pieces that are done and the characters behind them
pub record PiecesRead (q : Quotes) (ts : List ℕ) (s : List Piece × List ℕ) (rest : List ℕ) : Type 0 where
  pub items : List (Item FPart)
  pub read : items_at f_part_at q ts ≡ Some (items, rest)
  pub pieces : s.0 ++ characters_piece s.1 ≡ pieces_behind q items []
