-- Tokens as pure data (Python language reference, section 2).
use Rattle.std.specs.Prelude.{ℕ, List, [], ◌∷◌, Option}
pub use Rattle.py_tree.specs.FieldFormats.{Convert, as_is, repr, str, Align, left, right, center, Form, decimal, string, Spec, aligned, zeros, comma}

-- A token with its spelling. Of an f-text there is also what it is made of: texts that stand for themselves, and fields.
mutual
  pub data Token : Type 0 where
    token : Kind → (spelling : List ℕ) → Token

  pub data Kind : Type 0 where
    name : Kind
    number : Kind
    text : Kind
    f_text : Pieces → Kind
    mark : Kind

  pub data Pieces : Type 0 where
    no_piece : Pieces
    piece : Piece → Pieces → Pieces

  pub data Piece : Type 0 where
    characters : List ℕ → Piece
    field : Tokens → Convert → Option Spec → Piece

  pub data Tokens : Type 0 where
    no_token : Tokens
    then_token : Token → Tokens → Tokens

abbrev pub spelling : Token → List ℕ
spelling (token kind cs) = cs

abbrev pub tokens_of : List Token → Tokens
tokens_of [] = no_token
tokens_of (t ∷ ts) = then_token t (tokens_of ts)

abbrev pub pieces_of : List Piece → Pieces
pieces_of [] = no_piece
pieces_of (p ∷ ps) = piece p (pieces_of ps)
