-- Pieces of an f-text's token before others.
use Rattle.std.proofs.Common.{◌≡◌, ◌∙◌, List, [], ◌∷◌, ◌++◌, map, refl, ap}
use Rattle.std.proofs.lemmas.List.{map-append}
use Rattle.lexical_form.specs.Tokens.{Piece, Pieces, no_piece, piece, pieces_of}
use Rattle.py_tokens.specs.TokenView.{view_piece}
use Rattle.py_tokens.specs.declared.token.Piece as code

abbrev pub put_before : List Piece → Pieces → Pieces
put_before [] rest = rest
put_before (p ∷ ps) rest = piece p (put_before ps rest)

put_before-append : (ps : List Piece) (p : Piece) (rest : Pieces) → put_before (ps ++ p ∷ []) rest ≡ put_before ps (piece p rest)
put_before-append [] p rest = refl
put_before-append (q ∷ ps) p rest = ap (piece q) (put_before-append ps p rest)

-- pieces of the code, and one more behind them
pub put_next : (old new : List code.Piece) (p : code.Piece) (rest : Pieces)
    → new ≡ old ++ p ∷ [] → put_before (map view_piece new) rest ≡ put_before (map view_piece old) (piece (view_piece p) rest)
put_next old new p rest is =
    ap (λ ps. put_before (map view_piece ps) rest) is ∙ ap (λ ps. put_before ps rest) (map-append view_piece old (p ∷ []))
    ∙ put_before-append (map view_piece old) (view_piece p) rest

-- before none
pub put_all : (ps : List Piece) → put_before ps no_piece ≡ pieces_of ps
put_all [] = refl
put_all (p ∷ ps) = ap (piece p) (put_all ps)
