-- Tokens of the code, seen as pure data.
use Rattle.std.specs.Prelude.{List, map, option_map}
use Rattle.lexical_form.specs.Lines as lines
use Rattle.lexical_form.specs.Tokens as pure
use Rattle.py_tokens.specs.declared.line.LogicalLine.{LogicalLine}
use Rattle.py_tree.specs.FieldView.{view_convert, view_spec}
use Rattle.py_tokens.specs.declared.token.Piece.{Piece, fold-Piece}
use Rattle.py_tokens.specs.declared.token.Piece.TheOpen.{Piece-F, Pieces-F, Token-F, TokenKind-F, Tokens-F}
use Rattle.py_tokens.specs.declared.token.Pieces.{Pieces, fold-Pieces}
use Rattle.py_tokens.specs.declared.token.Token.{Token, fold-Token}
use Rattle.py_tokens.specs.declared.token.TokenKind.{TokenKind, fold-TokenKind}
use Rattle.py_tokens.specs.declared.token.Tokens.{Tokens, fold-Tokens, out-Tokens}

abbrev pub piece_step : Piece-F pure.Piece pure.Kind pure.Pieces pure.Token pure.Tokens → pure.Piece
piece_step (Piece-F.Chars cs) = pure.characters cs
piece_step (Piece-F.Field ts c s) = pure.field ts (view_convert c) (option_map view_spec s)

abbrev pub pieces_step : Pieces-F pure.Piece pure.Kind pure.Pieces pure.Token pure.Tokens → pure.Pieces
pieces_step ps = pure.pieces_of ps.pieces

abbrev pub token_step : Token-F pure.Piece pure.Kind pure.Pieces pure.Token pure.Tokens → pure.Token
token_step t = pure.token t.kind t.spelling

abbrev pub kind_step : TokenKind-F pure.Piece pure.Kind pure.Pieces pure.Token pure.Tokens → pure.Kind
kind_step TokenKind-F.Name = pure.name
kind_step TokenKind-F.Number = pure.number
kind_step TokenKind-F.Text = pure.text
kind_step (TokenKind-F.FText ps) = pure.f_text ps
kind_step TokenKind-F.Mark = pure.mark

abbrev pub tokens_step : Tokens-F pure.Piece pure.Kind pure.Pieces pure.Token pure.Tokens → pure.Tokens
tokens_step ts = pure.tokens_of ts.tokens

abbrev pub view_piece : Piece → pure.Piece
view_piece = fold-Piece pure.Piece pure.Kind pure.Pieces pure.Token pure.Tokens piece_step kind_step pieces_step token_step tokens_step

abbrev pub view_pieces : Pieces → pure.Pieces
view_pieces = fold-Pieces pure.Piece pure.Kind pure.Pieces pure.Token pure.Tokens piece_step kind_step pieces_step token_step tokens_step

abbrev pub view_token : Token → pure.Token
view_token = fold-Token pure.Piece pure.Kind pure.Pieces pure.Token pure.Tokens piece_step kind_step pieces_step token_step tokens_step

abbrev pub view_kind : TokenKind → pure.Kind
view_kind = fold-TokenKind pure.Piece pure.Kind pure.Pieces pure.Token pure.Tokens piece_step kind_step pieces_step token_step tokens_step

abbrev pub view_tokens : Tokens → pure.Tokens
view_tokens = fold-Tokens pure.Piece pure.Kind pure.Pieces pure.Token pure.Tokens piece_step kind_step pieces_step token_step tokens_step

abbrev pub view_token_list : List Token → pure.Tokens
view_token_list ts = pure.tokens_of (map view_token ts)

abbrev pub view_piece_list : List Piece → pure.Pieces
view_piece_list ps = pure.pieces_of (map view_piece ps)

abbrev pub token_list : Tokens → List Token
token_list ts = (out-Tokens ts).tokens

abbrev pub view_line : LogicalLine → lines.Line
view_line l = record { line = l.line; indent = l.indent; tokens = map view_token (token_list l.tokens) }
