-- The tokens of logical lines are spelled as tokens.
use Rattle.std.proofs.Common.{ℕ, Bool, true, false, List, [], ◌∷◌, ◌++◌, sym, subst}
use Rattle.std.specs.Prelude.{if◌then◌else◌}
use Rattle.lexical_form.specs.Bytes.{is_empty}
use Rattle.lexical_form.specs.LogicalLines.{Line, line_of, lines_ended, MayStand, IsMadeOf, Spelled}
use Rattle.lexical_form.specs.Readable.{readable}
use Rattle.lexical_form.specs.Pieces.{Piece, a_token, space, tab, comment, line_end, piece_spelling, ends_line, row_at, tokens_in}
use Rattle.syntax_form.specs.SpelledTokens.{AreTokens, HoldTokens}
use Rattle.syntax_form.proofs.TokenLaws.{tokens_joined, stands_alone}

lines_joined : (ls ms : List Line) → HoldTokens ls → HoldTokens ms → HoldTokens (ls ++ ms)
lines_joined [] ms h k = k
lines_joined (l ∷ ls) ms h k = (h.0, lines_joined ls ms h.1 k)

one_more : (before ps : List Piece) (p : Piece) (rest : List ℕ) → MayStand before p rest → AreTokens (tokens_in ps) → AreTokens (tokens_in (p ∷ ps))
one_more before ps (a_token t) rest h k = let longest = h.0 in tokens_joined (tokens_in ps) (t ∷ []) k (stands_alone t rest longest.stands, tt)
one_more before ps space rest h k = k
one_more before ps tab rest h k = k
one_more before ps (comment cs) rest h k = k
one_more before ps line_end rest h k = k

row_tokens : (text : List ℕ) (before : List Piece) (rest : List ℕ) → IsMadeOf text before rest → AreTokens (tokens_in (row_at before))
row_tokens text [] rest h = tt
row_tokens text (p ∷ before) rest h = by_end (ends_line before p) (one_more before (row_at before) p rest h.0 (row_tokens text before (piece_spelling p ++ rest) h.1))
  where
    by_end : (b : Bool) → AreTokens (tokens_in (p ∷ row_at before)) → AreTokens (tokens_in (if b then [] else (p ∷ row_at before)))
    by_end true k = tt
    by_end false k = k

if_line : (b : Bool) (l : Line) → AreTokens l.tokens → HoldTokens (if b then [] else (l ∷ []))
if_line true l h = tt
if_line false l h = (h, tt)

line_tokens : (before : List Piece) → AreTokens (tokens_in (row_at before)) → HoldTokens (line_of before)
line_tokens before k = if_line (is_empty (tokens_in (row_at before))) _ k

if_ended : (b : Bool) (ls : List Line) → HoldTokens ls → HoldTokens (if b then ls else [])
if_ended true ls h = h
if_ended false ls h = tt

ended_tokens : (text : List ℕ) (before : List Piece) (rest : List ℕ) → IsMadeOf text before rest → HoldTokens (lines_ended before)
ended_tokens text [] rest h = tt
ended_tokens text (p ∷ before) rest h =
    let behind = piece_spelling p ++ rest in
    let last = line_tokens before (row_tokens text before behind h.1) in
    lines_joined (lines_ended before) _ (ended_tokens text before behind h.1) (if_ended (ends_line before p) (line_of before) last)

pub of_tokens : (bytes : List ℕ) (lines : List Line) → Spelled bytes lines → HoldTokens lines
of_tokens bytes lines h =
    let before = h.1 in
    let made : IsMadeOf (readable bytes) before [] = (h.2).0 in
    subst HoldTokens (sym h.4)
    (lines_joined (lines_ended before) (line_of before) (ended_tokens (readable bytes) before [] made) (line_tokens before (row_tokens (readable bytes) before [] made)))
