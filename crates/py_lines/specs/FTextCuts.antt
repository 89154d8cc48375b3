-- The f-text at a text's front.
use Rattle.std.specs.Prelude.{◌≡◌, ℕ, ◌≤◌, ◌&&◌, true, cond, List, [], ◌∷◌, ◌++◌, length, take, drop, Option, Some, None}
use Rattle.std.specs.Str.{IsCharBoundary}
use Rattle.py_tree.specs.Names.{continues_name, is_among}
use Rattle.lexical_form.specs.Bytes.{is_quote}
use Rattle.lexical_form.specs.Reading.{span}
use Rattle.lexical_form.specs.Tokens as tokens
use Rattle.lexical_form.specs.Tokens.{Piece, pieces_of}
use Rattle.lexical_form.specs.Texts.{Quotes, side}
use Rattle.lexical_form.specs.TextReader.{items_at, opening, behind_opening}
use Rattle.lexical_form.specs.Plain.{f_text_prefixes}
use Rattle.lexical_form.specs.FTexts.{has_r}
use Rattle.lexical_form.specs.FTextReader.{f_part_at, f_text_of}
use Rattle.lexical_form.specs.TokenReader.{next}

-- the quotes that open it, and what is behind them
abbrev pub opened_by : List ℕ → List ℕ → Option (Quotes × List ℕ)
opened_by prefix [] = None
opened_by prefix (m ∷ more) =
    cond {A = Option (Quotes × List ℕ)} (is_among prefix f_text_prefixes && is_quote m)
    (Some (opening (has_r prefix) m more, behind_opening (opening (has_r prefix) m more) more)) None

abbrev pub opened_says : List ℕ → Option (Quotes × List ℕ)
opened_says ts = let s = span continues_name ts in opened_by s.0 s.1

pub record Opens (ts : List ℕ) (q : Quotes) (inside : List ℕ) : Type 0 where
  pub prefix : List ℕ
  pub front : ts ≡ (prefix ++ side q) ++ inside
  pub quote : is_quote q.mark ≡ true
  pub reads : next ts ≡ f_text_of prefix q (items_at f_part_at q inside)

-- the first `n` bytes are the token at the front, an f-text of these pieces, and the text may be cut behind them
pub record FTextCut (ts : List ℕ) (n : ℕ) (ps : List Piece) : Type 0 where
  pub in_range : n ≤ length ts
  pub boundary : IsCharBoundary ts n
  pub read : next ts ≡ Some (tokens.token (tokens.f_text (pieces_of ps)) (take n ts), drop n ts)
