-- What texts say.
use Rattle.std.specs.Prelude.{◌≡◌, ℕ, true, cond, not, ◌&&◌, ◌||◌, IsTrue, List, [], ◌∷◌, ◌++◌, Option, Some, None}
use Rattle.std.specs.List.{flat_map}
use Rattle.py_tree.specs.Names.{continues_name, is_among}
use Rattle.lexical_form.specs.Bytes.{is_empty, is_quote}
use Rattle.lexical_form.specs.Reading.{span}
use Rattle.lexical_form.specs.Texts.{Quotes, Part, Item, Text, text_prefixes, is_text_prefix, is_text, text_spelling, side}
use Rattle.lexical_form.specs.TextReader.{part_at, items_at, opening, behind_opening}
use Rattle.lexical_form.specs.Meaning.{part_meaning, item_meaning, text_meaning}

-- the items up to the closing quotes say this
pub record TextRead (q : Quotes) (ts says rest : List ℕ) : Type 0 where
  pub items : List (Item Part)
  pub read : items_at part_at q ts ≡ Some (items, rest)
  pub says_is : says ≡ flat_map (item_meaning part_meaning q) items

-- the quotes that open the text at the front, and what is behind them
abbrev pub text_opened_by : List ℕ → List ℕ → Option (Quotes × List ℕ)
text_opened_by prefix [] = None
text_opened_by prefix (m ∷ more) =
    cond {A = Option (Quotes × List ℕ)} ((is_empty prefix || is_among prefix text_prefixes) && is_quote m)
    (Some (opening (not (is_empty prefix)) m more, behind_opening (opening (not (is_empty prefix)) m more) more)) None

abbrev pub text_opened_says : List ℕ → Option (Quotes × List ℕ)
text_opened_says ts = let s = span continues_name ts in text_opened_by s.0 s.1

pub record TextOpens (ts : List ℕ) (q : Quotes) (inside : List ℕ) : Type 0 where
  pub prefix : List ℕ
  pub front : ts ≡ (prefix ++ side q) ++ inside
  pub quote : is_quote q.mark ≡ true
  pub good : is_text_prefix prefix q.raw ≡ true
  pub opened : text_opened_says ts ≡ Some (q, inside)

-- the bytes are a text, which says this
abbrev pub Says : List ℕ → List ℕ → Type 0
Says cs says = (t : Text) × IsTrue (is_text t) × (cs ≡ text_spelling t) × (says ≡ text_meaning t)

abbrev pub IsNoText : List ℕ → Type 0
IsNoText cs = (t : Text) → IsTrue (is_text t) → cs ≡ text_spelling t → ⊥
