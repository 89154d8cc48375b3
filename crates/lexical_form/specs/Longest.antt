-- Tokens of every kind, and the longest token at a text's front (Python language reference, section 2.2).
use Rattle.std.specs.Prelude.{◌≡◌, ℕ, ◌≤◌, not, IsTrue, List, ◌++◌, length}
use Rattle.lexical_form.specs.Tokens.{Token, token, Kind, name, number, text, f_text, mark, pieces_of, spelling}
use Rattle.lexical_form.specs.Texts.{is_before_third}
use Rattle.lexical_form.specs.Plain as plains
use Rattle.lexical_form.specs.Plain.{CanStandAs}
use Rattle.lexical_form.specs.FTexts.{FText, IsFText, f_text_spelling, f_text_pieces}

-- The bytes are a token of this kind, which may stand directly before this text. An empty f-text of two quotes has no third quote behind it.
abbrev pub StandsAs : Kind → List ℕ → List ℕ → Type 0
StandsAs name cs rest = CanStandAs plains.name cs rest
StandsAs number cs rest = CanStandAs plains.number cs rest
StandsAs text cs rest = CanStandAs plains.text cs rest
StandsAs mark cs rest = CanStandAs plains.mark cs rest
StandsAs (f_text pieces) cs rest =
    (t : FText) × IsFText t × (cs ≡ f_text_spelling t) × (pieces ≡ pieces_of (f_text_pieces t)) × IsTrue (not (is_before_third t.quotes t.items rest))

abbrev pub Stands : Token → List ℕ → Type 0
Stands (token kind cs) rest = StandsAs kind cs rest

-- the text begins with this token, and with no longer one
pub record Longest (ts : List ℕ) (t : Token) (rest : List ℕ) : Type 0 where
  pub stands : Stands t rest
  pub spelled : ts ≡ spelling t ++ rest
  pub longest : (u : Token) (after : List ℕ) → Stands u after → ts ≡ spelling u ++ after → length (spelling u) ≤ length (spelling t)

-- no token begins there
abbrev pub NoToken : List ℕ → Type 0
NoToken ts = (u : Token) (after : List ℕ) → Stands u after → ts ≡ spelling u ++ after → ⊥
