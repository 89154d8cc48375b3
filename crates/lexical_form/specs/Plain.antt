-- Tokens that hold no other tokens: names, numbers, texts and marks.
use Rattle.std.specs.Prelude.{◌≡◌, ℕ, ◌≤◌, Bool, not, ◌&&◌, ◌||◌, IsTrue, List, [], ◌∷◌, ◌++◌, codes, length}
use Rattle.py_tree.specs.Names.{continues_name, is_spelled_name, is_among}
use Rattle.lexical_form.specs.Bytes.{starts, is_quote}
use Rattle.lexical_form.specs.Marks.{is_mark}
use Rattle.lexical_form.specs.Numbers.{is_number}
use Rattle.lexical_form.specs.Texts.{Text, text_prefixes, is_text, text_spelling, is_before_third}

pub data PlainKind : Type 0 where
  name : PlainKind
  number : PlainKind
  text : PlainKind
  mark : PlainKind

pub record Plain : Type 0 where
  pub kind : PlainKind
  pub spelling : List ℕ

-- the prefixes of texts with fields (Python language reference, section 2.4.3)
abbrev pub f_text_prefixes : List (List ℕ)
f_text_prefixes =
    codes "f" ∷ codes "F" ∷ codes "fr" ∷ codes "fR" ∷ codes "Fr" ∷ codes "FR" ∷ codes "rf" ∷ codes "rF" ∷ codes "Rf" ∷ codes "RF" ∷ []

abbrev pub is_prefix : List ℕ → Bool
is_prefix cs = is_among cs text_prefixes || is_among cs f_text_prefixes

-- A name, directly before this text: it doesn't go on there, and the prefix of a text is no name where a quote follows.
abbrev pub can_be_name : List ℕ → List ℕ → Bool
can_be_name cs rest = is_spelled_name cs && not (starts continues_name rest) && not (is_prefix cs && starts is_quote rest)

-- The bytes are a token of this kind, which may stand directly before this text. A number has no letter, digit or `_` behind it; an empty
-- text of two quotes no third quote, since that opens a text of three.
abbrev pub CanStandAs : PlainKind → List ℕ → List ℕ → Type 0
CanStandAs name cs rest = IsTrue (can_be_name cs rest)
CanStandAs number cs rest = IsTrue (is_number cs && not (starts continues_name rest))
CanStandAs text cs rest = (t : Text) × IsTrue (is_text t) × (cs ≡ text_spelling t) × IsTrue (not (is_before_third t.quotes t.items rest))
CanStandAs mark cs rest = IsTrue (is_mark cs)

abbrev pub CanStand : Plain → List ℕ → Type 0
CanStand t rest = CanStandAs t.kind t.spelling rest

-- the text begins with this token, and with no longer one of these four kinds (Python language reference, section 2.2)
pub record LongestPlain (ts : List ℕ) (t : Plain) (rest : List ℕ) : Type 0 where
  pub stands : CanStand t rest
  pub spelled : ts ≡ t.spelling ++ rest
  pub longest : (u : Plain) (after : List ℕ) → CanStand u after → ts ≡ u.spelling ++ after → length u.spelling ≤ length t.spelling

-- no token of these kinds begins there
abbrev pub NoPlain : List ℕ → Type 0
NoPlain ts = (u : Plain) (after : List ℕ) → CanStand u after → ts ≡ u.spelling ++ after → ⊥
