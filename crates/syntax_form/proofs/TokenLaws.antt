-- Tokens that are spelled as tokens: parts of lists of them, and tokens that stand before something.
use Rattle.std.proofs.Common.{◌≡◌, ℕ, Bool, true, false, List, [], ◌∷◌, ◌++◌, refl}
use Rattle.std.specs.Prelude.{not, ◌&&◌}
use Rattle.py_tree.specs.Names.{continues_name, is_spelled_name}
use Rattle.lexical_form.specs.Tokens as kind
use Rattle.lexical_form.specs.Tokens.{Token, token}
use Rattle.lexical_form.specs.Bytes.{is_empty, is_quote, starts}
use Rattle.lexical_form.specs.Numbers.{is_number}
use Rattle.lexical_form.specs.Texts.{Quotes, Text}
use Rattle.lexical_form.specs.Plain as plains
use Rattle.lexical_form.specs.Plain.{PlainKind, CanStandAs, is_prefix}
use Rattle.lexical_form.specs.FTexts.{FText}
use Rattle.lexical_form.specs.Longest.{Stands}
use Rattle.lexical_form.proofs.Basics.{and_left, both}
use Rattle.syntax_form.specs.SpelledTokens.{AreTokens}

pub tokens_before : (us vs : List Token) → AreTokens (us ++ vs) → AreTokens us
tokens_before [] vs h = tt
tokens_before (u ∷ us) vs h = (h.0, tokens_before us vs h.1)

pub tokens_behind : (us vs : List Token) → AreTokens (us ++ vs) → AreTokens vs
tokens_behind [] vs h = h
tokens_behind (u ∷ us) vs h = tokens_behind us vs h.1

pub tokens_joined : (us vs : List Token) → AreTokens us → AreTokens vs → AreTokens (us ++ vs)
tokens_joined [] vs h k = k
tokens_joined (u ∷ us) vs h k = (h.0, tokens_joined us vs h.1 k)

-- ---- what may stand before something may stand alone

pub never : (b : Bool) → not (b && false) ≡ true
never true = refl
never false = refl

pub alone_as : (k : PlainKind) (cs rest : List ℕ) → CanStandAs k cs rest → CanStandAs k cs []
alone_as plains.name cs rest h =
    let spelled = and_left (is_spelled_name cs) (not (starts continues_name rest)) (and_left (is_spelled_name cs && not (starts continues_name rest)) (not (is_prefix cs && starts is_quote rest)) h) in
    both (is_spelled_name cs && true) (not (is_prefix cs && false)) (both (is_spelled_name cs) true spelled refl) (never (is_prefix cs))
alone_as plains.number cs rest h = both (is_number cs) true (and_left (is_number cs) (not (starts continues_name rest)) h) refl
alone_as plains.text cs rest h = (h.0, h.1, h.2, never (not (Quotes.three (Text.quotes h.0)) && is_empty (Text.items h.0)))
alone_as plains.mark cs rest h = h

pub stands_alone : (t : Token) (rest : List ℕ) → Stands t rest → Stands t []
stands_alone (token kind.name cs) rest h = alone_as plains.name cs rest h
stands_alone (token kind.number cs) rest h = alone_as plains.number cs rest h
stands_alone (token kind.text cs) rest h = alone_as plains.text cs rest h
stands_alone (token kind.mark cs) rest h = h
stands_alone (token (kind.f_text ps) cs) rest h = (h.0, h.1, h.2, h.3, never (not (Quotes.three (FText.quotes h.0)) && is_empty (FText.items h.0)))
