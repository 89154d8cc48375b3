-- A field's tokens, one after the other.
use Rattle.std.specs.Prelude.{ℕ, cond, List, [], ◌∷◌, ◌++◌, map, reverse, Option, Some, None}
use Rattle.lexical_form.specs.Tokens as pure
use Rattle.py_tokens.specs.TokenView.{view_token}
use Rattle.lexical_form.specs.Reading.{Read}
use Rattle.lexical_form.specs.Brackets.{open_after}
use Rattle.lexical_form.specs.PlainReader.{next_plain}
use Rattle.lexical_form.specs.TokenReader.{some_plain}
use Rattle.lexical_form.specs.Fields.{FieldItem, plain_token, blank, is_blank, may_come}
use Rattle.lexical_form.specs.FieldReader.{field_item_at}
use Rattle.lexical_form.specs.FTexts.{token_of}
use Rattle.py_lines.specs.declared.fields.Inside.{Inside}

-- the brackets that are open, the innermost first, and the tokens so far
abbrev pub inside : Inside → List ℕ × List pure.Token
inside s = (reverse s.stack.items, map view_token s.tokens.items)

abbrev pub item_after : List ℕ × List pure.Token → FieldItem → List ℕ × List pure.Token
item_after s (plain_token t) = (open_after s.0 t.spelling, s.1 ++ token_of t ∷ [])
item_after s (blank c) = s

abbrev pub item_stepped : List ℕ × List pure.Token → Read FieldItem → (List ℕ × List pure.Token) × Option (List ℕ)
item_stepped s None = (s, None)
item_stepped s (Some p) = (item_after s p.0, Some p.1)

abbrev pub item_step : List ℕ × List pure.Token → List ℕ → (List ℕ × List pure.Token) × Option (List ℕ)
item_step s ts = item_stepped s (field_item_at s.0 ts)

-- the same, by the first byte
abbrev pub token_stepped : List ℕ × List pure.Token → Option (pure.Token × List ℕ) → (List ℕ × List pure.Token) × Option (List ℕ)
token_stepped s None = (s, None)
token_stepped s (Some p) =
    cond {A = (List ℕ × List pure.Token) × Option (List ℕ)} (may_come s.0 (pure.spelling p.0)) ((open_after s.0 (pure.spelling p.0), s.1 ++ p.0 ∷ []), Some p.1) (s, None)

abbrev pub step_says : List ℕ × List pure.Token → List ℕ → (List ℕ × List pure.Token) × Option (List ℕ)
step_says s [] = (s, None)
step_says s (c ∷ cs) =
    cond {A = (List ℕ × List pure.Token) × Option (List ℕ)} (is_blank c) (s, Some cs) (token_stepped s (some_plain (next_plain (c ∷ cs))))
