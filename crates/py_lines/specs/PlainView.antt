-- Tokens that hold no other tokens, as the code gives them.
use Rattle.std.specs.Prelude.{ℕ, List, Option, Some, None}
use Rattle.std.specs.Borrow.{Bor}
use Rattle.lexical_form.specs.Plain.{Plain}
use Rattle.lexical_form.specs.Reading.{Read}
use Rattle.py_lexer.specs.Views.{plain_kind}
use Rattle.py_lexer.specs.declared.plain.PlainKind.{PlainKind}

abbrev pub plain_of : PlainKind → List ℕ → Plain
plain_of kind spelling = record { kind = plain_kind kind; spelling = spelling }

-- a token and what is behind it
abbrev pub seen_plain : Option (PlainKind × Bor (List ℕ) × Bor (List ℕ)) → Read Plain
seen_plain None = None
seen_plain (Some p) = Some (plain_of p.0 p.1.now, p.2.now)
