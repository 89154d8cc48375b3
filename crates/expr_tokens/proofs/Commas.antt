-- A comma before what is put behind others.
use Rattle.std.proofs.Common.{◌∙◌, ap, arith, ℕ, List, [], ◌∷◌, ◌++◌, append_assoc}
use Rattle.lexical_form.specs.Tokens.{Token}
use Rattle.expr_tokens.specs.Adding.{Add, AddBefore}
use Rattle.expr_tokens.specs.Parts.{parts_tokens}
use Rattle.expr_tokens.specs.declared.part.Part.{Part}

pub with_comma : (old mid new : List Part) (comma : Token) (whole rest : List Token) (m n : ℕ)
    → Add old mid (comma ∷ []) 0 → AddBefore mid new whole rest m n → AddBefore old new (comma ∷ whole) rest m n
with_comma old mid new comma whole rest m n g h = record {
  tokens = h.tokens ∙ ap (λ ts. ts ++ whole) g.tokens ∙ append_assoc (parts_tokens old) (comma ∷ []) whole;
  depth = omega (arith, g.depth, h.depth);
}
