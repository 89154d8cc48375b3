-- What parts that are put behind others add.
use Rattle.std.specs.Prelude.{◌≡◌, ℕ, max, List, ◌++◌}
use Rattle.lexical_form.specs.Tokens.{Token}
use Rattle.expr_tokens.specs.Parts.{parts_tokens, parts_depth}
use Rattle.expr_tokens.specs.declared.part.Part.{Part}

-- these tokens, and expressions of which the deepest has this depth
pub record Add (old new : List Part) (ts : List Token) (n : ℕ) : Type 0 where
  pub tokens : parts_tokens new ≡ parts_tokens old ++ ts
  pub depth : parts_depth new ≡ max (parts_depth old) n

-- what stands for the front of a list, given what stands for the rest of it
pub record AddBefore (old new : List Part) (whole rest : List Token) (m n : ℕ) : Type 0 where
  pub tokens : parts_tokens new ++ rest ≡ parts_tokens old ++ whole
  pub depth : max (parts_depth new) n ≡ max (parts_depth old) m
