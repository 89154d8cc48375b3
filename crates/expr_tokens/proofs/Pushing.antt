-- A part behind others.
use Rattle.std.proofs.Common.{◌≡◌, max, arith, List, [], ◌∷◌, ◌++◌, append-nil, ap, ◌∙◌}
use Rattle.std.proofs.lemmas.Grind.{flat_map-append}
use Rattle.expr_tokens.specs.Parts.{part_tokens, part_depth, parts_tokens, parts_depth}
use Rattle.expr_tokens.specs.declared.part.Part.{Part}

pub tokens-pushed : (ps : List Part) (p : Part) → parts_tokens (ps ++ p ∷ []) ≡ parts_tokens ps ++ part_tokens p
tokens-pushed ps p = flat_map-append part_tokens ps (p ∷ []) ∙ ap (λ ts. parts_tokens ps ++ ts) (append-nil (part_tokens p))

pub depth-pushed : (ps : List Part) (p : Part) → parts_depth (ps ++ p ∷ []) ≡ max (parts_depth ps) (part_depth p)
depth-pushed [] p = omega arith
depth-pushed (q ∷ ps) p = rw (depth-pushed ps p) (omega arith)

pub ruleset pushed = (tokens-pushed, depth-pushed)
