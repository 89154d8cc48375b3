-- The line is that of the name and its cells.
use Rattle.std.proofs.Common.{◌≡◌, IfOk, List, ℕ, string_bytes, codes, decimal, ◌++◌, refl, subst}
use Rattle.std.proofs.lemmas.List.{append_assoc}
use Rattle.program_meaning.specs.Program.{Doubly, refusal_text}
use Rattle.nbserve.proofs.refusal.doubly_text.Goals as goal

pub returns : goal.returns
returns c =
    let text : List ℕ = codes "refused doubly " ++ (c.args.name.now ++ (codes " " ++ (decimal c.args.first ++ (codes " " ++ (decimal c.args.second ++ codes "\n"))))) in
    let same : text ≡ refusal_text (Doubly c.args.name.now c.args.first c.args.second) = simp (append_assoc) refl in
    subst (λ (t : List ℕ). IfOk c.format.result (λ s. string_bytes s ≡ t)) same c.format.ensures.ok
