-- Words with a `=` after the first.
use Rattle.std.proofs.Common.{◌≡◌, ℕ, ◌<◌, List, [], ◌∷◌, length, Option, Some, refl, arith}
use Rattle.std.specs.Prelude.{codes}
use Rattle.std.proofs.lemmas.Option.{some_pair_parts}
use Rattle.std.proofs.lemmas.Slice.Eq.{bytes_eq-Decides}
use Rattle.thin_form.specs.Words.{target}
use Rattle.thin_form.proofs.Options.{cond_ok}

-- the words after a `=`
pub target-assign : (x : List ℕ) (rest : List (List ℕ)) → 0 < length rest → ◌≡◌ {A = Option (List ℕ × List (List ℕ))} (target (x ∷ codes "=" ∷ rest)) (Some (x, rest))
target-assign x [] l = absurd (omega arith)
target-assign x (next ∷ rest) l = refl

pub target_found : (ws : List (List ℕ)) (x : List ℕ) (rest : List (List ℕ)) → target ws ≡ Some (x, rest) → (ws ≡ x ∷ codes "=" ∷ rest) × (0 < length rest)
target_found [] x rest e = absurd (cc)
target_found (word ∷ []) x rest e = absurd (cc)
target_found (word ∷ mark ∷ []) x rest e = absurd (cc)
target_found (word ∷ mark ∷ next ∷ more) x rest e =
    let taken = cond_ok _ _ _ e in
    let equals = (bytes_eq-Decides mark (codes "=")).0 taken.0 in
    let parts = some_pair_parts _ _ _ _ taken.1 in
    (cc, rw (← parts.1) (omega arith))
