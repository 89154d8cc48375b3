-- A name that wasn't met before comes last.
use Rattle.std.proofs.Common.{◌≡◌, ◌∙◌, refl, sym, ap, ℕ, ◌+◌, Bool, true, false, cond, not, nat_lt, List, [], ◌∷◌, ◌++◌, length, length-append, Some, None, arith}
use Rattle.std.specs.Prelude.{position}
use Rattle.std.specs.List.{list_any, position_or_len}
use Rattle.std.specs.Str.{bytes_eq}
use Rattle.std.proofs.lemmas.Bool.{or_parts}
use Rattle.std.proofs.lemmas.Bool.Decides.{nat_tests}
use Rattle.std.proofs.lemmas.Slice.Eq.{bytes_eq-Decides}
use Rattle.indexmap.specs.IndexSet.{insert_key}

module _ {X : Type 0} (p : X → Bool) where
  none_before : (xs : List X) → list_any p xs ≡ false → position_or_len p xs ≡ length xs
  none_before [] h = refl
  none_before (x ∷ xs) h =
      let o = or_parts (p x) (list_any p xs) h in
      let step : position_or_len p (x ∷ xs) ≡ 1 + position_or_len p xs = ap (λ b. cond (not b) (1 + position_or_len p xs) 0) o.0 in
      omega (arith, step, none_before xs o.1)

  last_place : (xs : List X) (y : X) → list_any p xs ≡ false → p y ≡ true → position_or_len p (xs ++ y ∷ []) ≡ length xs
  last_place [] y h k = ap (λ b. cond (not b) 1 0) k
  last_place (x ∷ xs) y h k =
      let o = or_parts (p x) (list_any p xs) h in
      let step : position_or_len p (x ∷ xs ++ y ∷ []) ≡ 1 + position_or_len p (xs ++ y ∷ []) = ap (λ b. cond (not b) (1 + position_or_len p (xs ++ y ∷ [])) 0) o.0 in
      omega (arith, step, last_place xs y o.1 k)

  placed_last : (xs : List X) (y : X) → list_any p xs ≡ false → p y ≡ true → position p (xs ++ y ∷ []) ≡ Some (position_or_len p xs)
  placed_last xs y h k =
      let here = last_place xs y h k in
      let long : length (xs ++ y ∷ []) ≡ length xs + 1 = length-append xs (y ∷ []) in
      let within : nat_lt (position_or_len p (xs ++ y ∷ [])) (length (xs ++ y ∷ [])) ≡ true = grind (arith, nat_tests, here, long) in
      ap (λ b. cond b (Some (position_or_len p (xs ++ y ∷ []))) None) within ∙ ap (λ n. Some n) (here ∙ sym (none_before xs h))

same : (name : List ℕ) → bytes_eq name name ≡ true
same name = (bytes_eq-Decides name name).1 refl

-- keys that are compared by their bytes
module _ {X : Type 0} (bytes : X → List ℕ) where
  pub is_added : (name : List ℕ) (keys : List X) (value : X) → bytes value ≡ name → list_any (λ k. bytes_eq name (bytes k)) keys ≡ false
      → insert_key (λ a b. bytes_eq (bytes a) (bytes b)) keys value ≡ keys ++ value ∷ []
  is_added name keys value e h =
      let none : list_any (λ k. bytes_eq (bytes value) (bytes k)) keys ≡ false = ap (λ (n : List ℕ). list_any (λ k. bytes_eq n (bytes k)) keys) e ∙ h in
      ap (λ b. cond b keys (keys ++ value ∷ [])) none

  pub is_placed : (name : List ℕ) (keys : List X) (value : X) → bytes value ≡ name → list_any (λ k. bytes_eq name (bytes k)) keys ≡ false
      → position (λ k. bytes_eq name (bytes k)) (keys ++ value ∷ []) ≡ Some (position_or_len (λ k. bytes_eq (bytes value) (bytes k)) keys)
  is_placed name keys value e h =
      placed_last (λ k. bytes_eq name (bytes k)) keys value h (ap (bytes_eq name) e ∙ same name)
      ∙ ap (λ (n : List ℕ). Some (position_or_len (λ k. bytes_eq n (bytes k)) keys)) (sym e)
