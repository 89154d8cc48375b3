-- Cells that are listed are cells of the notebook.
use Rattle.std.proofs.Common.{◌≡◌, refl, subst, ℕ, zero, suc, ◌+◌, ◌≤◌, ◌<◌, Bool, true, false, cond, List, [], ◌∷◌, length, length-append, arith}
use Rattle.std.specs.Prelude.{All, Option, Some, None, find}
use Rattle.std.proofs.lemmas.List.Elements.{All-nil, All-cons, All-head, All-tail, All-append, All-filter}
use Rattle.py_tree.specs.Trees.{Cell}
use Rattle.graph_meaning.specs.Graph.{numbers_from, all_cells, parents, edge, next_cell, is_ready, with_next, places, order}

numbers_below : {X : Type 0} (n m : ℕ) (xs : List X) → m + length xs ≤ n → All (λ c. c < n) (numbers_from m xs)
numbers_below n m [] h = All-nil (λ c. c < n)
numbers_below n m (x ∷ xs) h = All-cons (λ c. c < n) m (numbers_from (m + 1) xs) (omega (arith, h)) (numbers_below n (m + 1) xs (omega (arith, h)))

cells_below : (nb : List Cell) → All (λ c. c < length nb) (all_cells nb)
cells_below nb = numbers_below (length nb) 0 nb (omega arith)

pub parents_below : (nb : List Cell) (c : ℕ) → All (λ p. p < length nb) (parents nb c)
parents_below nb c = All-filter (λ a. edge nb a c) (λ p. p < length nb) (all_cells nb) (cells_below nb)

found_more : (n : ℕ) (p : ℕ → Bool) (x c : ℕ) (xs : List ℕ) (b : Bool) → x < n → (find p xs ≡ Some c → c < n) → cond b (Some x) (find p xs) ≡ Some c → c < n
found_more n p x c xs true h rest e = let same : x ≡ c = cc in subst (λ m. m < n) same h
found_more n p x c xs false h rest e = rest e

found_below : (n : ℕ) (p : ℕ → Bool) (xs : List ℕ) (c : ℕ) → All (λ c. c < n) xs → find p xs ≡ Some c → c < n
found_below n p [] c h e = let no : None ≡ Some c = e in absurd cc
found_below n p (x ∷ xs) c h e =
    found_more n p x c xs (p x) (All-head (λ c. c < n) x xs h) (found_below n p xs c (All-tail (λ c. c < n) x xs h)) e

listed_below : (nb : List Cell) (listed : List ℕ) (o : Option ℕ) → next_cell nb listed ≡ o → All (λ c. c < length nb) listed → All (λ c. c < length nb) (with_next o listed)
listed_below nb listed None e h = h
listed_below nb listed (Some c) e h =
    All-append (λ c. c < length nb) listed (c ∷ []) h
    (All-cons (λ c. c < length nb) c [] (found_below (length nb) (is_ready nb listed) (all_cells nb) c (cells_below nb) e) (All-nil (λ c. c < length nb)))

pub places_below : (nb : List Cell) (k : ℕ) → All (λ c. c < length nb) (places nb k)
places_below nb zero = All-nil (λ c. c < length nb)
places_below nb (suc k) = listed_below nb (places nb k) (next_cell nb (places nb k)) refl (places_below nb k)

pub order_below : (nb : List Cell) → All (λ c. c < length nb) (order nb)
order_below nb = places_below nb (length nb)

next_length : (o : Option ℕ) (listed : List ℕ) → length (with_next o listed) ≤ length listed + 1
next_length None listed = omega arith
next_length (Some c) listed = omega (arith, length-append listed (c ∷ []))

places_length : (nb : List Cell) (k : ℕ) → length (places nb k) ≤ k
places_length nb zero = omega arith
places_length nb (suc k) = omega (arith, next_length (next_cell nb (places nb k)) (places nb k), places_length nb k)

-- there are no more places than cells
pub order_length : (nb : List Cell) → length (order nb) ≤ length nb
order_length nb = places_length nb (length nb)
