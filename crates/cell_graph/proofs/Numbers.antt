-- Lists of numbers one after the other, and sets of some of them.
use Rattle.std.proofs.Common.{◌≡◌, ℕ, ◌+◌, ◌<◌, ◌≤◌, Bool, true, false, cond, not, ◌&&◌, ◌||◌, ◌==◌, ⊎_elim, List, [], ◌∷◌, length, filter, find, Some, None, refl, sym, ap, ◌∙◌, arith}
use Rattle.std.specs.BTreeSet.{insert_key}
use Rattle.std.specs.Cmp.{nat_cmp_is}
use Rattle.std.specs.Ordering.{nat_cmp, match_ordering}
use Rattle.std.specs.declared.cmp.Ordering.TheVariants.{Less, Equal, Greater}
use Rattle.std.proofs.lemmas.Bool.{both_ways, cases_Bool, cases_eq, eq-eqb, ne_eqb, and_left, and_right}
use Rattle.graph_meaning.specs.Graph.{numbers_from}

-- as many numbers for lists of the same length
pub numbers_alike : {X Y : Type 0} (n : ℕ) (xs : List X) (ys : List Y) → length xs ≡ length ys → numbers_from n xs ≡ numbers_from n ys
numbers_alike n [] [] h = refl
numbers_alike n [] (y ∷ ys) h = absurd (omega arith)
numbers_alike n (x ∷ xs) [] h = absurd (omega arith)
numbers_alike n (x ∷ xs) (y ∷ ys) h = ap (λ rest. n ∷ rest) (numbers_alike (n + 1) xs ys (omega arith))

-- a test that differs below the numbers alone
past : {X : Type 0} (p : ℕ → Bool) (k n : ℕ) (xs : List X) → k < n → filter (λ d. p d || (d == k)) (numbers_from n xs) ≡ filter p (numbers_from n xs)
past p k n [] h = refl
past p k n (x ∷ xs) h = by (p n) (n == k) (ne_eqb n k (λ e. omega arith)) (past p k (n + 1) xs (omega arith))
  where
    by : (b e : Bool) → e ≡ false → filter (λ d. p d || (d == k)) (numbers_from (n + 1) xs) ≡ filter p (numbers_from (n + 1) xs)
        → cond (b || e) (n ∷ filter (λ d. p d || (d == k)) (numbers_from (n + 1) xs)) (filter (λ d. p d || (d == k)) (numbers_from (n + 1) xs))
        ≡ cond b (n ∷ filter p (numbers_from (n + 1) xs)) (filter p (numbers_from (n + 1) xs))
    by true e off rest = ap (λ ks. n ∷ ks) rest
    by false true off rest = absurd (both_ways true off refl)
    by false false off rest = rest

less : (k n : ℕ) → k < n → nat_cmp k n ≡ Less
less k n h = sym (nat_cmp_is k n Less h)

greater : (k n : ℕ) → n < k → nat_cmp k n ≡ Greater
greater k n h = sym (nat_cmp_is k n Greater h)

same : (k n : ℕ) → k ≡ n → nat_cmp k n ≡ Equal
same k n h = sym (nat_cmp_is k n Equal h)

-- a number below all goes first
first : {X : Type 0} (p : ℕ → Bool) (k n : ℕ) (xs : List X) → k < n
    → insert_key nat_cmp (filter p (numbers_from n xs)) k ≡ k ∷ filter p (numbers_from n xs)
first p k n [] h = refl
first p k n (x ∷ xs) h = by (p n) (first p k (n + 1) xs (omega arith))
  where
    by : (b : Bool) → insert_key nat_cmp (filter p (numbers_from (n + 1) xs)) k ≡ k ∷ filter p (numbers_from (n + 1) xs)
        → insert_key nat_cmp (cond b (n ∷ filter p (numbers_from (n + 1) xs)) (filter p (numbers_from (n + 1) xs))) k
        ≡ k ∷ cond b (n ∷ filter p (numbers_from (n + 1) xs)) (filter p (numbers_from (n + 1) xs))
    by true rest = ap (λ o. match_ordering o (k ∷ n ∷ filter p (numbers_from (n + 1) xs)) (n ∷ filter p (numbers_from (n + 1) xs)) (n ∷ insert_key nat_cmp (filter p (numbers_from (n + 1) xs)) k)) (less k n h)
    by false rest = rest

-- a number added to a set of some of the numbers
pub inserted : {X : Type 0} (p : ℕ → Bool) (k n : ℕ) (xs : List X) → n ≤ k → k < n + length xs
    → insert_key nat_cmp (filter p (numbers_from n xs)) k ≡ filter (λ d. p d || (d == k)) (numbers_from n xs)
inserted p k n [] low high = absurd (omega arith)
inserted p k n (x ∷ xs) low high = ⊎_elim
    (λ e. here (p n) (n == k) (eq-eqb n k e) (past p k (n + 1) xs (omega (arith, e))) (first p k (n + 1) xs (omega (arith, e))) (same k n (sym e)) e)
    (λ ne. later (p n) (n == k) (ne_eqb n k ne) (inserted p k (n + 1) xs (omega (arith, ne)) (omega arith)) (greater k n (omega (arith, ne))))
    (cases_eq n k)
  where
    rest : List ℕ
    rest = filter p (numbers_from (n + 1) xs)

    more : List ℕ
    more = filter (λ d. p d || (d == k)) (numbers_from (n + 1) xs)

    here : (b e : Bool) → e ≡ true → more ≡ rest → insert_key nat_cmp rest k ≡ k ∷ rest → nat_cmp k n ≡ Equal → n ≡ k
        → insert_key nat_cmp (cond b (n ∷ rest) rest) k ≡ cond (b || e) (n ∷ more) more
    here true e on same_rest front tie at = ap (λ o. match_ordering o (k ∷ n ∷ rest) (n ∷ rest) (n ∷ insert_key nat_cmp rest k)) tie ∙ ap (λ ks. n ∷ ks) (sym same_rest)
    here false e on same_rest front tie at = front ∙ sym (λ i. at i ∷ same_rest i) ∙ ap (λ c. cond c (n ∷ more) more) (sym on)

    later : (b e : Bool) → e ≡ false → insert_key nat_cmp rest k ≡ more → nat_cmp k n ≡ Greater
        → insert_key nat_cmp (cond b (n ∷ rest) rest) k ≡ cond (b || e) (n ∷ more) more
    later true e off put above = ap (λ o. match_ordering o (k ∷ n ∷ rest) (n ∷ rest) (n ∷ insert_key nat_cmp rest k)) above ∙ ap (λ ks. n ∷ ks) put
    later false e off put above = put ∙ ap (λ c. cond c (n ∷ more) more) (sym off)

-- no number passes a test that is always false
pub none_pass : (p : ℕ → Bool) → ((d : ℕ) → p d ≡ false) → (cs : List ℕ) → filter p cs ≡ []
none_pass p h [] = refl
none_pass p h (c ∷ cs) = ap (λ b. cond b (c ∷ filter p cs) (filter p cs)) (h c) ∙ none_pass p h cs

-- tests that agree on the numbers
pub filter_within : {X : Type 0} (f g : ℕ → Bool) (n : ℕ) (xs : List X) → ((d : ℕ) → n ≤ d → d < n + length xs → f d ≡ g d)
    → filter f (numbers_from n xs) ≡ filter g (numbers_from n xs)
filter_within f g n [] h = refl
filter_within f g n (x ∷ xs) h =
    let rest = filter_within f g (n + 1) xs (λ d low high. h d (omega arith) (omega arith)) in
    λ i. cond (h n (omega arith) (omega arith) i) (n ∷ rest i) (rest i)

pub find_within : {X : Type 0} (f g : ℕ → Bool) (n : ℕ) (xs : List X) → ((d : ℕ) → n ≤ d → d < n + length xs → f d ≡ g d)
    → find f (numbers_from n xs) ≡ find g (numbers_from n xs)
find_within f g n [] h = refl
find_within f g n (x ∷ xs) h =
    let rest = find_within f g (n + 1) xs (λ d low high. h d (omega arith) (omega arith)) in
    λ i. cond (h n (omega arith) (omega arith) i) (Some n) (rest i)

-- the first number of a set of some of the numbers, and the set without it
pub record Popped {X : Type 0} (p : ℕ → Bool) (n : ℕ) (xs : List X) (c : ℕ) (rest : List ℕ) : Type 0 where
  pub found : find p (numbers_from n xs) ≡ Some c
  pub passes : p c ≡ true
  pub low : n ≤ c
  pub high : c < n + length xs
  pub others : rest ≡ filter (λ d. p d && not (d == c)) (numbers_from n xs)

-- without a number below all
without_below : {X : Type 0} (p : ℕ → Bool) (c n : ℕ) (xs : List X) → c < n
    → filter p (numbers_from n xs) ≡ filter (λ d. p d && not (d == c)) (numbers_from n xs)
without_below p c n xs h = filter_within p (λ d. p d && not (d == c)) n xs (λ d low high. apart (p d) (d == c) (ne_eqb d c (λ e. omega arith)))
  where
    apart : (b e : Bool) → e ≡ false → b ≡ (b && not e)
    apart true true off = off
    apart true false off = refl
    apart false e off = refl

pub popped : {X : Type 0} (p : ℕ → Bool) (n : ℕ) (xs : List X) (c : ℕ) (rest : List ℕ) → filter p (numbers_from n xs) ≡ c ∷ rest → Popped p n xs c rest
popped p n [] c rest h = let bad : [] ≡ c ∷ rest = h in absurd cc
popped p n (x ∷ xs) c rest h = ⊎_elim
    (λ on.
    let e : n ∷ filter p (numbers_from (n + 1) xs) ≡ c ∷ rest = sym (ap (λ b. cond b (n ∷ filter p (numbers_from (n + 1) xs)) (filter p (numbers_from (n + 1) xs))) on) ∙ h in
    let same : n ≡ c = cc in
    let tail : filter p (numbers_from (n + 1) xs) ≡ rest = cc in
    let itself : (p n && not (n == c)) ≡ false = ap (λ b. p n && not b) (eq-eqb n c same) ∙ and_right (p n) false refl in
    record {
      found = ap (λ b. cond b (Some n) (find p (numbers_from (n + 1) xs))) on ∙ ap Some same;
      passes = sym (ap p same) ∙ on;
      low = omega arith;
      high = omega arith;
      others = sym tail ∙ without_below p c (n + 1) xs (omega arith)
          ∙ sym (ap (λ b. cond b (n ∷ filter (λ d. p d && not (d == c)) (numbers_from (n + 1) xs)) (filter (λ d. p d && not (d == c)) (numbers_from (n + 1) xs))) itself);
    })
    (λ off.
    let e : filter p (numbers_from (n + 1) xs) ≡ c ∷ rest = sym (ap (λ b. cond b (n ∷ filter p (numbers_from (n + 1) xs)) (filter p (numbers_from (n + 1) xs))) off) ∙ h in
    let later = popped p (n + 1) xs c rest e in
    let fails : (p n && not (n == c)) ≡ false = and_left (p n) _ off in
    record {
      found = ap (λ b. cond b (Some n) (find p (numbers_from (n + 1) xs))) off ∙ later.found;
      passes = later.passes;
      low = omega (arith, later.low);
      high = omega (arith, later.high);
      others = later.others ∙ sym (ap (λ b. cond b (n ∷ filter (λ d. p d && not (d == c)) (numbers_from (n + 1) xs)) (filter (λ d. p d && not (d == c)) (numbers_from (n + 1) xs))) fails);
    })
    (cases_Bool (p n))

-- where none of the numbers passes, none is found
pub none_popped : (p : ℕ → Bool) (cs : List ℕ) → filter p cs ≡ [] → find p cs ≡ None
none_popped p [] h = refl
none_popped p (c ∷ cs) h = ⊎_elim
    (λ on. let bad : c ∷ filter p cs ≡ [] = sym (ap (λ b. cond b (c ∷ filter p cs) (filter p cs)) on) ∙ h in absurd cc)
    (λ off. ap (λ b. cond b (Some c) (find p cs)) off ∙ none_popped p cs (sym (ap (λ b. cond b (c ∷ filter p cs) (filter p cs)) off) ∙ h))
    (cases_Bool (p c))
