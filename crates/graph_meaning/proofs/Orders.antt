-- The order has as many cells as the notebook just where no cell lies on a cycle.
use Rattle.std.proofs.Common.{◌≡◌, ℕ, zero, suc, ◌+◌, ◌<◌, ◌≤◌, Bool, true, false, not, ◌||◌, ◌==◌, eqb, ◌⊎◌, inl, inr, ⊎_elim, List, [], ◌∷◌, ◌++◌, length, filter, find, Option, Some, None, refl, sym, ap, ◌∙◌, subst, arith}
use Rattle.std.specs.List.{list_any, list_all, AllByRecursion, IsDistinct}
use Rattle.std.specs.Cmp.{nat_eq_equiv}
use Rattle.std.proofs.lemmas.Bool.{cases_Bool, cases_eq, eq-eqb, eqb-true, and_parts, and_cases, or_cases, or_left, or_parts, or_right, cases_lt, not-true, not_from_false, both_ways}
use Rattle.std.proofs.lemmas.List.Folds.{list_any-append}
use Rattle.std.proofs.lemmas.List.{length_push}
use Rattle.std.proofs.lemmas.Map.Keys.{IsDistinct-push}
use Rattle.std.proofs.lemmas.Map.Steps.{length-le_from_distinct_below, le-length_from_below}
use Rattle.std.proofs.lemmas.Option.{slice_get_past}
use Rattle.py_tree.specs.Names.{Name, is_among}
use Rattle.py_tree.specs.Scope.{defs, refs}
use Rattle.py_tree.specs.Trees.{Cell}
use Rattle.graph_meaning.specs.Graph.{names_at, defs_of, refs_of, edge, numbers_from, all_cells, is_in, IsPath, LiesOnCycle, is_ready, next_cell, with_next, places, order, NoneCyclic}

-- ---- numbers in lists

-- the two ways to test whether a number is in a list
pub same_test : (c : ℕ) (cs : List ℕ) → list_any (eqb c) cs ≡ is_in c cs
same_test c [] = refl
same_test c (d ∷ ds) = ap (λ b. b || list_any (eqb c) ds) (nat_eq_equiv.symm c d) ∙ ap (λ b. eqb d c || b) (same_test c ds)

numbered : {X : Type 0} (n : ℕ) (xs : List X) (c : ℕ) → n ≤ c → c < n + length xs → is_in c (numbers_from n xs) ≡ true
numbered n [] c low high = absurd (omega arith)
numbered n (x ∷ xs) c low high = ⊎_elim
    (λ same. or_left (n == c) _ (eq-eqb n c same))
    (λ apart. or_right (n == c) _ (numbered (n + 1) xs c (omega arith) (omega arith)))
    (cases_eq n c)

numbers_below : {X : Type 0} (n : ℕ) (xs : List X) (c : ℕ) → is_in c (numbers_from n xs) ≡ true → c < n + length xs
numbers_below n [] c h = absurd (both_ways false refl h)
numbers_below n (x ∷ xs) c h = ⊎_elim
    (λ same. let e = eqb-true n c same in omega arith)
    (λ later. let below = numbers_below (n + 1) xs c later in omega arith)
    (or_cases (n == c) _ h)

pub in_more : (c d : ℕ) (cs : List ℕ) → is_in c cs ≡ true → is_in c (cs ++ d ∷ []) ≡ true
in_more c d cs h = list_any-append (λ x. x == c) cs (d ∷ []) ∙ or_left _ _ h

-- what is in a list with one more number
pub in_more_cases : (c d : ℕ) (cs : List ℕ) → is_in c (cs ++ d ∷ []) ≡ true → (is_in c cs ≡ true) ⊎ (d ≡ c)
in_more_cases c d cs h = ⊎_elim
    (λ front. inl front)
    (λ back. ⊎_elim (λ same. inr (eqb-true d c same)) (λ no. absurd (both_ways false refl no)) (or_cases (d == c) false back))
    (or_cases _ _ (sym (list_any-append (λ x. x == c) cs (d ∷ [])) ∙ h))

-- ---- the first number that passes a test

found : (p : ℕ → Bool) (cs : List ℕ) (c : ℕ) → find p cs ≡ Some c → (p c ≡ true) × (is_in c cs ≡ true)
found p [] c e = let bad : None ≡ Some c = e in absurd cc
found p (d ∷ ds) c e = ⊎_elim
    (λ yes. let first : Some d ≡ Some c = rw yes at e in let same : d ≡ c = cc in (sym (ap p same) ∙ yes, or_left (d == c) _ (eq-eqb d c same)))
    (λ no. let rest = found p ds c (rw no at e) in (rest.0, or_right (d == c) _ rest.1))
    (cases_Bool (p d))

none_found : (p : ℕ → Bool) (cs : List ℕ) (c : ℕ) → find p cs ≡ None → is_in c cs ≡ true → p c ≡ false
none_found p [] c e h = absurd (both_ways false refl h)
none_found p (d ∷ ds) c e h = ⊎_elim
    (λ yes. let bad : Some d ≡ None = rw yes at e in absurd cc)
    (λ no. ⊎_elim (λ same. sym (ap p (eqb-true d c same)) ∙ no) (λ later. none_found p ds c (rw no at e) later) (or_cases (d == c) _ h))
    (cases_Bool (p d))

-- ---- tests of the numbers that a filter keeps

all_kept : (p q : ℕ → Bool) (cs : List ℕ) (c : ℕ) → list_all q (filter p cs) ≡ true → is_in c cs ≡ true → p c ≡ true
    → q c ≡ true
all_kept p q [] c all h kept = absurd (both_ways false refl h)
all_kept p q (d ∷ ds) c all h kept = ⊎_elim
    (λ yes.
    let parts = and_parts (q d) (list_all q (filter p ds)) (rw yes at all) in
    ⊎_elim (λ same. sym (ap q (eqb-true d c same)) ∙ parts.0) (λ later. all_kept p q ds c parts.1 later kept) (or_cases (d == c) _ h))
    (λ no.
    ⊎_elim (λ same. absurd (both_ways (p d) no (ap p (eqb-true d c same) ∙ kept))) (λ later. all_kept p q ds c (rw no at all) later kept) (or_cases (d == c) _ h))
    (cases_Bool (p d))

-- a number that the filter keeps, and that fails the test
pub record Failing (p q : ℕ → Bool) (cs : List ℕ) : Type 0 where
  pub at : ℕ
  pub within : is_in at cs ≡ true
  pub kept : p at ≡ true
  pub fails : q at ≡ false

later_failing : (p q : ℕ → Bool) (d : ℕ) (ds : List ℕ) → Failing p q ds → Failing p q (d ∷ ds)
later_failing p q d ds f = record { at = f.at; within = or_right (d == f.at) _ f.within; kept = f.kept; fails = f.fails }

one_fails : (p q : ℕ → Bool) (cs : List ℕ) → list_all q (filter p cs) ≡ false → Failing p q cs
one_fails p q [] h = absurd (both_ways true h refl)
one_fails p q (d ∷ ds) h = ⊎_elim
    (λ yes.
    ⊎_elim
    (λ here. record { at = d; within = or_left (d == d) _ (eq-eqb d d refl); kept = yes; fails = here })
    (λ rest. later_failing p q d ds (one_fails p q ds rest))
    (and_cases (q d) (list_all q (filter p ds)) (rw yes at h)))
    (λ no. later_failing p q d ds (one_fails p q ds (rw no at h)))
    (cases_Bool (p d))

-- ---- edges and cells that are ready

none_among : (names : List Name) → list_any (λ x. is_among x []) names ≡ false
none_among [] = refl
none_among (x ∷ xs) = none_among xs

-- an edge begins at a cell
pub from_cell : (nb : List Cell) (a b : ℕ) → edge nb a b ≡ true → a < length nb
from_cell nb a b h = ⊎_elim
    (λ below. below)
    (λ past.
    let none : defs_of nb a ≡ [] = ap (names_at defs) (slice_get_past nb a past) in
    let bad : edge nb a b ≡ false = ap (λ ds. list_any (λ x. is_among x ds) (refs_of nb b)) none ∙ none_among (refs_of nb b) in
    absurd (both_ways _ bad h))
    (cases_lt a (length nb))

-- an edge ends at a cell
pub to_cell : (nb : List Cell) (a b : ℕ) → edge nb a b ≡ true → b < length nb
to_cell nb a b h = ⊎_elim
    (λ below. below)
    (λ past.
    let none : refs_of nb b ≡ [] = ap (names_at refs) (slice_get_past nb b past) in
    let bad : edge nb a b ≡ false = ap (list_any (λ x. is_among x (defs_of nb a))) none in
    absurd (both_ways _ bad h))
    (cases_lt b (length nb))

path_below : (nb : List Cell) (a : ℕ) (between : List ℕ) (c : ℕ) → IsPath nb (a ∷ between ++ c ∷ []) → a < length nb
path_below nb a [] c path = from_cell nb a c path.0
path_below nb a (b ∷ bs) c path = from_cell nb a b path.0

-- what lies on a cycle is a cell
pub on_cycle_below : (nb : List Cell) (c : ℕ) → LiesOnCycle nb c → c < length nb
on_cycle_below nb c cycle = path_below nb c cycle.0 c cycle.1

pub is_cell_number : (nb : List Cell) (c : ℕ) → c < length nb → is_in c (all_cells nb) ≡ true
is_cell_number nb c h = numbered 0 nb c (omega arith) (omega arith)

pub cell_number_below : (nb : List Cell) (c : ℕ) → is_in c (all_cells nb) ≡ true → c < length nb
cell_number_below nb c h = let below = numbers_below 0 nb c h in omega arith

-- each parent of a cell that is ready is listed
pub parent_listed : (nb : List Cell) (listed : List ℕ) (a b : ℕ) → is_ready nb listed b ≡ true → edge nb a b ≡ true
    → is_in a listed ≡ true
parent_listed nb listed a b ready e =
    let parts = and_parts (not (is_in b listed)) _ ready in
    all_kept (λ p. edge nb p b) (λ p. is_in p listed) (all_cells nb) a parts.1 (is_cell_number nb a (from_cell nb a b e)) e

-- a cell that isn't listed and isn't ready has a parent that isn't listed
parent_unlisted : (nb : List Cell) (listed : List ℕ) (b : ℕ) → is_ready nb listed b ≡ false → is_in b listed ≡ false
    → Failing (λ p. edge nb p b) (λ p. is_in p listed) (all_cells nb)
parent_unlisted nb listed b unready absent = ⊎_elim
    (λ listed_after. absurd (both_ways _ listed_after (not_from_false _ absent)))
    (λ some. one_fails _ _ (all_cells nb) some)
    (and_cases (not (is_in b listed)) _ unready)

-- ---- the first places

-- the cell found for the next place, where there is one
pub next_found : (nb : List Cell) (listed : List ℕ) (c : ℕ) → next_cell nb listed ≡ Some c
    → (is_ready nb listed c ≡ true) × (c < length nb)
next_found nb listed c e =
    let f = found (is_ready nb listed) (all_cells nb) c e in
    (f.0, cell_number_below nb c f.1)

kept_by : (o : Option ℕ) (listed : List ℕ) (c : ℕ) → is_in c listed ≡ true → is_in c (with_next o listed) ≡ true
kept_by None listed c h = h
kept_by (Some d) listed c h = in_more c d listed h

kept_next : (nb : List Cell) (k c : ℕ) → is_in c (places nb k) ≡ true → is_in c (places nb (suc k)) ≡ true
kept_next nb k c h = kept_by (next_cell nb (places nb k)) (places nb k) c h

listed_by : (nb : List Cell) (listed : List ℕ) (o : Option ℕ) (c : ℕ) → next_cell nb listed ≡ o
    → is_in c (with_next o listed) ≡ true → (is_in c listed ≡ true) ⊎ ((is_ready nb listed c ≡ true) × (c < length nb))
listed_by nb listed None c e h = inl h
listed_by nb listed (Some d) c e h = ⊎_elim
    (λ before. inl before)
    (λ same. inr (next_found nb listed c (e ∙ ap Some same)))
    (in_more_cases c d listed h)

-- a cell of the first k + 1 places stands in the first k, or was ready then
listed_next : (nb : List Cell) (k c : ℕ) → is_in c (places nb (suc k)) ≡ true
    → (is_in c (places nb k) ≡ true) ⊎ ((is_ready nb (places nb k) c ≡ true) × (c < length nb))
listed_next nb k c h = listed_by nb (places nb k) (next_cell nb (places nb k)) c refl h

pub places_below : (nb : List Cell) (k c : ℕ) → is_in c (places nb k) ≡ true → c < length nb
places_below nb zero c h = absurd (both_ways false refl h)
places_below nb (suc k) c h = ⊎_elim (places_below nb k c) (λ ready. ready.1) (listed_next nb k c h)

distinct_by : (nb : List Cell) (listed : List ℕ) (o : Option ℕ) → next_cell nb listed ≡ o → IsDistinct eqb listed
    → IsDistinct eqb (with_next o listed)
distinct_by nb listed None e d = d
distinct_by nb listed (Some c) e d =
    let absent = not-true _ (and_parts (not (is_in c listed)) _ (next_found nb listed c e).0).0 in
    IsDistinct-push nat_eq_equiv listed c d (same_test c listed ∙ absent)

pub places_distinct : (nb : List Cell) (k : ℕ) → IsDistinct eqb (places nb k)
unfolding IsDistinct
places_distinct nb zero = tt
places_distinct nb (suc k) = distinct_by nb (places nb k) (next_cell nb (places nb k)) refl (places_distinct nb k)

-- ---- the order lists no cell of a cycle

-- a parent of one of the first k + 1 cells is one of the first k
pub step_back : (nb : List Cell) (k a b : ℕ) → edge nb a b ≡ true → is_in b (places nb (suc k)) ≡ true
    → is_in a (places nb k) ≡ true
step_back nb zero a b e h = ⊎_elim
    (λ before. absurd (both_ways false refl before))
    (λ ready. parent_listed nb [] a b ready.0 e)
    (listed_next nb zero b h)
step_back nb (suc k) a b e h = ⊎_elim
    (λ before. kept_next nb k a (step_back nb k a b e before))
    (λ ready. parent_listed nb (places nb (suc k)) a b ready.0 e)
    (listed_next nb (suc k) b h)

-- a path that ends in the first k + 1 places begins in the first k
path_back : (nb : List Cell) (k a : ℕ) (between : List ℕ) (c : ℕ) → IsPath nb (a ∷ between ++ c ∷ [])
    → is_in c (places nb (suc k)) ≡ true → is_in a (places nb k) ≡ true
path_back nb k a [] c path h = step_back nb k a c path.0 h
path_back nb k a (b ∷ bs) c path h = step_back nb k a b path.0 (kept_next nb k b (path_back nb k b bs c path.1 h))

pub not_on_cycle : (nb : List Cell) (k c : ℕ) → is_in c (places nb k) ≡ true → LiesOnCycle nb c → ⊥
not_on_cycle nb zero c h cycle = both_ways false refl h
not_on_cycle nb (suc k) c h cycle = not_on_cycle nb k c (path_back nb k c cycle.0 c cycle.1 h) cycle

-- where the order is full, each cell stands in it
pub all_listed : (nb : List Cell) (c : ℕ) → length (order nb) ≡ length nb → c < length nb → is_in c (order nb) ≡ true
all_listed nb c full below = ⊎_elim
    (λ yes. yes)
    (λ no.
    let more : IsDistinct eqb (order nb ++ c ∷ []) = IsDistinct-push nat_eq_equiv (order nb) c (places_distinct nb (length nb)) (same_test c (order nb) ∙ no) in
    let within : (q : ℕ) → list_any (eqb q) (order nb ++ c ∷ []) ≡ true → q < length nb =
    λ q h. ⊎_elim (places_below nb (length nb) q) (λ same. subst (λ (n : ℕ). n < length nb) same below) (in_more_cases q c (order nb) (sym (same_test q (order nb ++ c ∷ [])) ∙ h)) in
    let long = length-le_from_distinct_below (order nb ++ c ∷ []) (length nb) more within in
    let size = length_push (order nb) c in
    absurd (omega arith))
    (cases_Bool (is_in c (order nb)))

-- where the order has as many cells as the notebook, no cell lies on a cycle
pub full_is_free : (nb : List Cell) → length (order nb) ≡ length nb → NoneCyclic nb
full_is_free nb full c cycle = not_on_cycle nb (length nb) c (all_listed nb c full (on_cycle_below nb c cycle)) cycle

-- ---- a short order leaves a cell of a cycle

stuck_by : (nb : List Cell) (listed : List ℕ) (o : Option ℕ) → next_cell nb listed ≡ o
    → (length (with_next o listed) ≡ length listed + 1) ⊎ (next_cell nb (with_next o listed) ≡ None)
stuck_by nb listed None e = inr e
stuck_by nb listed (Some c) e = inl (length_push listed c)

still_stuck : (nb : List Cell) (listed : List ℕ) (o : Option ℕ) → next_cell nb listed ≡ None → next_cell nb listed ≡ o
    → next_cell nb (with_next o listed) ≡ None
still_stuck nb listed None e same = e
still_stuck nb listed (Some c) e same = let bad : None ≡ Some c = sym e ∙ same in absurd cc

-- the first k places are k cells, or no cell is ready after them
full_or_stuck : (nb : List Cell) (k : ℕ) → (length (places nb k) ≡ k) ⊎ (next_cell nb (places nb k) ≡ None)
full_or_stuck nb zero = inl refl
full_or_stuck nb (suc k) = ⊎_elim
    (λ full. ⊎_elim (λ more. inl (omega arith)) (λ stuck. inr stuck) (stuck_by nb (places nb k) (next_cell nb (places nb k)) refl))
    (λ stuck. inr (still_stuck nb (places nb k) (next_cell nb (places nb k)) stuck refl))
    (full_or_stuck nb k)

-- a path that leads to a cell leads to each cell in it
path_to : (nb : List Cell) (a : ℕ) (cs : List ℕ) (c : ℕ) → IsPath nb (a ∷ cs) → is_in c cs ≡ true
    → (between : List ℕ) × IsPath nb (a ∷ between ++ c ∷ [])
path_to nb a [] c path h = absurd (both_ways false refl h)
path_to nb a (d ∷ ds) c path h = ⊎_elim
    (λ same. ([], (subst (λ (n : ℕ). edge nb a n ≡ true) (eqb-true d c same) path.0, tt)))
    (λ later. let rest = path_to nb d ds c path.1 later in (d ∷ rest.0, (path.0, rest.1)))
    (or_cases (d == c) _ h)

-- so many cells, each of them once, joined by edges; the first one isn't listed
pub record Walk (nb : List Cell) (listed : List ℕ) (steps : ℕ) : Type 0 where
  pub first : ℕ
  pub rest : List ℕ
  pub long : length rest ≡ steps
  pub path : IsPath nb (first ∷ rest)
  pub once : IsDistinct eqb (first ∷ rest)
  pub below : (q : ℕ) → is_in q (first ∷ rest) ≡ true → q < length nb
  pub unlisted : is_in first listed ≡ false

apart_from : (c : ℕ) (cs : List ℕ) → is_in c cs ≡ false → AllByRecursion (λ d. eqb c d ≡ false) cs
apart_from c [] h = tt
apart_from c (d ∷ ds) h = let parts = or_parts (d == c) _ h in (nat_eq_equiv.symm c d ∙ parts.0, apart_from c ds parts.1)

lone_cell : (nb : List Cell) (listed : List ℕ) (c : ℕ) → c < length nb → is_in c listed ≡ false → Walk nb listed 0
unfolding IsDistinct
lone_cell nb listed c below absent = record {
  first = c;
  rest = [];
  long = refl;
  path = tt;
  once = (tt, tt);
  below = λ q h. ⊎_elim (λ same. subst (λ (n : ℕ). n < length nb) (eqb-true c q same) below) (λ no. absurd (both_ways false refl no)) (or_cases (c == q) false h);
  unlisted = absent;
}

-- a walk, with a parent of its first cell before it
longer : (nb : List Cell) (listed : List ℕ) (steps p : ℕ) (w : Walk nb listed steps) → edge nb p w.first ≡ true
    → is_in p listed ≡ false → is_in p (w.first ∷ w.rest) ≡ false → Walk nb listed (suc steps)
unfolding IsDistinct
longer nb listed steps p w e absent new = record {
  first = p;
  rest = w.first ∷ w.rest;
  long = ap suc w.long;
  path = (e, w.path);
  once = (apart_from p (w.first ∷ w.rest) new, w.once);
  below = λ q h. ⊎_elim (λ same. subst (λ (n : ℕ). n < length nb) (eqb-true p q same) (from_cell nb p w.first e)) (w.below q) (or_cases (p == q) _ h);
  unlisted = absent;
}

-- where no cell is ready and none lies on a cycle, walks of each length lead back from a cell that isn't listed
walk : (nb : List Cell) (listed : List ℕ) (c : ℕ) → next_cell nb listed ≡ None → NoneCyclic nb → c < length nb
    → is_in c listed ≡ false → (steps : ℕ) → Walk nb listed steps
walk nb listed c stuck free below absent zero = lone_cell nb listed c below absent
walk nb listed c stuck free below absent (suc steps) =
    let w = walk nb listed c stuck free below absent steps in
    let head_below = w.below w.first (or_left (w.first == w.first) _ (eq-eqb w.first w.first refl)) in
    let unready = none_found (is_ready nb listed) (all_cells nb) w.first stuck (is_cell_number nb w.first head_below) in
    let parent = parent_unlisted nb listed w.first unready w.unlisted in
    ⊎_elim
    (λ met.
    absurd (free parent.at (path_to nb parent.at (w.first ∷ w.rest) parent.at (parent.kept, w.path) met)))
    (λ new. longer nb listed steps parent.at w parent.kept parent.fails new)
    (cases_Bool (is_in parent.at (w.first ∷ w.rest)))

no_long_walk : (nb : List Cell) (listed : List ℕ) → Walk nb listed (length nb) → ⊥
no_long_walk nb listed w =
    let within : (q : ℕ) → list_any (eqb q) (w.first ∷ w.rest) ≡ true → q < length nb = λ q h. w.below q (sym (same_test q (w.first ∷ w.rest)) ∙ h) in
    let short = length-le_from_distinct_below (w.first ∷ w.rest) (length nb) w.once within in
    let long = w.long in
    omega arith

-- each number below n is in the list, or one isn't
each_or_missing : (cs : List ℕ) (n : ℕ) → ((q : ℕ) → q < n → is_in q cs ≡ true) ⊎ ((q : ℕ) × (q < n) × (is_in q cs ≡ false))
each_or_missing cs zero = inl (λ q h. absurd (omega arith))
each_or_missing cs (suc n) = ⊎_elim
    (λ each. ⊎_elim
    (λ here. inl (λ q h. ⊎_elim (λ same. sym (ap (λ x. is_in x cs) same) ∙ here) (λ apart. each q (omega arith)) (cases_eq n q)))
    (λ missing. inr (n, omega arith, missing))
    (cases_Bool (is_in n cs)))
    (λ missing. inr (missing.0, omega (arith, missing.1), missing.2))
    (each_or_missing cs n)

-- a list shorter than n lacks a number below n
missing_below : (cs : List ℕ) (n : ℕ) → length cs < n → (q : ℕ) × (q < n) × (is_in q cs ≡ false)
missing_below cs n short = ⊎_elim
    (λ each. let long = le-length_from_below cs n (λ q h. same_test q cs ∙ each q h) in absurd (omega arith))
    (λ missing. missing)
    (each_or_missing cs n)

-- where the order has fewer cells than the notebook, some cell lies on a cycle
pub short_is_cyclic : (nb : List Cell) → length (order nb) < length nb → NoneCyclic nb → ⊥
short_is_cyclic nb short free = ⊎_elim
    (λ full. omega arith)
    (λ stuck.
    let missing = missing_below (order nb) (length nb) short in
    no_long_walk nb (order nb) (walk nb (order nb) missing.0 stuck free missing.1 missing.2 (length nb)))
    (full_or_stuck nb (length nb))

-- ---- the order and cycles

-- where the order lists every cell, none lies on a cycle
pub listed_is_free : (nb : List Cell) → ((c : ℕ) → c < length nb → is_in c (order nb) ≡ true) → NoneCyclic nb
listed_is_free nb each c cycle = not_on_cycle nb (length nb) c (each c (on_cycle_below nb c cycle)) cycle

-- where no cell lies on a cycle, the order lists every cell
pub free_is_listed : (nb : List Cell) → NoneCyclic nb → (c : ℕ) → c < length nb → is_in c (order nb) ≡ true
free_is_listed nb free c below = ⊎_elim
    (λ full. all_listed nb c full below)
    (λ stuck.
    ⊎_elim
    (λ listed. listed)
    (λ absent. absurd (no_long_walk nb (order nb) (walk nb (order nb) c stuck free below absent (length nb))))
    (cases_Bool (is_in c (order nb))))
    (full_or_stuck nb (length nb))
