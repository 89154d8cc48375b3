-- The cells within as many edges as there are cells are those to which paths lead.
use Rattle.std.proofs.Common.{◌≡◌, ℕ, zero, suc, ◌<◌, Bool, true, false, cond, ◌==◌, eqb, ◌⊎◌, inl, inr, ⊎_elim, List, [], ◌∷◌, ◌++◌, length, filter, refl, sym, ap, ◌∙◌, subst, arith}
use Rattle.std.specs.List.{list_any, AllByRecursion, IsDistinct}
use Rattle.std.specs.Cmp.{nat_eq_equiv}
use Rattle.std.proofs.lemmas.Bool.{cases_Bool, cases_eq, eq-eqb, eqb-true, or_cases, or_left, or_right, both_ways}
use Rattle.std.proofs.lemmas.List.{length_push}
use Rattle.std.proofs.lemmas.Map.Keys.{IsDistinct-push}
use Rattle.std.proofs.lemmas.Map.Steps.{length-le_from_distinct_below}
use Rattle.py_tree.specs.Names.{Name}
use Rattle.py_tree.specs.Trees.{Cell}
use Rattle.graph_meaning.specs.Graph.{edge, all_cells, is_in, parents, order, IsPath}
use Rattle.graph_meaning.specs.Reruns.{reads_one, is_within, rerun, IsReached, itself, behind}
use Rattle.graph_meaning.proofs.Orders.{same_test, in_more_cases, from_cell, to_cell, is_cell_number, places_distinct}

-- ---- numbers that pass a test

-- one of the list passes
pub any_from : (p : ℕ → Bool) (cs : List ℕ) (c : ℕ) → is_in c cs ≡ true → p c ≡ true → list_any p cs ≡ true
any_from p [] c h on = absurd (both_ways false refl h)
any_from p (d ∷ ds) c h on = ⊎_elim
    (λ same. or_left _ _ (ap p (eqb-true d c same) ∙ on))
    (λ later. or_right (p d) _ (any_from p ds c later on))
    (or_cases (d == c) _ h)

pub some_in : (p : ℕ → Bool) (cs : List ℕ) → list_any p cs ≡ true → (c : ℕ) × (p c ≡ true) × (is_in c cs ≡ true)
some_in p [] h = absurd (both_ways false refl h)
some_in p (d ∷ ds) h = ⊎_elim
    (λ here. (d, here, or_left _ _ (eq-eqb d d refl)))
    (λ later. let s = some_in p ds later in (s.0, s.1, or_right (d == s.0) _ s.2))
    (or_cases (p d) _ h)

-- what a filter keeps passes its test
pub passes : (p : ℕ → Bool) (cs : List ℕ) (c : ℕ) → is_in c (filter p cs) ≡ true → p c ≡ true
passes p [] c h = absurd (both_ways false refl h)
passes p (d ∷ ds) c h = ⊎_elim
    (λ on. ⊎_elim
    (λ same. sym (ap p (eqb-true d c same)) ∙ on)
    (λ later. passes p ds c later)
    (or_cases (d == c) _ (rw on at h)))
    (λ off. passes p ds c (rw off at h))
    (cases_Bool (p d))

-- and what passes is kept
pub is_kept : (p : ℕ → Bool) (cs : List ℕ) (c : ℕ) → is_in c cs ≡ true → p c ≡ true → is_in c (filter p cs) ≡ true
is_kept p [] c h on = absurd (both_ways false refl h)
is_kept p (d ∷ ds) c h on = ⊎_elim
    (λ same. rw (ap p (eqb-true d c same) ∙ on) (or_left _ _ same))
    (λ later. kept (p d) (is_kept p ds c later on))
    (or_cases (d == c) _ h)
  where
    kept : (b : Bool) → is_in c (filter p ds) ≡ true → is_in c (cond b (d ∷ filter p ds) (filter p ds)) ≡ true
    kept true rest = or_right (d == c) _ rest
    kept false rest = rest

all_kept : (P : ℕ → Type 0) (p : ℕ → Bool) (cs : List ℕ) → AllByRecursion P cs → AllByRecursion P (filter p cs)
all_kept P p [] all = tt
all_kept P p (c ∷ cs) all = kept (p c) (all_kept P p cs all.1)
  where
    kept : (b : Bool) → AllByRecursion P (filter p cs) → AllByRecursion P (cond b (c ∷ filter p cs) (filter p cs))
    kept true rest = (all.0, rest)
    kept false rest = rest

once_kept : (p : ℕ → Bool) (cs : List ℕ) → IsDistinct eqb cs → IsDistinct eqb (filter p cs)
unfolding IsDistinct
once_kept p [] d = tt
once_kept p (c ∷ cs) d = kept (p c) (once_kept p cs d.1)
  where
    kept : (b : Bool) → IsDistinct eqb (filter p cs) → IsDistinct eqb (cond b (c ∷ filter p cs) (filter p cs))
    kept true rest = (all_kept _ p cs d.0, rest)
    kept false rest = rest

-- each number below n that passes p passes q, or one doesn't
each_or_one : (p q : ℕ → Bool) (n : ℕ)
    → ((c : ℕ) → c < n → p c ≡ true → q c ≡ true) ⊎ ((c : ℕ) × (c < n) × (p c ≡ true) × (q c ≡ false))
each_or_one p q zero = inl (λ c h. absurd (omega arith))
each_or_one p q (suc n) = ⊎_elim
    (λ each. ⊎_elim
    (λ on. inl (λ c h pass. ⊎_elim (λ same. sym (ap q same) ∙ on) (λ apart. each c (omega arith) pass) (cases_eq n c)))
    (λ off. ⊎_elim
    (λ pass. inr (n, omega arith, pass, off))
    (λ fail. inl (λ c h pass. ⊎_elim (λ same. absurd (both_ways (p c) (sym (ap p same) ∙ fail) pass)) (λ apart. each c (omega arith) pass) (cases_eq n c)))
    (cases_Bool (p n)))
    (cases_Bool (q n)))
    (λ one. inr (one.0, omega (arith, one.1), one.2, one.3))
    (each_or_one p q n)

-- ---- one edge more

pub parent_by : (nb : List Cell) (a b : ℕ) → edge nb a b ≡ true → is_in a (parents nb b) ≡ true
parent_by nb a b e = is_kept (λ c. edge nb c b) (all_cells nb) a (is_cell_number nb a (from_cell nb a b e)) e

pub edge_by : (nb : List Cell) (a b : ℕ) → is_in a (parents nb b) ≡ true → edge nb a b ≡ true
edge_by nb a b h = passes (λ c. edge nb c b) (all_cells nb) a h

module _ (nb : List Cell) (names : List Name) where
  abbrev near : ℕ → ℕ → Bool
  near = is_within nb names

  near_by : (k a b : ℕ) → edge nb a b ≡ true → near k a ≡ true → near (suc k) b ≡ true
  near_by k a b e h = or_right (reads_one nb names b) _ (any_from (near k) (parents nb b) a (parent_by nb a b e) h)

  pub near_reader : (k c : ℕ) → reads_one nb names c ≡ true → near k c ≡ true
  near_reader zero c h = h
  near_reader (suc k) c h = or_left _ _ h

  -- a cell that k + 1 edges reach reads a name, or k edges reach one of its parents
  near_cases : (k c : ℕ) → near (suc k) c ≡ true
      → (reads_one nb names c ≡ true) ⊎ ((a : ℕ) × (edge nb a c ≡ true) × (near k a ≡ true))
  near_cases k c h = ⊎_elim
      (λ reads. inl reads)
      (λ after. let s = some_in (near k) (parents nb c) after in inr (s.0, edge_by nb s.0 c s.2, s.1))
      (or_cases (reads_one nb names c) _ h)

  near_more : (k c : ℕ) → near k c ≡ true → near (suc k) c ≡ true
  near_more zero c h = near_reader (suc zero) c h
  near_more (suc k) c h = ⊎_elim
      (λ reads. near_reader (suc (suc k)) c reads)
      (λ after. near_by (suc k) after.0 c after.1 (near_more k after.0 after.2))
      (near_cases k c h)

  -- a cell that k edges reach reads a name, or k edges reach one of its parents too
  pub near_from : (k c : ℕ) → near k c ≡ true
      → (reads_one nb names c ≡ true) ⊎ ((a : ℕ) × (edge nb a c ≡ true) × (near k a ≡ true))
  near_from zero c h = inl h
  near_from (suc k) c h = ⊎_elim
      (λ reads. inl reads)
      (λ after. inr (after.0, after.1, near_more k after.0 after.2))
      (near_cases k c h)

  -- ---- as many edges as there are cells reach as far as more do

  -- one edge more than k reaches no other cell
  abbrev IsStill : ℕ → Type 0
  IsStill k = (c : ℕ) → c < length nb → near (suc k) c ≡ true → near k c ≡ true

  still_next : (k : ℕ) → IsStill k → IsStill (suc k)
  still_next k still c below h = ⊎_elim
      (λ reads. near_reader (suc k) c reads)
      (λ after. near_by k after.0 c after.1 (still after.0 (from_cell nb after.0 c after.1) after.2))
      (near_cases (suc k) c h)

  -- k cells, each of them once, that k edges reach
  pub record Grown (k : ℕ) : Type 0 where
    pub cells : List ℕ
    pub long : length cells ≡ k
    pub once : IsDistinct eqb cells
    pub each : (c : ℕ) → is_in c cells ≡ true → (c < length nb) × (near k c ≡ true)

  none_grown : Grown zero
  unfolding IsDistinct
  none_grown = record { cells = []; long = refl; once = tt; each = λ c h. absurd (both_ways false refl h) }

  grown_more : (k c : ℕ) → Grown k → c < length nb → near (suc k) c ≡ true → near k c ≡ false → Grown (suc k)
  grown_more k c g below on off = record {
    cells = g.cells ++ c ∷ [];
    long = length_push g.cells c ∙ omega (arith, g.long);
    once = IsDistinct-push nat_eq_equiv g.cells c g.once (same_test c g.cells ∙ absent);
    each = λ d h. ⊎_elim
        (λ before. let e = g.each d before in (e.0, near_more k d e.1))
        (λ same. (subst (λ (n : ℕ). n < length nb) same below, subst (λ (n : ℕ). near (suc k) n ≡ true) same on))
        (in_more_cases d c g.cells h);
  }
    where
      absent : is_in c g.cells ≡ false
      absent = ⊎_elim (λ there. absurd (both_ways _ off (g.each c there).1)) (λ none. none) (cases_Bool (is_in c g.cells))

  still_or_more : (k : ℕ) → Grown k → IsStill k ⊎ Grown (suc k)
  still_or_more k g = ⊎_elim
      (λ still. inl still)
      (λ new. inr (grown_more k new.0 g new.1 new.2 new.3))
      (each_or_one (near (suc k)) (near k) (length nb))

  still_or_grown : (k : ℕ) → IsStill k ⊎ Grown (suc k)
  still_or_grown zero = still_or_more zero none_grown
  still_or_grown (suc k) = ⊎_elim
      (λ still. inl (still_next k still))
      (λ g. still_or_more (suc k) g)
      (still_or_grown k)

  still : IsStill (length nb)
  still = ⊎_elim
      (λ here. here)
      (λ g.
      let short = length-le_from_distinct_below g.cells (length nb) g.once (λ q h. (g.each q (sym (same_test q g.cells) ∙ h)).0) in
      let long = g.long in
      absurd (omega arith))
      (still_or_grown (length nb))

  pub near_next : (a b : ℕ) → edge nb a b ≡ true → near (length nb) a ≡ true → near (length nb) b ≡ true
  near_next a b e h = still b (to_cell nb a b e) (near_by (length nb) a b e h)

  -- ---- paths

  path_more : (a : ℕ) (between : List ℕ) (b c : ℕ) → IsPath nb (a ∷ between ++ b ∷ []) → edge nb b c ≡ true
      → IsPath nb (a ∷ (between ++ b ∷ []) ++ c ∷ [])
  path_more a [] b c path e = (path.0, (e, tt))
  path_more a (d ∷ ds) b c path e = (path.0, path_more d ds b c path.1 e)

  reached_next : (b c : ℕ) → edge nb b c ≡ true → IsReached nb names b → IsReached nb names c
  reached_next b c e (itself reads) = behind b [] reads (e, tt)
  reached_next b c e (behind first between reads path) = behind first (between ++ b ∷ []) reads (path_more first between b c path e)

  pub reached : (k c : ℕ) → near k c ≡ true → IsReached nb names c
  reached zero c h = itself h
  reached (suc k) c h = ⊎_elim
      (λ reads. itself reads)
      (λ after. reached_next after.0 c after.1 (reached k after.0 after.2))
      (near_cases k c h)

  along : (a : ℕ) (between : List ℕ) (c : ℕ) → near (length nb) a ≡ true → IsPath nb (a ∷ between ++ c ∷ []) → near (length nb) c ≡ true
  along a [] c h path = near_next a c path.0 h
  along a (b ∷ bs) c h path = along b bs c (near_next a b path.0 h) path.1

  pub near_reached : (c : ℕ) → IsReached nb names c → near (length nb) c ≡ true
  near_reached c (itself reads) = near_reader (length nb) c reads
  near_reached c (behind first between reads path) = along first between c (near_reader (length nb) first reads) path

  pub runs_once : IsDistinct eqb (rerun nb names)
  runs_once = once_kept (near (length nb)) (order nb) (places_distinct nb (length nb))
