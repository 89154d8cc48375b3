-- Cells that are marked as those above a cell, and paths that lead to it.
use Rattle.std.proofs.Common.{◌≡◌, ℕ, ◌+◌, ◌<◌, ◌≤◌, Bool, true, false, cond, not, ◌&&◌, ◌||◌, ◌⊎◌, inl, inr, ⊎_elim, List, [], ◌∷◌, ◌++◌, length, get_or, take, filter, refl, sym, ap, ◌∙◌, subst, arith}
use Rattle.std.proofs.Math.Bool.{or-false}
use Rattle.std.proofs.lemmas.Bool.{both_ways, cases_Bool, cases_eq, cases_lt, ne_eqb, or_cases, or_left, or_right, and_parts, and_from, not_from_false, false_from_ne_true}
use Rattle.std.proofs.lemmas.List.{take_more, take_all, get_or_past, length-take-le, append-nil}
use Rattle.std.proofs.lemmas.List.Elements.{filter-append}
use Rattle.py_tree.specs.Trees.{Cell}
use Rattle.graph_meaning.specs.Graph.{edge, numbers_from, is_in, IsPath, LiesOnCycle, AreCyclic}
use Rattle.graph_meaning.proofs.Orders.{in_more, in_more_cases, to_cell, on_cycle_below}
use Rattle.graph_meaning.proofs.Reachability.{parent_by, edge_by}
use Rattle.cell_graph.specs.Counts.{list_in}
use Rattle.cell_graph.specs.Tables.{AreParents}
use Rattle.cell_graph.specs.Marks.{is_marked}
use Rattle.cell_graph.proofs.Numbers.{numbers_alike, filter_within}
use Rattle.cell_graph.proofs.Counts.{is_in_push, past_all, is_in_last, kept_at}

-- ---- a cell that is marked

-- the cell's number is below the count of marks
pub marked_below : (marked : List Bool) (c : ℕ) → is_marked marked c ≡ true → c < length marked
marked_below marked c h = ⊎_elim
    (λ below. below)
    (λ past. absurd (both_ways _ (get_or_past marked c false past) h))
    (cases_lt c (length marked))

-- ---- paths through the lists

-- the cells between lead from a to c: each stands in the list of the next
abbrev pub Leads : List (List ℕ) → ℕ → List ℕ → ℕ → Type 0
Leads above a [] c = is_in a (list_in above c) ≡ true
Leads above a (b ∷ bs) c = (is_in a (list_in above b) ≡ true) × Leads above b bs c

-- What is known as the cells above c are looked for: those marked lead to c, and what is in the list of one of them is marked,
-- except where the cell is still to look at.
pub record IsSearched (above : List (List ℕ)) (c : ℕ) (marked : List Bool) (pending : List ℕ) : Type 0 where
  pub count : length marked ≡ length above
  pub sound : (d : ℕ) → is_marked marked d ≡ true → (between : List ℕ) × Leads above d between c
  pub waiting : (d : ℕ) → is_in d pending ≡ true → is_marked marked d ≡ true
  pub first : (d : ℕ) → is_in d (list_in above c) ≡ true → is_marked marked d ≡ true
  pub closed : (d e : ℕ) → is_marked marked e ≡ true → is_in d (list_in above e) ≡ true → (is_marked marked d ≡ true) ⊎ (is_in e pending ≡ true)

-- where none is left to look at, each cell that leads to c is marked
complete : (above : List (List ℕ)) (c : ℕ) (marked : List Bool) → IsSearched above c marked [] → (between : List ℕ) (d : ℕ)
    → Leads above d between c → is_marked marked d ≡ true
complete above c marked s [] d leads = s.first d leads
complete above c marked s (b ∷ bs) d leads = ⊎_elim
    (λ on. on)
    (λ left. absurd (both_ways false refl left))
    (s.closed d b (complete above c marked s bs b leads.1) leads.0)

-- a cell is looked at: those in its list are marked
module _ (above : List (List ℕ)) (c : ℕ) (marked : List Bool) (rest : List ℕ) (a : ℕ) (s : IsSearched above c marked (rest ++ a ∷ [])) where
  -- it is one of those that are marked
  pub was_marked : is_marked marked a ≡ true
  was_marked = s.waiting a (is_in_last a rest)

  module _ (new : List Bool) (pending : List ℕ) (size : length new ≡ length marked)
      (marks : (d : ℕ) → is_marked new d ≡ (is_marked marked d || is_in d (list_in above a)))
      (added : (d : ℕ) → is_in d pending ≡ (is_in d rest || (is_in d (list_in above a) && not (is_marked marked d)))) where
    kept_on : (d : ℕ) → is_marked marked d ≡ true → is_marked new d ≡ true
    kept_on d h = marks d ∙ or_left _ _ h

    now_on : (d : ℕ) → is_in d (list_in above a) ≡ true → is_marked new d ≡ true
    now_on d h = marks d ∙ or_right (is_marked marked d) _ h

    closed_at : (d e : ℕ) → is_in d (list_in above e) ≡ true → is_in e (rest ++ a ∷ []) ≡ true
        → (is_marked new d ≡ true) ⊎ (is_in e pending ≡ true)
    closed_at d e there left = ⊎_elim
        (λ before. inr (added e ∙ or_left _ _ before))
        (λ last. inl (now_on d (ap (λ n. is_in d (list_in above n)) last ∙ there)))
        (in_more_cases e a rest left)

    pub search_more : IsSearched above c new pending
    search_more = record {
      count = size ∙ s.count;
      sound = λ d h. ⊎_elim
          (λ before. s.sound d before)
          (λ there. let steps = s.sound a was_marked in (a ∷ steps.0, (there, steps.1)))
          (or_cases (is_marked marked d) _ (sym (marks d) ∙ h));
      waiting = λ d h. ⊎_elim
          (λ before. kept_on d (s.waiting d (in_more d a rest before)))
          (λ there. now_on d (and_parts (is_in d (list_in above a)) _ there).0)
          (or_cases (is_in d rest) _ (sym (added d) ∙ h));
      first = λ d h. kept_on d (s.first d h);
      closed = λ d e h there. ⊎_elim
          (λ before. ⊎_elim
          (λ on. inl (kept_on d on))
          (λ left. closed_at d e there left)
          (s.closed d e before there))
          (λ off. ⊎_elim
          (λ on. absurd (both_ways _ off on))
          (λ in_list. inr (added e ∙ or_right (is_in e rest) _ (and_from _ _ in_list (not_from_false _ off))))
          (or_cases (is_marked marked e) _ (sym (marks e) ∙ h)))
          (cases_Bool (is_marked marked e));
    }

-- ---- paths of cells

module _ (nb : List Cell) (above : List (List ℕ)) (kept : AreParents nb above) where
  -- the cells in the lists are those from which edges go
  pub edge_from : (a b : ℕ) → is_in a (list_in above b) ≡ true → edge nb a b ≡ true
  edge_from a b h = ⊎_elim
      (λ below. edge_by nb a b (sym (ap (is_in a) (kept_at nb above kept b below)) ∙ h))
      (λ past. absurd (both_ways false refl (sym (ap (is_in a) (past_all above b past)) ∙ h)))
      (cases_lt b (length above))

  pub in_list : (a b : ℕ) → edge nb a b ≡ true → is_in a (list_in above b) ≡ true
  in_list a b h = let low = to_cell nb a b h in ap (is_in a) (kept_at nb above kept b (omega (arith, kept.count))) ∙ parent_by nb a b h

  path_from : (a : ℕ) (between : List ℕ) (c : ℕ) → Leads above a between c → IsPath nb (a ∷ between ++ c ∷ [])
  path_from a [] c leads = (edge_from a c leads, tt)
  path_from a (b ∷ bs) c leads = (edge_from a b leads.0, path_from b bs c leads.1)

  leads_by : (a : ℕ) (between : List ℕ) (c : ℕ) → IsPath nb (a ∷ between ++ c ∷ []) → Leads above a between c
  leads_by a [] c path = in_list a c path.0
  leads_by a (b ∷ bs) c path = (in_list a b path.0, leads_by b bs c path.1)

  -- a cell that is marked as above itself lies on a cycle, and the other way round
  pub lies : (c : ℕ) (marked : List Bool) (pending : List ℕ) → IsSearched above c marked pending → is_marked marked c ≡ true → LiesOnCycle nb c
  lies c marked pending s on = let steps = s.sound c on in (steps.0, path_from c steps.0 c steps.1)

  pub lies_not : (c : ℕ) (marked : List Bool) → IsSearched above c marked [] → is_marked marked c ≡ false → LiesOnCycle nb c → ⊥
  lies_not c marked s off cycle = both_ways _ off (complete above c marked s cycle.0 c (leads_by c cycle.0 c cycle.1))

-- ---- the cells found so far

-- those of the first n cells that lie on a cycle
pub record AreFound (nb : List Cell) (above : List (List ℕ)) (n : ℕ) (cells : List ℕ) : Type 0 where
  pub low : (c : ℕ) → is_in c cells ≡ true → c < n
  pub each : (c : ℕ) → is_in c cells ≡ true → LiesOnCycle nb c
  pub every : (c : ℕ) → c < n → LiesOnCycle nb c → is_in c cells ≡ true
  pub rising : cells ≡ filter (λ c. is_in c cells) (numbers_from 0 (take n above))

numbers_push : {X : Type 0} (n : ℕ) (xs : List X) (x : X) → numbers_from n (xs ++ x ∷ []) ≡ numbers_from n xs ++ (n + length xs) ∷ []
numbers_push n [] x = let e : n ≡ n + 0 = omega arith in ap (λ k. k ∷ []) e
numbers_push n (y ∷ ys) x =
    let e : (n + 1) + length ys ≡ n + length (y ∷ ys) = omega arith in
    ap (λ ks. n ∷ ks) (numbers_push (n + 1) ys x ∙ ap (λ k. numbers_from (n + 1) ys ++ k ∷ []) e)

module _ (nb : List Cell) (above : List (List ℕ)) (n : ℕ) (lt : n < length above) (cells : List ℕ) (so_far : AreFound nb above n cells) where
  long : length (take n above) ≡ n
  long = length-take-le n above (omega arith)

  numbers_more : numbers_from 0 (take (n + 1) above) ≡ numbers_from 0 (take n above) ++ n ∷ []
  numbers_more =
      let e : 0 + length (take n above) ≡ n = omega (arith, long) in
      ap (λ (ls : List (List ℕ)). numbers_from 0 ls) (take_more above n [] lt) ∙ numbers_push 0 (take n above) (get_or above n [])
      ∙ ap (λ k. numbers_from 0 (take n above) ++ k ∷ []) e

  split : (p : ℕ → Bool) → filter p (numbers_from 0 (take (n + 1) above)) ≡ filter p (numbers_from 0 (take n above)) ++ filter p (n ∷ [])
  split p = ap (filter p) numbers_more ∙ filter-append p (numbers_from 0 (take n above)) (n ∷ [])

  lower : (d : ℕ) → 0 ≤ d → d < 0 + length (take n above) → is_in d (cells ++ n ∷ []) ≡ is_in d cells
  lower d low high =
      is_in_push d n cells ∙ ap (λ b. is_in d cells || (b || false)) (ne_eqb n d (λ e. omega (arith, e, long, high))) ∙ or-false (is_in d cells)

  -- the next cell lies on one too
  pub found_more : LiesOnCycle nb n → AreFound nb above (n + 1) (cells ++ n ∷ [])
  found_more cycle = record {
    low = λ c h. ⊎_elim (λ before. let b = so_far.low c before in omega arith) (λ same. omega arith) (in_more_cases c n cells h);
    each = λ c h. ⊎_elim (λ before. so_far.each c before) (λ same. subst (LiesOnCycle nb) same cycle) (in_more_cases c n cells h);
    every = λ c below on. ⊎_elim
        (λ same. ap (λ d. is_in d (cells ++ n ∷ [])) (sym same) ∙ is_in_last n cells)
        (λ apart. in_more c n cells (so_far.every c (omega arith) on))
        (cases_eq n c);
    rising =
        ap (λ ks. ks ++ n ∷ []) (so_far.rising ∙ sym (filter_within (λ c. is_in c (cells ++ n ∷ [])) (λ c. is_in c cells) 0 (take n above) lower))
        ∙ ap (λ b. filter (λ c. is_in c (cells ++ n ∷ [])) (numbers_from 0 (take n above)) ++ cond b (n ∷ []) []) (sym (is_in_last n cells))
        ∙ sym (split (λ c. is_in c (cells ++ n ∷ [])));
  }

  -- the next cell lies on none
  pub found_same : (LiesOnCycle nb n → ⊥) → AreFound nb above (n + 1) cells
  found_same free = record {
    low = λ c h. let b = so_far.low c h in omega arith;
    each = so_far.each;
    every = λ c below on. ⊎_elim
        (λ same. absurd (free (subst (LiesOnCycle nb) (sym same) on)))
        (λ apart. so_far.every c (omega arith) on)
        (cases_eq n c);
    rising =
        let off : is_in n cells ≡ false = false_from_ne_true _ (λ on. let b = so_far.low n on in omega arith) in
        so_far.rising ∙ sym (append-nil (filter (λ c. is_in c cells) (numbers_from 0 (take n above))))
        ∙ ap (λ b. filter (λ c. is_in c cells) (numbers_from 0 (take n above)) ++ cond b (n ∷ []) []) (sym off)
        ∙ sym (split (λ c. is_in c cells));
  }

pub all_found : (nb : List Cell) (above : List (List ℕ)) (n : ℕ) (cells : List ℕ) → AreParents nb above → length above ≤ n
    → AreFound nb above n cells → AreCyclic nb cells
all_found nb above n cells kept past found = record {
  each = found.each;
  every = λ c cycle. found.every c (let below = on_cycle_below nb c cycle in omega (arith, kept.count, below)) cycle;
  rising = found.rising
      ∙ ap (filter (λ c. is_in c cells)) (ap (λ (ls : List (List ℕ)). numbers_from 0 ls) (take_all n above past) ∙ numbers_alike 0 above nb kept.count);
}
