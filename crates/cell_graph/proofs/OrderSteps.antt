-- The cells that are listed, the counts of parents that aren't, and the cells that are ready.
use Rattle.std.proofs.Common.{◌≡◌, ℕ, zero, suc, ◌+◌, ◌<◌, ◌≤◌, Bool, true, false, cond, not, ◌&&◌, ◌||◌, ◌==◌, ⊎_elim, List, [], ◌∷◌, ◌++◌, length, get_or, map, filter, find, refl, sym, ap, ◌∙◌, subst, add-one, arith}
use Rattle.std.specs.List.{list_all, All, count_by}
use Rattle.std.proofs.Math.Bool.{or-false}
use Rattle.std.proofs.lemmas.Bool.{both_ways, cases_Bool, cases_eq, cases_lt, eq-eqb, eqb-true, ne_eqb, and_parts, and_left, and_right, or_cases, or_left, or_right, or_from, and_from, not-true, not_from_true, not_from_false}
use Rattle.std.proofs.lemmas.List.{length-map, get_or_default}
use Rattle.std.proofs.lemmas.List.Elements.{All-filter}
use Rattle.std.proofs.lemmas.List.Folds.{sum_by-zero}
use Rattle.std.proofs.lemmas.List.Sums.{sum_by-cons, count_by_more_yes, sum_by-take-le}
use Rattle.py_tree.specs.Trees.{Cell}
use Rattle.graph_meaning.specs.Graph.{numbers_from, all_cells, is_in, edge, is_ready, next_cell, with_next, places}
use Rattle.graph_meaning.proofs.Orders.{cell_number_below}
use Rattle.cell_graph.specs.Counts.{list_in, count_of, AreWithin, IsTranspose}
use Rattle.cell_graph.specs.Tables.{AreParents}
use Rattle.cell_graph.proofs.Numbers.{numbers_alike, find_within, Popped, popped, none_popped}
use Rattle.cell_graph.proofs.Names.{filter_alike}
use Rattle.cell_graph.proofs.Counts.{is_in_push, past_all, none_counted, not_counted, all_from_in, kept_at}

-- how many of these cells aren't listed
abbrev pub unlisted : List ℕ → List ℕ → ℕ
unlisted listed cells = count_by (λ c. not (is_in c listed)) cells

-- the test of a cell that isn't listed and waits for none
abbrev pub is_free_of : List ℕ → List ℕ → ℕ → Bool
is_free_of listed waits c = not (is_in c listed) && (get_or waits c 0 == 0)

pub record IsSwept (above : List (List ℕ)) (listed waits ready : List ℕ) : Type 0 where
  pub count : length waits ≡ length above
  pub waiting : (c : ℕ) → get_or waits c 0 ≡ unlisted listed (list_in above c)
  pub done : (c : ℕ) → is_in c listed ≡ true → get_or waits c 0 ≡ 0
  pub free : ready ≡ filter (is_free_of listed waits) (numbers_from 0 above)

pub same_sweep : (above : List (List ℕ)) (listed waits ready listed_now waits_now ready_now : List ℕ) → listed_now ≡ listed → waits_now ≡ waits → ready_now ≡ ready
    → IsSwept above listed waits ready → IsSwept above listed_now waits_now ready_now
same_sweep above listed waits ready listed_now waits_now ready_now l w r s =
    subst (λ (ls : List ℕ). IsSwept above ls waits_now ready_now) (sym l)
    (subst (λ (ws : List ℕ). IsSwept above listed ws ready_now) (sym w) (subst (IsSwept above listed waits) (sym r) s))

-- ---- at first

lengths_at : (above : List (List ℕ)) (c : ℕ) → get_or (map (length {A = ℕ}) above) c 0 ≡ length (list_in above c)
lengths_at [] c = refl
lengths_at (l ∷ ls) zero = refl
lengths_at (l ∷ ls) (suc c) = lengths_at ls c

all_unlisted : (cells : List ℕ) → unlisted [] cells ≡ length cells
all_unlisted [] = refl
all_unlisted (c ∷ cs) = let e = sum_by-cons (λ d. cond (not (is_in d [])) 1 0) c cs in let rest = all_unlisted cs in omega arith

pub at_first : (above : List (List ℕ)) (waits ready : List ℕ) → waits ≡ map (length {A = ℕ}) above
    → ready ≡ filter (λ c. get_or waits c 0 == 0) (numbers_from 0 waits) → IsSwept above [] waits ready
at_first above waits ready w r = let long : length waits ≡ length above = ap (λ (ns : List ℕ). length ns) w ∙ length-map above (length {A = ℕ}) in record {
  count = long;
  waiting = λ c. ap (λ (ns : List ℕ). get_or ns c 0) w ∙ lengths_at above c ∙ sym (all_unlisted (list_in above c));
  done = λ c h. absurd (both_ways false refl h);
  free = r ∙ ap (filter (λ c. get_or waits c 0 == 0)) (numbers_alike 0 waits above long);
}

-- ---- the next cell

pub no_wait : (listed cells : List ℕ) → (unlisted listed cells == 0) ≡ list_all (λ p. is_in p listed) cells
no_wait listed cells = sum_by-zero (λ c. cond (not (is_in c listed)) 1 0) cells ∙ alike cells
  where
    one : (b : Bool) → (cond (not b) 1 0 == 0) ≡ b
    one true = refl
    one false = refl

    alike : (cs : List ℕ) → list_all (λ c. cond (not (is_in c listed)) 1 0 == 0) cs ≡ list_all (λ p. is_in p listed) cs
    alike [] = refl
    alike (c ∷ cs) = λ i. one (is_in c listed) i && alike cs i

module _ (nb : List Cell) (above : List (List ℕ)) (kept : AreParents nb above) where
  pub next_found : (listed waits ready : List ℕ) → IsSwept above listed waits ready
      → next_cell nb listed ≡ find (is_free_of listed waits) (numbers_from 0 above)
  next_found listed waits ready s =
      ap (find (is_ready nb listed)) (sym (numbers_alike 0 above nb kept.count))
      ∙ find_within (is_ready nb listed) (is_free_of listed waits) 0 above
      (λ c low high. ap (λ b. not (is_in c listed) && b)
      (ap (list_all (λ p. is_in p listed)) (sym (kept_at nb above kept c (omega arith))) ∙ sym (no_wait listed (list_in above c)) ∙ ap (λ n. n == 0) (sym (s.waiting c))))

-- each parent is a cell
pub parents_within : (nb : List Cell) (above : List (List ℕ)) → AreParents nb above → AreWithin above
parents_within nb above kept k d lt =
    subst (All (λ c. c < length above)) (sym (get_or_default above k d [] lt ∙ kept_at nb above kept k lt))
    (All-filter (λ a. edge nb a k) (λ c. c < length above) (all_cells nb) (all_from_in (λ c. c < length above) (all_cells nb) (λ c h. omega (arith, cell_number_below nb c h, kept.count))))

-- ---- a cell more is listed

listed_now : (m e b : Bool) → m ≡ true → e ≡ true → b ≡ false → cond (not m) 1 0 + cond e 1 0 ≡ cond (not b) 1 0
listed_now m e b p q r = (λ i. cond (not (p i)) 1 0 + cond (q i) 1 0) ∙ ap (λ x. cond (not x) 1 0) (sym r)

as_before : (m e b : Bool) → m ≡ b → e ≡ false → cond (not m) 1 0 + cond e 1 0 ≡ cond (not b) 1 0
as_before m e b p q = let z : cond (not b) 1 0 + 0 ≡ cond (not b) 1 0 = omega arith in (λ i. cond (not (p i)) 1 0 + cond (q i) 1 0) ∙ z

one_more : (c : ℕ) (listed : List ℕ) (x : ℕ) → is_in c listed ≡ false
    → cond (not (is_in x (listed ++ c ∷ []))) 1 0 + cond (x == c) 1 0 ≡ cond (not (is_in x listed)) 1 0
one_more c listed x off = ⊎_elim
    (λ same.
    listed_now _ _ _ (is_in_push x c listed ∙ or_right _ _ (or_left _ _ (eq-eqb c x (sym same)))) (eq-eqb x c same) (ap (λ d. is_in d listed) same ∙ off))
    (λ apart.
    as_before _ _ _ (is_in_push x c listed ∙ ap (λ b. is_in x listed || (b || false)) (ne_eqb c x (λ e. apart (sym e))) ∙ or-false (is_in x listed)) (ne_eqb x c apart))
    (cases_eq x c)

-- each list counts the cell as unlisted before, and not after
listed_more : (c : ℕ) (listed cells : List ℕ) → is_in c listed ≡ false → unlisted (listed ++ c ∷ []) cells + count_of c cells ≡ unlisted listed cells
listed_more c listed [] off = refl
listed_more c listed (x ∷ xs) off =
    let rest = listed_more c listed xs off in
    let a = sum_by-cons (λ d. cond (not (is_in d (listed ++ c ∷ []))) 1 0) x xs in
    let b = sum_by-cons (λ d. cond (d == c) 1 0) x xs in
    let e = sum_by-cons (λ d. cond (not (is_in d listed)) 1 0) x xs in
    let here = one_more c listed x off in
    omega arith

module _ (above : List (List ℕ)) (listed waits ready : List ℕ) (s : IsSwept above listed waits ready) (c : ℕ) (rest : List ℕ) (pop : ready ≡ c ∷ rest) where
  pub first : Popped (is_free_of listed waits) 0 above c rest
  first = popped (is_free_of listed waits) 0 above c rest (sym s.free ∙ pop)

  absent : is_in c listed ≡ false
  absent = not-true _ (and_parts (not (is_in c listed)) (get_or waits c 0 == 0) first.passes).0

  waits_none : get_or waits c 0 ≡ 0
  waits_none = eqb-true _ 0 (and_parts (not (is_in c listed)) (get_or waits c 0 == 0) first.passes).1

  module _ (below : List (List ℕ)) (turned : IsTranspose above below) where
    -- a child waits for the cell, at least
    pub child_held : (d : ℕ) → count_of d (list_in below c) ≤ get_or waits d 0
    child_held d =
        let same = turned.each c d in
        let more = listed_more c listed (list_in above d) absent in
        let now = s.waiting d in
        omega arith

    pub child_inside : All (λ d. d < length waits) (list_in below c)
    child_inside k d lt =
        let e = get_or (list_in below c) k d in
        let at = count_by_more_yes (λ x. x == e) (list_in below c) k d lt (eq-eqb e e refl) in
        let some = sum_by-take-le (λ x. cond (x == e) 1 0) (list_in below c) (k + 1) in
        let same = turned.each c e in
        let size = s.count in
        ⊎_elim
        (λ low. omega arith)
        (λ past. let none : count_of c (list_in above e) ≡ 0 = ap (count_of c) (past_all above e past) in absurd (omega arith))
        (cases_lt e (length above))

    module _ (fewer : List ℕ) (less : (d : ℕ) → get_or fewer d 0 + count_of d (list_in below c) ≡ get_or waits d 0) where
      no_child : (d : ℕ) → get_or waits d 0 ≡ 0 → is_in d (list_in below c) ≡ false
      no_child d none = not_counted d (list_in below c) (let h = less d in omega arith)

      none_left : (d : ℕ) → get_or waits d 0 ≡ 0 → get_or fewer d 0 ≡ 0
      none_left d none = let h = less d in omega arith

      abbrev kept_free : ℕ → Bool
      kept_free d = is_free_of listed waits d && not (d == c)

      abbrev freed_now : ℕ → Bool
      freed_now d = is_in d (list_in below c) && (get_or fewer d 0 == 0)

      -- what is ready then: for the cell itself, for a listed cell, and for another
      at_itself : (d : ℕ) → d ≡ c → (kept_free d || freed_now d) ≡ is_free_of (listed ++ c ∷ []) fewer d
      at_itself d same =
          or_from _ _ (and_right _ _ (not_from_true _ (eq-eqb d c same))) (and_left _ _ (no_child d (ap (λ x. get_or waits x 0) same ∙ waits_none)))
          ∙ sym (and_left _ _ (not_from_true _ (is_in_push d c listed ∙ or_right _ _ (or_left _ _ (eq-eqb c d (sym same))))))

      at_listed : (d : ℕ) → is_in d listed ≡ true → (kept_free d || freed_now d) ≡ is_free_of (listed ++ c ∷ []) fewer d
      at_listed d in_list =
          or_from _ _ (and_left _ _ (and_left _ _ (not_from_true _ in_list))) (and_left _ _ (no_child d (s.done d in_list)))
          ∙ sym (and_left _ _ (not_from_true _ (is_in_push d c listed ∙ or_left _ _ in_list)))

      still_unlisted : (d : ℕ) → (d ≡ c → ⊥) → is_in d listed ≡ false → not (is_in d (listed ++ c ∷ [])) ≡ true
      still_unlisted d apart out = not_from_false _ (is_in_push d c listed ∙ or_from _ _ out (or_from _ _ (ne_eqb c d (λ e. apart (sym e))) refl))

      at_other : (d : ℕ) → (d ≡ c → ⊥) → is_in d listed ≡ false → (kept_free d || freed_now d) ≡ is_free_of (listed ++ c ∷ []) fewer d
      at_other d apart out = ⊎_elim
          (λ none.
          or_left _ _ (and_from _ _ (and_from _ _ (not_from_false _ out) (eq-eqb _ 0 none)) (not_from_false _ (ne_eqb d c apart)))
          ∙ sym (and_from _ _ (still_unlisted d apart out) (eq-eqb _ 0 (none_left d none))))
          (λ some.
          ap (λ b. b || freed_now d) (and_left _ _ (and_right _ _ (ne_eqb _ 0 some)))
          ∙ ⊎_elim
          (λ child. ap (λ b. b && (get_or fewer d 0 == 0)) child)
          (λ other.
          let same : get_or fewer d 0 ≡ get_or waits d 0 = (let h = less d in let z = none_counted d (list_in below c) other in omega arith) in
          and_left _ _ other ∙ sym (ne_eqb _ 0 (λ z. some (sym same ∙ z))))
          (cases_Bool (is_in d (list_in below c)))
          ∙ sym (ap (λ b. b && (get_or fewer d 0 == 0)) (still_unlisted d apart out)))
          (cases_eq (get_or waits d 0) 0)

      same_free : (d : ℕ) → (kept_free d || freed_now d) ≡ is_free_of (listed ++ c ∷ []) fewer d
      same_free d = ⊎_elim (at_itself d) (λ apart. ⊎_elim (at_listed d) (at_other d apart) (cases_Bool (is_in d listed))) (cases_eq d c)

      pub swept_more : (now : List ℕ) → length fewer ≡ length waits
          → now ≡ filter (λ d. kept_free d || freed_now d) (numbers_from 0 waits) → IsSwept above (listed ++ c ∷ []) fewer now
      swept_more now size r = record {
        count = size ∙ s.count;
        waiting = λ d.
            let h = less d in
            let same = turned.each c d in
            let more = listed_more c listed (list_in above d) absent in
            let was = s.waiting d in
            omega arith;
        done = λ d h. ⊎_elim
            (λ before. none_left d (s.done d before))
            (λ later. ⊎_elim
            (λ e. none_left d (ap (λ x. get_or waits x 0) (sym (eqb-true c d e)) ∙ waits_none))
            (λ off. absurd (both_ways false refl off))
            (or_cases (c == d) false later))
            (or_cases (is_in d listed) _ (sym (is_in_push d c listed) ∙ h));
        free = r ∙ ap (filter (λ d. kept_free d || freed_now d)) (numbers_alike 0 waits above s.count) ∙ filter_alike _ _ same_free (numbers_from 0 above);
      }

  -- it is the next cell
  pub place_more : (nb : List Cell) (k : ℕ) → AreParents nb above → listed ≡ places nb k → listed ++ c ∷ [] ≡ places nb (k + 1)
  place_more nb k kept e =
      ap (λ o. with_next o listed) (sym (next_found nb above kept listed waits ready s ∙ first.found))
      ∙ ap (λ ls. with_next (next_cell nb ls) ls) e ∙ ap (places nb) (sym (add-one k))

-- where no cell is ready, no place follows
pub place_none : (above : List (List ℕ)) (listed waits ready : List ℕ) → IsSwept above listed waits ready → ready ≡ []
    → (nb : List Cell) (k : ℕ) → AreParents nb above → listed ≡ places nb k → listed ≡ places nb (k + 1)
place_none above listed waits ready s none nb k kept e =
    ap (λ o. with_next o listed) (sym (next_found nb above kept listed waits ready s ∙ none_popped (is_free_of listed waits) (numbers_from 0 above) (sym s.free ∙ none)))
    ∙ ap (λ ls. with_next (next_cell nb ls) ls) e ∙ ap (places nb) (sym (add-one k))
