-- Where cells stand in the order of a notebook: the children of each behind it.
use Rattle.std.proofs.Common.{◌≡◌, ℕ, zero, suc, ◌+◌, ◌-◌, ◌<◌, ◌≤◌, true, false, ◌==◌, eqb, inl, inr, ⊎_elim, List, [], ◌∷◌, length, get_or, take, filter, Option, Some, None, refl, sym, ap, ◌∙◌, arith}
use Rattle.std.specs.List.{All, IsDistinct, list_any}
use Rattle.std.proofs.lemmas.Bool.{both_ways, cases_Bool, eqb-true, or_cases}
use Rattle.std.proofs.lemmas.List.{take-take, take_all, take_at, get_or-take, length-take-le}
use Rattle.py_tree.specs.Names.{Name}
use Rattle.py_tree.specs.Trees.{Cell}
use Rattle.py_value.specs.Maps.{Map}
use Rattle.graph_meaning.specs.Graph.{numbers_from, edge, is_in, places, next_cell, with_next, order, NoneCyclic}
use Rattle.graph_meaning.specs.Reruns.{reads_one, is_within}
use Rattle.graph_meaning.proofs.Orders.{places_below, places_distinct, step_back, free_is_listed, to_cell}
use Rattle.graph_meaning.proofs.Reachability.{near_reader, near_next, near_from}
use Rattle.cell_graph.specs.Counts.{list_in, IsTranspose}
use Rattle.cell_graph.specs.Tables.{AreRefs, AreParents}
use Rattle.cell_graph.specs.Places.{is_placed, ArePlaced}
use Rattle.cell_graph.specs.Readers.{cells_at, HasReaders}
use Rattle.cell_graph.proofs.Ancestors.{edge_from, in_list}
use Rattle.cell_graph.proofs.Numbers.{numbers_alike, filter_within}
use Rattle.cell_graph.proofs.Places.{one_at_most, few_places}
use Rattle.cell_graph.proofs.ReaderTable.{reader_inside, is_reader, reads_by}
use Rattle.cell_graph.proofs.Reruns.{Spreads, in_front, placed_in}
use Rattle.cell_graph.proofs.Counts.{all_from_in, none_counted, not_counted}

-- ---- children

-- a is in the list of c where c is in that of a, turned round
module _ (above below : List (List ℕ)) (turned : IsTranspose above below) where
  in_turned : (a c : ℕ) → is_in a (list_in above c) ≡ true → is_in c (list_in below a) ≡ true
  in_turned a c h = ⊎_elim
      (λ on. on)
      (λ off. absurd (both_ways _ (not_counted a (list_in above c) (sym (turned.each a c) ∙ none_counted c (list_in below a) off)) h))
      (cases_Bool (is_in c (list_in below a)))

  from_turned : (a c : ℕ) → is_in c (list_in below a) ≡ true → is_in a (list_in above c) ≡ true
  from_turned a c h = ⊎_elim
      (λ on. on)
      (λ off. absurd (both_ways _ (not_counted c (list_in below a) (turned.each a c ∙ none_counted a (list_in above c) off)) h))
      (cases_Bool (is_in a (list_in above c)))

  pub child_edge : (nb : List Cell) → AreParents nb above → (a c : ℕ) → is_in c (list_in below a) ≡ true → edge nb a c ≡ true
  child_edge nb kept a c h = edge_from nb above kept a c (from_turned a c h)

  -- the cells that run again are those that reference a name, and the children of those that do
  pub spreads : (nb : List Cell) → AreParents nb above → (names : List Name) → Spreads below (reads_one nb names) (is_within nb names (length nb))
  spreads nb kept names = record {
    starts = λ c reads. near_reader nb names (length nb) c reads;
    down = λ a c on child. near_next nb names a c (child_edge nb kept a c child) on;
    up = λ c on. ⊎_elim
        (λ reads. inl reads)
        (λ parent. inr (parent.0, parent.2, in_turned parent.0 c (in_list nb above kept parent.0 c parent.1)))
        (near_from nb names (length nb) c on);
  }

-- ---- the order and its beginnings

is_in_at : (xs : List ℕ) (q : ℕ) → q < length xs → is_in (get_or xs q 0) xs ≡ true
is_in_at xs q h = ap (is_in (get_or xs q 0)) (sym (take_all (length xs) xs (omega arith))) ∙ in_front (length xs) xs q h h

index_of : (xs : List ℕ) (c : ℕ) → is_in c xs ≡ true → (q : ℕ) × (q < length xs) × (get_or xs q 0 ≡ c)
index_of [] c h = absurd (both_ways false refl h)
index_of (x ∷ xs) c h = ⊎_elim
    (λ same. (0, omega arith, eqb-true x c same))
    (λ later. let i = index_of xs c later in (suc i.0, omega (arith, i.1), i.2))
    (or_cases (x == c) _ h)

pub cells_once : (nb : List Cell) → IsDistinct eqb (order nb)
cells_once nb = places_distinct nb (length nb)

module _ (nb : List Cell) (full : length (order nb) ≡ length nb) where
  as_many : (j k : ℕ) → k + j ≡ length nb → length (places nb k) ≡ k
  as_many zero k h = let e : length nb ≡ k = omega arith in sym (ap (λ n. length (places nb n)) e) ∙ full ∙ e
  as_many (suc j) k h =
      let next = as_many j (suc k) (omega arith) in
      let most = one_at_most (next_cell nb (places nb k)) (places nb k) in
      let few = few_places nb k in
      omega arith

  without_next : (k : ℕ) (o : Option ℕ) (listed : List ℕ) → length listed ≡ k → take k (with_next o listed) ≡ listed
  without_next k None listed h = take_all k listed (omega arith)
  without_next k (Some c) listed h = take_at listed (c ∷ []) k h

  -- the first k places are a beginning of the order
  beginning : (j k : ℕ) → k + j ≡ length nb → take k (order nb) ≡ places nb k
  beginning zero k h = let e : length nb ≡ k = omega arith in take_all k (order nb) (omega arith) ∙ ap (places nb) e
  beginning (suc j) k h =
      sym (take-take k (suc k) (order nb) (omega arith))
      ∙ ap (take k) (beginning j (suc k) (omega arith))
      ∙ without_next k (next_cell nb (places nb k)) (places nb k) (as_many (suc j) k h)

  begins : (k : ℕ) → k ≤ length nb → take k (order nb) ≡ places nb k
  begins k h = beginning (length nb - k) k (omega arith)

  pub cells_inside : All (λ c. c < length (order nb)) (order nb)
  cells_inside = all_from_in (λ c. c < length (order nb)) (order nb) (λ c h. let low = places_below nb (length nb) c h in omega arith)

  module _ (free : NoneCyclic nb) (table : List ℕ) (count : length table ≡ length (order nb))
      (each : (q : ℕ) → q < length (order nb) → get_or table (get_or (order nb) q 0) 0 ≡ q) where
    -- each cell stands somewhere
    stands : (c : ℕ) → c < length (order nb) → (q : ℕ) × (q < length (order nb)) × (get_or (order nb) q 0 ≡ c) × (get_or table c 0 ≡ q)
    stands c h =
        let i = index_of (order nb) c (free_is_listed nb free c (omega arith)) in
        (i.0, i.1, i.2, ap (λ (d : ℕ). get_or table d 0) (sym i.2) ∙ each i.0 i.1)

    there : (c : ℕ) → c < length (order nb) → get_or table c 0 < length (order nb)
    there c h = let s = stands c h in omega (arith, s.1, s.3)

    cell : (c : ℕ) → c < length (order nb) → get_or (order nb) (get_or table c 0) 0 ≡ c
    cell c h = let s = stands c h in ap (λ (q : ℕ). get_or (order nb) q 0) s.3 ∙ s.2

    -- a parent stands before its child
    before : (a c : ℕ) → edge nb a c ≡ true → c < length (order nb) → get_or table a 0 < get_or table c 0
    before a c e h =
        let q = get_or table c 0 in
        let low = there c h in
        let here : is_in c (places nb (suc q)) ≡ true =
        ap (is_in c) (sym (begins (suc q) (omega arith))) ∙ ap (λ (d : ℕ). is_in d (take (suc q) (order nb))) (sym (cell c h)) ∙ in_front (suc q) (order nb) q (omega arith) low in
        let i = index_of (take q (order nb)) a (ap (is_in a) (begins q (omega arith)) ∙ step_back nb q a c e here) in
        let size = length-take-le q (order nb) (omega arith) in
        let at : get_or (order nb) i.0 0 ≡ a = sym (get_or-take q (order nb) i.0 0 (omega (arith, i.1))) ∙ i.2 in
        let own : get_or table a 0 ≡ i.0 = ap (λ (d : ℕ). get_or table d 0) (sym at) ∙ each i.0 (omega (arith, i.1)) in
        omega (arith, i.1)

    pub placed : (above below : List (List ℕ)) → AreParents nb above → IsTranspose above below → ArePlaced (order nb) table below
    placed above below kept turned = record {
      count = count;
      lists = turned.count ∙ kept.count ∙ sym full;
      inside = λ q h. let low = places_below nb (length nb) (get_or (order nb) q 0) (is_in_at (order nb) q h) in omega arith;
      place = each;
      there = there;
      cell = cell;
      behind = λ a c child.
          let e = child_edge above below turned nb kept a c child in
          before a c e (omega (arith, full, to_cell nb a c e));
    }

-- ---- the first places that wait

-- the places of the cells at one of the names are those of the cells that reference one of them
pub first_waiting : (nb : List Cell) (referenced : List (List Name)) → AreRefs nb referenced → (table : Map (List ℕ)) → HasReaders referenced table
    → (ordered spots : List ℕ) (below : List (List ℕ)) → ArePlaced ordered spots below → length ordered ≡ length nb → (names : List Name)
    → filter (λ q. list_any (λ x. is_placed spots (cells_at table x) q) names) (numbers_from 0 spots)
    ≡ filter (λ q. reads_one nb names (get_or ordered q 0)) (numbers_from 0 ordered)
first_waiting nb referenced kept table has ordered spots below at full names =
    ap (filter (λ q. list_any (λ x. is_placed spots (cells_at table x) q) names)) (numbers_alike 0 spots ordered at.count)
    ∙ filter_within _ _ 0 ordered (λ q low high.
    reads_by nb table (is_reader nb referenced kept table has) names (get_or ordered q 0) (λ x. is_placed spots (cells_at table x) q)
    (λ x. placed_in ordered spots below at (cells_at table x) (λ d h. let low = reader_inside nb referenced kept table has x d h in omega arith) q (omega arith)))
