-- Lists of the names that cells define, and the graph of these cells.
use Rattle.std.proofs.Common.{◌≡◌, ℕ, zero, suc, ◌+◌, ◌<◌, ◌≤◌, Bool, true, false, cond, ◌&&◌, ⊎_elim, List, [], ◌∷◌, ◌++◌, length, map, filter, find, Option, Some, None, slice_get, get_or, take, refl, sym, ap, ◌∙◌, arith}
use Rattle.std.specs.Prelude.{nat_lt}
use Rattle.std.specs.List.{list_any}
use Rattle.std.specs.Str.{bytes_eq}
use Rattle.std.proofs.lemmas.Bool.{both_ways, cases_Bool, cases_eq, and_parts, and_from, or_cases, or_left, or_right, false_from_ne_true, lt-ltb, ltb-true}
use Rattle.std.proofs.lemmas.List.{length-map, length_push, length-append}
use Rattle.py_tree.specs.Names.{Name, is_among}
use Rattle.py_tree.specs.Scope.{defs}
use Rattle.py_tree.specs.Trees.{Cell}
use Rattle.graph_meaning.specs.Graph.{defs_of, refs_of, numbers_from, all_cells, parents, order, defined_before, IsDoubled, NoneDoubled, AreCyclic}
use Rattle.graph_meaning.proofs.Orders.{is_cell_number, short_is_cyclic}
use Rattle.graph_meaning.proofs.Reachability.{any_from}
use Rattle.cell_graph.specs.Definers.{names_in, FindsLists, lists_with}
use Rattle.cell_graph.specs.Tables.{AreDefs, AreRefs, AreParents}
use Rattle.cell_graph.proofs.LookUps.{in_earlier, in_next, within, names_kept, is_itself}
use Rattle.cell_graph.proofs.Names.{filter_alike}
use Rattle.cell_graph.proofs.Numbers.{numbers_alike}

map_at : {X Y : Type 0} (f : X → Y) (xs : List X) (c : ℕ) (y : Y) → slice_get (map f xs) c ≡ Some y → (x : X) × (slice_get xs c ≡ Some x) × (f x ≡ y)
map_at f [] c y h = let bad : None ≡ Some y = h in absurd cc
map_at f (x ∷ xs) zero y h = let e : Some (f x) ≡ Some y = h in (x, refl, cc)
map_at f (x ∷ xs) (suc c) y h = map_at f xs c y h

-- ---- tests of lists

-- an element that passes the test
some_passes : {X : Type 0} (p : X → Bool) (xs : List X) → list_any p xs ≡ true → (x : X) × (p x ≡ true)
some_passes p [] h = absurd (both_ways false refl h)
some_passes p (x ∷ xs) h = ⊎_elim (λ here. (x, here)) (λ later. some_passes p xs later) (or_cases (p x) _ h)

-- no name passes, and none is found
none_found : (p : Name → Bool) (names : List Name) → ((x : Name) → is_among x names ≡ true → p x ≡ false) → find p names ≡ None
none_found p [] h = refl
none_found p (x ∷ xs) h =
    ap (λ b. cond b (Some x) (find p xs)) (h x (or_left _ _ (is_itself x)))
    ∙ none_found p xs (λ y later. h y (or_right (bytes_eq x y) _ later))

-- a name that passes is found where none before it passes
find_at : (p : Name → Bool) (names : List Name) (i : ℕ) (x : Name) → i < length names → x ≡ get_or names i x → p x ≡ true → find p (take i names) ≡ None
    → find p names ≡ Some x
find_at p [] i x lt is on none = absurd (omega arith)
find_at p (y ∷ ys) zero x lt is on none =
    let e : x ≡ y = is in
    ap (λ b. cond b (Some y) (find p ys)) (sym (ap p e) ∙ on) ∙ ap Some (sym e)
find_at p (y ∷ ys) (suc i) x lt is on none = ⊎_elim
    (λ there. let bad : Some y ≡ None = sym (ap (λ b. cond b (Some y) (find p (take i ys))) there) ∙ none in absurd cc)
    (λ off.
    ap (λ b. cond b (Some y) (find p ys)) off
    ∙ find_at p ys i x (omega arith) is on (sym (ap (λ b. cond b (Some y) (find p (take i ys))) off) ∙ none))
    (cases_Bool (p y))

-- a number that passes is found where no lesser one passes
least : {X : Type 0} (p : ℕ → Bool) (n : ℕ) (xs : List X) (a : ℕ) → n ≤ a → a < n + length xs → p a ≡ true → ((b : ℕ) → b < a → p b ≡ false)
    → find p (numbers_from n xs) ≡ Some a
least p n [] a low high on off = absurd (omega arith)
least p n (x ∷ xs) a low high on off = ⊎_elim
    (λ e. ap (λ b. cond b (Some n) (find p (numbers_from (n + 1) xs))) (ap p e ∙ on) ∙ ap Some e)
    (λ apart.
    ap (λ b. cond b (Some n) (find p (numbers_from (n + 1) xs))) (off n (omega (arith, apart)))
    ∙ least p (n + 1) xs a (omega (arith, apart)) (omega arith) on off)
    (cases_eq n a)

-- what is kept of the names that cells define
module _ (nb : List Cell) (defined : List (List Name)) (kept : AreDefs nb defined) where
  pub same_names : (c : ℕ) → names_in defined c ≡ defs_of nb c
  same_names = names_kept defs nb defined kept

  -- the lists in which a referenced name stands are the parents
  pub same_parents : (c : ℕ) → lists_with defined (refs_of nb c) ≡ parents nb c
  same_parents c =
      filter_alike _ _ (λ a. ap (λ (ns : List Name). list_any (λ x. is_among x ns) (refs_of nb c)) (same_names a)) (numbers_from 0 defined)
      ∙ ap (filter _) (numbers_alike 0 defined nb kept.count)

  pub are_parents : (referenced : List (List Name)) → AreRefs nb referenced → AreParents nb (map (lists_with defined) referenced)
  are_parents referenced read = record {
    count = length-map referenced (lists_with defined) ∙ read.count;
    each = λ c cells h.
        let p = map_at (lists_with defined) referenced c cells h in
        sym p.2 ∙ ap (lists_with defined) (read.each c p.0 p.1) ∙ same_parents c;
  }

  -- a look-up of the definitions: no name is defined in two cells
  pub none_doubled : (at : Name → Option ℕ) → FindsLists defined at → NoneDoubled nb
  none_doubled at f c = none_found (defined_before nb c) (defs_of nb c) (λ x there. false_from_ne_true _ (λ before. twice x there before))
    where
      finds : (x : Name) (a : ℕ) → is_among x (defs_of nb a) ≡ true → at x ≡ Some a
      finds x a h = f.finds x a (ap (is_among x) (same_names a) ∙ h)

      twice : (x : Name) → is_among x (defs_of nb c) ≡ true → defined_before nb c x ≡ true → ⊥
      twice x there before =
          let p = some_passes (λ a. nat_lt a c && is_among x (defs_of nb a)) (all_cells nb) before in
          let parts = and_parts (nat_lt p.0 c) (is_among x (defs_of nb p.0)) p.1 in
          let same : Some p.0 ≡ Some c = sym (finds x p.0 parts.1) ∙ finds x c there in
          let e : p.0 ≡ c = cc in
          let below = ltb-true p.0 c parts.0 in
          omega arith

-- ---- a name that is defined again

-- a look-up of the definitions of the first cells, and of the first names of the next
module _ (nb : List Cell) (lists later : List (List Name)) (names : List Name) (kept : AreDefs nb (lists ++ names ∷ later))
    (i : ℕ) (at : Name → Option ℕ) (f : FindsLists (lists ++ take i names ∷ []) at) where
  of_earlier : (c : ℕ) → c < length lists → defs_of nb c ≡ names_in lists c
  of_earlier c h = sym (same_names nb (lists ++ names ∷ later) kept c) ∙ in_earlier lists (names ∷ later) c h

  of_next : defs_of nb (length lists) ≡ names
  of_next = sym (same_names nb (lists ++ names ∷ later) kept (length lists)) ∙ in_next lists names later

  seen_earlier : (y : Name) (c : ℕ) → c < length lists → is_among y (defs_of nb c) ≡ true → at y ≡ Some c
  seen_earlier y c h there = f.finds y c (ap (is_among y) (in_earlier lists (take i names ∷ []) c h ∙ sym (of_earlier c h)) ∙ there)

  seen_here : (y : Name) → is_among y (take i names) ≡ true → at y ≡ Some (length lists)
  seen_here y there = f.finds y (length lists) (ap (is_among y) (in_next lists (take i names) []) ∙ there)

  -- no earlier cell than the one that is found defines the name
  not_before : (c : ℕ) → c ≤ length lists → (y : Name) → at y ≡ Some c → defined_before nb c y ≡ false
  not_before c h y here = false_from_ne_true _ (λ before.
      let p = some_passes (λ a. nat_lt a c && is_among y (defs_of nb a)) (all_cells nb) before in
      let parts = and_parts (nat_lt p.0 c) (is_among y (defs_of nb p.0)) p.1 in
      let below = ltb-true p.0 c parts.0 in
      let same : Some p.0 ≡ Some c = sym (seen_earlier y p.0 (omega arith) parts.1) ∙ here in
      let e : p.0 ≡ c = cc in
      omega arith)

  -- the next name is found in an earlier cell
  module _ (x : Name) (a : ℕ) (here : at x ≡ Some a) (apart : a ≡ length lists → ⊥) (lt : i < length names) (is : x ≡ get_or names i x) where
    low : a < length lists
    low = omega (arith, apart, within (lists ++ take i names ∷ []) x a (f.stands x a here), length_push lists (take i names))

    fits : a < length nb
    fits = omega (arith, low, kept.count, length-append lists (names ∷ later))

    defined_there : is_among x (defs_of nb a) ≡ true
    defined_there = ap (is_among x) (of_earlier a low ∙ sym (in_earlier lists (take i names ∷ []) a low)) ∙ f.stands x a here

    before_here : defined_before nb (length lists) x ≡ true
    before_here =
        any_from (λ d. nat_lt d (length lists) && is_among x (defs_of nb d)) (all_cells nb) a (is_cell_number nb a fits)
        (and_from _ _ (lt-ltb a (length lists) low) defined_there)

    pub doubled : IsDoubled nb x a (length lists)
    doubled = record {
      again = ap (find (defined_before nb (length lists))) of_next
          ∙ find_at (defined_before nb (length lists)) names i x lt is before_here
          (none_found (defined_before nb (length lists)) (take i names) (λ y there. not_before (length lists) (omega arith) y (seen_here y there)));
      soonest = λ c below. none_found (defined_before nb c) (defs_of nb c) (λ y there. not_before c (omega arith) y (seen_earlier y c below there));
      earliest = least (λ c. is_among x (defs_of nb c)) 0 nb a (omega arith) (omega (arith, fits)) defined_there
          (λ b below. false_from_ne_true _ (λ there.
          let same : Some b ≡ Some a = sym (seen_earlier x b (omega (arith, low)) there) ∙ here in
          let e : b ≡ a = cc in
          omega arith));
    }

-- ---- cells on cycles

-- where the order is short, some cell lies on a cycle
pub some_cyclic : (nb : List Cell) (cells : List ℕ) → AreCyclic nb cells → length (order nb) < length nb → 0 < length cells
some_cyclic nb [] all short = absurd (short_is_cyclic nb short (λ c lies. both_ways false refl (all.every c lies)))
some_cyclic nb (c ∷ cs) all short = omega arith
