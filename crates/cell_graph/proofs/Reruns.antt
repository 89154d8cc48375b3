-- A test that spreads from cells to their children, and the cells that pass it, found in their order.
use Rattle.std.proofs.Common.{◌≡◌, ℕ, zero, suc, ◌+◌, ◌-◌, ◌<◌, ◌≤◌, Bool, true, false, cond, not, ◌&&◌, ◌||◌, ◌==◌, ◌⊎◌, ⊎_elim, List, [], ◌∷◌, ◌++◌, length, get_or, take, filter, find, Some, None, refl, sym, ap, ◌∙◌, subst, arith}
use Rattle.std.specs.Prelude.{nat_le}
use Rattle.std.specs.List.{list_any}
use Rattle.std.proofs.lemmas.Bool.{both_ways, cases_Bool, cases_eq, cases_lt, cases_order, eq-eqb, ne_eqb, and_parts, and_left, and_right, and_from, or_cases, or_left, or_right, or_from, not_from_true, not_from_false, false_from_ne_true, leb-true, le-leb, lt-leb}
use Rattle.std.proofs.lemmas.List.{append-nil, get_or_past, length-take-le, take_all}
use Rattle.std.proofs.lemmas.List.Elements.{filter_more}
use Rattle.std.proofs.lemmas.List.Folds.{list_any-append}
use Rattle.std.proofs.lemmas.List.Filters.{length-filter_both}
use Rattle.graph_meaning.specs.Graph.{numbers_from, is_in}
use Rattle.graph_meaning.proofs.Reachability.{any_from, some_in, passes, is_kept}
use Rattle.cell_graph.specs.Counts.{list_in}
use Rattle.cell_graph.specs.Places.{is_placed, ArePlaced}
use Rattle.cell_graph.proofs.Numbers.{numbers_alike, filter_within, Popped, popped}
use Rattle.cell_graph.proofs.Counts.{past_all}

-- ---- lists of numbers

-- a number that is found has none before it that passes
none_before : {X : Type 0} (p : ℕ → Bool) (n : ℕ) (xs : List X) (c : ℕ) → find p (numbers_from n xs) ≡ Some c
    → (q : ℕ) → n ≤ q → q < c → p q ≡ false
none_before p n [] c h q low high = let bad : None ≡ Some c = h in absurd cc
none_before p n (x ∷ xs) c h q low high = ⊎_elim
    (λ on. let here : Some n ≡ Some c = rw on at h in let same : n ≡ c = cc in absurd (omega arith))
    (λ off. ⊎_elim
    (λ same. sym (ap p same) ∙ off)
    (λ apart. none_before p (n + 1) xs c (rw off at h) q (omega arith) high)
    (cases_eq n q))
    (cases_Bool (p n))

-- where no number is left, none passes
none_left : {X : Type 0} (p : ℕ → Bool) (n : ℕ) (xs : List X) → filter p (numbers_from n xs) ≡ []
    → (q : ℕ) → n ≤ q → q < n + length xs → p q ≡ false
none_left p n [] h q low high = absurd (omega arith)
none_left p n (x ∷ xs) h q low high = ⊎_elim
    (λ on. let bad : n ∷ filter p (numbers_from (n + 1) xs) ≡ [] = rw on at h in absurd cc)
    (λ off. ⊎_elim
    (λ same. sym (ap p same) ∙ off)
    (λ apart. none_left p (n + 1) xs (rw off at h) q (omega arith) (omega arith))
    (cases_eq n q))
    (cases_Bool (p n))

-- an element of the first i is in them
pub in_front : (i : ℕ) (xs : List ℕ) (q : ℕ) → q < i → q < length xs → is_in (get_or xs q 0) (take i xs) ≡ true
in_front zero xs q low high = absurd (omega arith)
in_front (suc i) [] q low high = absurd (omega arith)
in_front (suc i) (x ∷ xs) zero low high = or_left _ _ (eq-eqb x x refl)
in_front (suc i) (x ∷ xs) (suc q) low high = or_right (x == get_or xs q 0) _ (in_front i xs q (omega arith) (omega arith))

-- what waits from a later place on
past : (t b u k : Bool) (v : Bool) → b ≡ false → k ≡ false → u ≡ false → ((t && b) || u) ≡ (k && v)
past t b u k v off none child = ap (λ x. (t && x) || u) off ∙ or_from _ _ (and_right t false refl) child ∙ sym (and_left k v none)

early : (t b u k : Bool) (v : Bool) → t ≡ false → k ≡ false → u ≡ false → ((t && b) || u) ≡ (k && v)
early t b u k v off none child = or_from _ _ (and_left t b off) child ∙ sym (and_left k v none)

later : (f b k : Bool) → f ≡ true → b ≡ true → k ≡ true → (r l u : Bool) → (((f && (r || l)) && b) || u) ≡ (k && (r || (l || (u || false))))
later f b k on apart behind r l u = (λ i. ((on i && (r || l)) && apart i) || u) ∙ joined r l u ∙ ap (λ x. x && (r || (l || (u || false)))) (sym behind)
  where
    joined : (r l u : Bool) → (((true && (r || l)) && true) || u) ≡ (true && (r || (l || (u || false))))
    joined true l u = refl
    joined false true u = refl
    joined false false true = refl
    joined false false false = refl

-- the place is that of one of these cells where one of them stands there
pub placed_in : (ordered places : List ℕ) (below : List (List ℕ)) → ArePlaced ordered places below → (cs : List ℕ)
    → ((d : ℕ) → is_in d cs ≡ true → d < length ordered) → (q : ℕ) → q < length ordered → is_placed places cs q ≡ is_in (get_or ordered q 0) cs
placed_in ordered places below placed [] inside q h = refl
placed_in ordered places below placed (d ∷ ds) inside q h =
    let there = inside d (or_left _ _ (eq-eqb d d refl)) in
    ap (λ b. b || is_placed places ds q) (⊎_elim
    (λ same. eq-eqb q _ same ∙ sym (eq-eqb d _ (sym (ap (λ (k : ℕ). get_or ordered k 0) same ∙ placed.cell d there))))
    (λ apart. ne_eqb q _ apart ∙ sym (ne_eqb d _ (λ e. apart (sym (placed.place q h) ∙ ap (λ (k : ℕ). get_or places k 0) (sym e)))))
    (cases_eq q (get_or places d 0)))
    ∙ ap (λ b. (d == get_or ordered q 0) || b) (placed_in ordered places below placed ds (λ e g. inside e (or_right (d == e) _ g)) q h)

-- a child is a cell
pub child_inside : (ordered places : List ℕ) (below : List (List ℕ)) → ArePlaced ordered places below → (a d : ℕ)
    → is_in d (list_in below a) ≡ true → d < length ordered
child_inside ordered places below placed a d h = ⊎_elim
    (λ low. low)
    (λ past.
    let none = get_or_past places d 0 (omega (arith, placed.count)) in
    let before = placed.behind a d h in
    absurd (omega arith))
    (cases_lt d (length ordered))

-- ---- a test that spreads

-- w holds just of the cells that pass p, and of the children of those of which w holds
pub record Spreads (below : List (List ℕ)) (p w : ℕ → Bool) : Type 0 where
  pub starts : (c : ℕ) → p c ≡ true → w c ≡ true
  pub down : (a c : ℕ) → w a ≡ true → is_in c (list_in below a) ≡ true → w c ≡ true
  pub up : (c : ℕ) → w c ≡ true → (p c ≡ true) ⊎ ((a : ℕ) × (w a ≡ true) × (is_in c (list_in below a) ≡ true))

-- a cell passes p, or is a child of one that is listed
abbrev pub is_due : List (List ℕ) → (ℕ → Bool) → List ℕ → ℕ → Bool
is_due below p listed c = p c || list_any (λ a. is_in c (list_in below a)) listed

-- the cell of a place, from one place on, is due
abbrev pub is_waiting : List ℕ → List (List ℕ) → (ℕ → Bool) → List ℕ → ℕ → ℕ → Bool
is_waiting ordered below p listed from q = nat_le from q && is_due below p listed (get_or ordered q 0)

-- Up to a place the cells of which w holds are listed; from there on those that are due wait.
pub record IsSpread (ordered : List ℕ) (below : List (List ℕ)) (p w : ℕ → Bool) (listed pending : List ℕ) : Type 0 where
  pub from : ℕ
  pub fits : from ≤ length ordered
  pub done : listed ≡ filter w (take from ordered)
  pub waits : pending ≡ filter (is_waiting ordered below p listed from) (numbers_from 0 ordered)

-- at first none is listed, and those that pass p wait
pub at_first : (ordered : List ℕ) (below : List (List ℕ)) (p w : ℕ → Bool) (pending : List ℕ)
    → pending ≡ filter (λ q. p (get_or ordered q 0)) (numbers_from 0 ordered) → IsSpread ordered below p w [] pending
at_first ordered below p w pending h = record {
  from = 0;
  fits = omega arith;
  done = refl;
  waits = h ∙ filter_within (λ q. p (get_or ordered q 0)) (is_waiting ordered below p [] 0) 0 ordered (λ q low high. plain (nat_le 0 q) (le-leb 0 q low) (p (get_or ordered q 0)));
}
  where
    plain : (b : Bool) → b ≡ true → (t : Bool) → t ≡ (b && (t || false))
    plain true e true = refl
    plain true e false = refl
    plain false e t = absurd (both_ways false refl e)

pub same_spread : (ordered : List ℕ) (below : List (List ℕ)) (p w : ℕ → Bool) (listed pending listed_now pending_now : List ℕ)
    → listed_now ≡ listed → pending_now ≡ pending → IsSpread ordered below p w listed pending → IsSpread ordered below p w listed_now pending_now
same_spread ordered below p w listed pending listed_now pending_now l r s =
    subst (λ (ls : List ℕ). IsSpread ordered below p w ls pending_now) (sym l) (subst (IsSpread ordered below p w listed) (sym r) s)

module _ (ordered places : List ℕ) (below : List (List ℕ)) (placed : ArePlaced ordered places below) (p w : ℕ → Bool)
    (spreads : Spreads below p w) (listed pending : List ℕ) (s : IsSpread ordered below p w listed pending) where
  abbrev waiting : ℕ → Bool
  waiting = is_waiting ordered below p listed s.from

  -- one with a child is a cell
  parent_there : (a c : ℕ) → is_in c (list_in below a) ≡ true → a < length ordered
  parent_there a c h = ⊎_elim
      (λ low. omega (arith, placed.lists))
      (λ past. absurd (both_ways false refl (sym (ap (is_in c) (past_all below a past)) ∙ h)))
      (cases_lt a (length below))

  was_listed : (a : ℕ) → is_in a listed ≡ true → w a ≡ true
  was_listed a h = passes w (take s.from ordered) a (sym (ap (is_in a) s.done) ∙ h)

  -- w holds of a cell that waits
  due_passes : (c : ℕ) → is_due below p listed c ≡ true → w c ≡ true
  due_passes c h = ⊎_elim
      (λ on. spreads.starts c on)
      (λ child. let a = some_in (λ d. is_in c (list_in below d)) listed child in spreads.down a.0 c (was_listed a.0 a.2) a.1)
      (or_cases (p c) _ h)

  -- where none waits before a place, w holds of none from there on before it
  module _ (end : ℕ) (fits : end ≤ length ordered) (none : (q : ℕ) → q < end → is_waiting ordered below p listed s.from q ≡ false) where
    skipped : (n q : ℕ) → q < n → s.from ≤ q → q < end → w (get_or ordered q 0) ≡ false
    skipped zero q low from high = absurd (omega arith)
    skipped (suc n) q low from high = false_from_ne_true _ (λ on. ⊎_elim
        (λ here. both_ways _ (none q high) (and_from _ _ (le-leb s.from q from) (or_left _ _ here)))
        (λ child.
        let a = child.0 in
        let there = parent_there a (get_or ordered q 0) child.2 in
        let before = placed.behind a (get_or ordered q 0) child.2 in
        let own = placed.place q (omega arith) in
        let cell = placed.cell a there in
        ⊎_elim
        (λ earlier.
        let front : is_in a (take s.from ordered) ≡ true =
        ap (λ (d : ℕ). is_in d (take s.from ordered)) (sym cell) ∙ in_front s.from ordered (get_or places a 0) earlier (placed.there a there) in
        let member : is_in a listed ≡ true = ap (is_in a) s.done ∙ is_kept w (take s.from ordered) a front child.1 in
        both_ways _ (none q high)
        (and_from _ _ (le-leb s.from q from) (or_right (p (get_or ordered q 0)) _ (any_from (λ d. is_in (get_or ordered q 0) (list_in below d)) listed a member child.2))))
        (λ later.
        both_ways _ (skipped n (get_or places a 0) (omega arith) later (omega arith)) (ap w cell ∙ child.1))
        (cases_lt (get_or places a 0) s.from))
        (spreads.up (get_or ordered q 0) on))

    -- so no more of the cells before it are to be listed
    same_front : (j : ℕ) → s.from + j ≤ end → filter w (take (s.from + j) ordered) ≡ listed
    same_front zero h = let e : s.from + 0 ≡ s.from = omega arith in ap (λ k. filter w (take k ordered)) e ∙ sym s.done
    same_front (suc j) h =
        let e : s.from + suc j ≡ (s.from + j) + 1 = omega arith in
        let off = skipped (suc (s.from + j)) (s.from + j) (omega arith) (omega arith) (omega arith) in
        ap (λ k. filter w (take k ordered)) e
        ∙ filter_more w ordered (s.from + j) 0 (omega arith)
        ∙ ap (λ b. filter w (take (s.from + j) ordered) ++ cond b (get_or ordered (s.from + j) 0 ∷ []) []) off
        ∙ append-nil _ ∙ same_front j (omega arith)

    front_listed : s.from ≤ end → filter w (take end ordered) ≡ listed
    front_listed h = let e : end ≡ s.from + (end - s.from) = omega arith in ap (λ k. filter w (take k ordered)) e ∙ same_front (end - s.from) (omega arith)

  -- where none waits, all are listed
  pub all_listed : pending ≡ [] → listed ≡ filter w ordered
  all_listed none =
      let absent : filter waiting (numbers_from 0 ordered) ≡ [] = sym s.waits ∙ none in
      sym (front_listed (length ordered) (omega arith) (λ q h. none_left waiting 0 ordered absent q (omega arith) (omega arith)) s.fits)
      ∙ ap (filter w) (take_all (length ordered) ordered (omega arith))

  -- the first place of those that wait is taken
  module _ (c : ℕ) (rest : List ℕ) (pop : pending ≡ c ∷ rest) where
    abbrev first : Popped (is_waiting ordered below p listed s.from) 0 ordered c rest
    first = popped (is_waiting ordered below p listed s.from) 0 ordered c rest (sym s.waits ∙ pop)

    -- those that are left
    pub left_of : rest ≡ filter (λ q. is_waiting ordered below p listed s.from q && not (q == c)) (numbers_from 0 places)
    left_of = first.others ∙ ap (filter _) (sym (numbers_alike 0 places ordered placed.count))

    pub high : c < length ordered
    high = omega (arith, first.high)

    from_low : s.from ≤ c
    from_low = leb-true s.from c (and_parts (nat_le s.from c) _ first.passes).0

    none_earlier : (q : ℕ) → q < c → is_waiting ordered below p listed s.from q ≡ false
    none_earlier q h = none_before waiting 0 ordered c first.found q (omega arith) h

    pub few : length listed < length ordered
    few =
        let size = ap (λ (ls : List ℕ). length ls) s.done in
        let most = length-filter_both w (λ x. not (w x)) (λ x. refl) (take s.from ordered) in
        let front = length-take-le s.from ordered s.fits in
        omega (arith, high, from_low)

    -- ---- the cell is listed, and its children wait

    listed_more : listed ++ get_or ordered c 0 ∷ [] ≡ filter w (take (c + 1) ordered)
    listed_more =
        let on : w (get_or ordered c 0) ≡ true = due_passes (get_or ordered c 0) (and_parts (nat_le s.from c) _ first.passes).1 in
        ap (λ ls. ls ++ get_or ordered c 0 ∷ []) (sym (front_listed c (omega (arith, high)) none_earlier from_low))
        ∙ ap (λ b. filter w (take c ordered) ++ cond b (get_or ordered c 0 ∷ []) []) (sym on)
        ∙ sym (filter_more w ordered c 0 high)

    waiting_more : (q : ℕ) → q < length ordered
        → ((is_waiting ordered below p listed s.from q && not (q == c)) || is_placed places (list_in below (get_or ordered c 0)) q)
        ≡ is_waiting ordered below p (listed ++ get_or ordered c 0 ∷ []) (c + 1) q
    waiting_more q h =
        ap (λ b. (is_waiting ordered below p listed s.from q && not (q == c)) || b) (placed_in ordered places below placed (list_in below (get_or ordered c 0)) (child_inside ordered places below placed (get_or ordered c 0)) q h)
        ∙ ⊎_elim
        (λ same. past _ (not (q == c)) _ _ _ (not_from_true _ (eq-eqb q c same)) (lt-leb (c + 1) q (omega arith)) (not_before q h (omega arith)))
        (λ apart. ⊎_elim
        (λ before. early _ (not (q == c)) _ _ _ (none_earlier q before) (lt-leb (c + 1) q (omega arith)) (not_before q h (omega arith)))
        (λ behind. later (nat_le s.from q) (not (q == c)) (nat_le (c + 1) q) (le-leb s.from q (omega (arith, from_low))) (not_from_false _ (ne_eqb q c (λ e. omega arith)))
        (le-leb (c + 1) q (omega arith)) (p (get_or ordered q 0)) (list_any (λ a. is_in (get_or ordered q 0) (list_in below a)) listed) (is_in (get_or ordered q 0) (list_in below (get_or ordered c 0)))
        ∙ ap (λ b. nat_le (c + 1) q && (p (get_or ordered q 0) || b)) (sym (list_any-append (λ a. is_in (get_or ordered q 0) (list_in below a)) listed (get_or ordered c 0 ∷ []))))
        apart)
        (cases_order q c)
      where
        not_before : (q : ℕ) → q < length ordered → q ≤ c → is_in (get_or ordered q 0) (list_in below (get_or ordered c 0)) ≡ false
        not_before q h low = false_from_ne_true _ (λ child.
            let behind = placed.behind (get_or ordered c 0) (get_or ordered q 0) child in
            let own = placed.place q h in
            let first_own = placed.place c high in
            omega arith)

    pub spread_more : (now : List ℕ)
        → now ≡ filter (λ q. (is_waiting ordered below p listed s.from q && not (q == c)) || is_placed places (list_in below (get_or ordered c 0)) q) (numbers_from 0 places)
        → IsSpread ordered below p w (listed ++ get_or ordered c 0 ∷ []) now
    spread_more now h = record {
      from = c + 1;
      fits = omega (arith, high);
      done = listed_more;
      waits = h ∙ ap (filter _) (numbers_alike 0 places ordered placed.count) ∙ filter_within _ _ 0 ordered (λ q low top. waiting_more q (omega arith));
    }
