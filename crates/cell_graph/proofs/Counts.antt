-- Cells in lists of cells, and how often they stand there.
use Rattle.std.proofs.Common.{◌≡◌, ℕ, zero, suc, ◌+◌, ◌-◌, ◌<◌, ◌≤◌, Bool, true, false, cond, ◌&&◌, ◌||◌, ◌==◌, ⊎_elim, List, [], ◌∷◌, ◌++◌, length, get_or, set, get_or-set_same, get_or-set_other, take, refl, sym, ap, ◌∙◌, subst, arith}
use Rattle.std.specs.Prelude.{nat_lt}
use Rattle.std.specs.List.{All}
use Rattle.std.proofs.Math.Bool.{or-false}
use Rattle.std.proofs.lemmas.Bool.{cases_eq, cases_lt, cases_order, eq-eqb, ne_eqb, lt-ltb, le-ltb, or_left, or_right, and_right, and_from, or_parts, or_from, false_from_ne_true}
use Rattle.std.proofs.lemmas.List.{take_more}
use Rattle.std.proofs.lemmas.List.Folds.{list_any-append}
use Rattle.std.proofs.lemmas.List.Sums.{count_by_more_yes, count_by_more_no, sum_by-cons, sum_by-take-le}
use Rattle.std.proofs.lemmas.Option.{slice_get-get_or}
use Rattle.py_tree.specs.Trees.{Cell}
use Rattle.graph_meaning.specs.Graph.{is_in, parents}
use Rattle.cell_graph.specs.Counts.{list_in, count_of}
use Rattle.cell_graph.specs.Tables.{AreParents}

-- a cell is counted where it is in the list
pub none_counted : (c : ℕ) (cells : List ℕ) → is_in c cells ≡ false → count_of c cells ≡ 0
none_counted c [] off = refl
none_counted c (d ∷ ds) off =
    let parts = or_parts (d == c) (is_in c ds) off in
    sum_by-cons (λ x. cond (x == c) 1 0) d ds ∙ (λ i. cond (parts.0 i) 1 0 + none_counted c ds parts.1 i)

pub not_counted : (c : ℕ) (cells : List ℕ) → count_of c cells ≡ 0 → is_in c cells ≡ false
not_counted c [] none = refl
not_counted c (d ∷ ds) none =
    let e : cond (d == c) 1 0 + count_of c ds ≡ 0 = sym (sum_by-cons (λ x. cond (x == c) 1 0) d ds) ∙ none in
    or_from (d == c) (is_in c ds)
    (false_from_ne_true (d == c) (λ on. let one : 1 + count_of c ds ≡ 0 = sym (ap (λ b. cond b 1 0 + count_of c ds) on) ∙ e in omega arith))
    (not_counted c ds (omega arith))

-- ---- children

pub past_all : (lists : List (List ℕ)) (d : ℕ) → length lists ≤ d → list_in lists d ≡ []
past_all [] d h = refl
past_all (l ∷ ls) zero h = absurd (omega arith)
past_all (l ∷ ls) (suc d) h = past_all ls d (omega arith)

now : (b e m : Bool) (x y : ℕ) → b ≡ false → e ≡ true → m ≡ true → y ≡ x → cond b x 0 + cond e y 0 ≡ cond m x 0
now b e m x y p q r same = let z : 0 + x ≡ x = omega arith in (λ i. cond (p i) x 0 + cond (q i) (same i) 0) ∙ z ∙ ap (λ c. cond c x 0) (sym r)

before : (b e m : Bool) (x y : ℕ) → b ≡ true → e ≡ false → m ≡ true → cond b x 0 + cond e y 0 ≡ cond m x 0
before b e m x y p q r = let z : x + 0 ≡ x = omega arith in (λ i. cond (p i) x 0 + cond (q i) y 0) ∙ z ∙ ap (λ c. cond c x 0) (sym r)

after : (b e m : Bool) (x y : ℕ) → b ≡ false → e ≡ false → m ≡ false → cond b x 0 + cond e y 0 ≡ cond m x 0
after b e m x y p q r = let z : 0 + 0 ≡ 0 = omega arith in (λ i. cond (p i) x 0 + cond (q i) y 0) ∙ z ∙ ap (λ c. cond c x 0) (sym r)

-- the counts of the cells before one, and of that one
pub counts_more : (above : List (List ℕ)) (cell a d : ℕ)
    → cond (nat_lt d cell) (count_of a (list_in above d)) 0 + cond (cell == d) (count_of a (list_in above cell)) 0
    ≡ cond (nat_lt d (cell + 1)) (count_of a (list_in above d)) 0
counts_more above cell a d = ⊎_elim
    (λ same. now _ _ _ _ _ (le-ltb d cell (omega arith)) (eq-eqb cell d (sym same)) (lt-ltb d (cell + 1) (omega arith)) (ap (λ c. count_of a (list_in above c)) (sym same)))
    (λ apart. ⊎_elim
    (λ below. before _ _ _ _ _ (lt-ltb d cell below) (ne_eqb cell d (λ e. omega arith)) (lt-ltb d (cell + 1) (omega arith)))
    (λ past. after _ _ _ _ _ (le-ltb d cell (omega arith)) (ne_eqb cell d (λ e. omega arith)) (le-ltb d (cell + 1) (omega arith)))
    apart)
    (cases_order d cell)

-- past the last cell all are counted
pub counts_all : (above : List (List ℕ)) (n a d : ℕ) → length above ≤ n → cond (nat_lt d n) (count_of a (list_in above d)) 0 ≡ count_of a (list_in above d)
counts_all above n a d h = ⊎_elim
    (λ below. ap (λ b. cond b (count_of a (list_in above d)) 0) (lt-ltb d n below))
    (λ past. ap (λ b. cond b (count_of a (list_in above d)) 0) (le-ltb d n past) ∙ ap (count_of a) (sym (past_all above d (omega arith))))
    (cases_lt d n)

-- ---- cells in a list

-- a fact of each cell in the list
pub all_from_in : (P : ℕ → Type 0) (cs : List ℕ) → ((d : ℕ) → is_in d cs ≡ true → P d) → All P cs
all_from_in P [] each k d lt = absurd (omega arith)
all_from_in P (c ∷ cs) each zero d lt = each c (or_left _ _ (eq-eqb c c refl))
all_from_in P (c ∷ cs) each (suc k) d lt = all_from_in P cs (λ e h. each e (or_right (c == e) _ h)) k d (omega arith)

pub is_in_push : (c e : ℕ) (cells : List ℕ) → is_in c (cells ++ e ∷ []) ≡ (is_in c cells || ((e == c) || false))
is_in_push c e cells = list_any-append (λ d. d == c) cells (e ∷ [])

pub is_in_last : (c : ℕ) (cells : List ℕ) → is_in c (cells ++ c ∷ []) ≡ true
is_in_last c cells = is_in_push c c cells ∙ or_right _ _ (or_left _ _ (eq-eqb c c refl))

-- the list of a cell's parents
pub kept_at : (nb : List Cell) (lists : List (List ℕ)) → AreParents nb lists → (c : ℕ) → c < length lists → list_in lists c ≡ parents nb c
kept_at nb lists kept c lt = kept.each c (list_in lists c) (slice_get-get_or lists c [] lt)

-- ---- cells that wait

-- a child that is to be released waits for a parent
pub still_held : (before waits children : List ℕ) (i : ℕ) → i < length children → ((c : ℕ) → count_of c children ≤ get_or before c 0)
    → ((c : ℕ) → get_or waits c 0 + count_of c (take i children) ≡ get_or before c 0) → 1 ≤ get_or waits (get_or children i 0) 0
still_held before waits children i lt held so_far =
    let e = get_or children i 0 in
    let more = count_by_more_yes (λ d. d == e) children i 0 lt (eq-eqb e e refl) in
    let fewer = sum_by-take-le (λ d. cond (d == e) 1 0) children (i + 1) in
    let bound = held e in
    let now = so_far e in
    omega arith

-- a child more that waits for one less
module _ (waits : List ℕ) (children : List ℕ) (i e : ℕ) (lt : i < length children) (is : get_or children i 0 ≡ e) (there : e < length waits) (least : 1 ≤ get_or waits e 0) where
  abbrev fewer : List ℕ
  fewer = set waits e (get_or waits e 0 - 1)

  at_e : get_or fewer e 0 ≡ get_or waits e 0 - 1
  at_e = get_or-set_same waits e (get_or waits e 0 - 1) 0 there

  at_other : (c : ℕ) → (c ≡ e → ⊥) → get_or fewer c 0 ≡ get_or waits c 0
  at_other c apart = get_or-set_other waits e c (get_or waits e 0 - 1) 0 apart

  pub counted : (c : ℕ) → get_or fewer c 0 + count_of c (take (i + 1) children) ≡ get_or waits c 0 + count_of c (take i children)
  counted c = ⊎_elim
      (λ same.
      let more = count_by_more_yes (λ d. d == c) children i 0 lt (ap (λ d. d == c) is ∙ eq-eqb e c (sym same)) in
      let here : get_or fewer c 0 ≡ get_or waits c 0 - 1 = ap (λ d. get_or fewer d 0) same ∙ at_e ∙ ap (λ d. get_or waits d 0 - 1) (sym same) in
      let positive : 1 ≤ get_or waits c 0 = subst (λ (d : ℕ). 1 ≤ get_or waits d 0) (sym same) least in
      omega arith)
      (λ apart.
      let more = count_by_more_no (λ d. d == c) children i 0 lt (ap (λ d. d == c) is ∙ ne_eqb e c (λ s. apart (sym s))) in
      let here = at_other c apart in
      omega arith)
      (cases_eq c e)

  module _ (p : ℕ → Bool) where
    abbrev old : ℕ → Bool
    old c = p c || (is_in c (take i children) && (get_or waits c 0 == 0))

    abbrev new : ℕ → Bool
    new c = p c || (is_in c (take (i + 1) children) && (get_or fewer c 0 == 0))

    in_more : (c : ℕ) → is_in c (take (i + 1) children) ≡ (is_in c (take i children) || ((e == c) || false))
    in_more c = ap (is_in c) (take_more children i 0 lt ∙ ap (λ d. take i children ++ d ∷ []) is) ∙ is_in_push c e (take i children)

    other_alike : (c : ℕ) → (c ≡ e → ⊥) → old c ≡ new c
    other_alike c apart =
        let off : (e == c) ≡ false = ne_eqb e c (λ s. apart (sym s)) in
        let member : is_in c (take (i + 1) children) ≡ is_in c (take i children) = in_more c ∙ ap (λ b. is_in c (take i children) || (b || false)) off ∙ or-false _ in
        sym (λ j. p c || (member j && (at_other c apart j == 0)))

    old_at_e : old e ≡ (p e || false)
    old_at_e = ap (λ b. p e || b) (and_right _ _ (ne_eqb (get_or waits e 0) 0 (λ z. omega arith)))

    new_at_e : (b : Bool) → (get_or fewer e 0 == 0) ≡ b → new e ≡ (p e || b)
    new_at_e b h =
        let member : is_in e (take (i + 1) children) ≡ true = in_more e ∙ or_right _ _ (or_left _ _ (eq-eqb e e refl)) in
        λ j. p e || (member j && h j)

    -- it waits for none now
    pub freed : (get_or fewer e 0 == 0) ≡ true → (c : ℕ) → (old c || (c == e)) ≡ new c
    freed h c = ⊎_elim
        (λ same. subst (λ (d : ℕ). (old d || (d == e)) ≡ new d) (sym same) (or_right (old e) (e == e) (eq-eqb e e refl) ∙ sym (new_at_e true h ∙ or_right (p e) true refl)))
        (λ apart. ap (λ b. old c || b) (ne_eqb c e apart) ∙ or-false (old c) ∙ other_alike c apart)
        (cases_eq c e)

    -- it waits still
    pub held_still : (get_or fewer e 0 == 0) ≡ false → (c : ℕ) → old c ≡ new c
    held_still h c = ⊎_elim
        (λ same. subst (λ (d : ℕ). old d ≡ new d) (sym same) (old_at_e ∙ sym (new_at_e false h)))
        (λ apart. other_alike c apart)
        (cases_eq c e)

-- ---- cells that wait for none

module _ (waits : List ℕ) (cell : ℕ) where
  below_next : (q : ℕ) → (q ≡ cell → ⊥) → nat_lt q (cell + 1) ≡ nat_lt q cell
  below_next q apart = ⊎_elim
      (λ low. lt-ltb q (cell + 1) (omega arith) ∙ sym (lt-ltb q cell low))
      (λ high. le-ltb q (cell + 1) (omega (arith, apart)) ∙ sym (le-ltb q cell high))
      (cases_lt q cell)

  pub root_here : (get_or waits cell 0 == 0) ≡ true → (q : ℕ) → ((nat_lt q cell && (get_or waits q 0 == 0)) || (q == cell)) ≡ (nat_lt q (cell + 1) && (get_or waits q 0 == 0))
  root_here h q = ⊎_elim
      (λ same.
      or_right _ _ (eq-eqb q cell same)
      ∙ sym (and_from _ _ (lt-ltb q (cell + 1) (omega arith)) (ap (λ d. get_or waits d 0 == 0) same ∙ h)))
      (λ apart.
      ap (λ b. (nat_lt q cell && (get_or waits q 0 == 0)) || b) (ne_eqb q cell apart) ∙ or-false _
      ∙ ap (λ b. b && (get_or waits q 0 == 0)) (sym (below_next q apart)))
      (cases_eq q cell)

  pub root_later : (get_or waits cell 0 == 0) ≡ false → (q : ℕ) → (nat_lt q cell && (get_or waits q 0 == 0)) ≡ (nat_lt q (cell + 1) && (get_or waits q 0 == 0))
  root_later h q = ⊎_elim
      (λ same. let off : (get_or waits q 0 == 0) ≡ false = ap (λ d. get_or waits d 0 == 0) same ∙ h in and_right _ _ off ∙ sym (and_right _ _ off))
      (λ apart. ap (λ b. b && (get_or waits q 0 == 0)) (sym (below_next q apart)))
      (cases_eq q cell)
