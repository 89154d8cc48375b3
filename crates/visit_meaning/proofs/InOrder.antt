-- The cells of the order come after their parents, each once, and each name has one cell that defines it.
use Rattle.std.proofs.Common.{◌≡◌, ◌∙◌, refl, sym, ap, ℕ, zero, suc, ◌<◌, Bool, true, false, cond, ◌&&◌, ◌||◌, ◌==◌, nat_lt, List, [], ◌∷◌, ◌++◌, length, filter, find, Option, Some, None, ⊎_elim, append_assoc, append-nil}
use Rattle.std.specs.List.{list_any, list_all}
use Rattle.std.specs.Str.{bytes_eq}
use Rattle.std.proofs.lemmas.Bool.{and_right, cases_Bool, cases_lt, cases_order, eq-eqb, eqb-true, lt-ltb, and_parts, and_from, or_cases, or_from, or_left, or_right, not-true, both_ways, false_from_ne_true}
use Rattle.std.proofs.lemmas.List.Folds.{list_any-append}
use Rattle.std.proofs.lemmas.Option.{none-some, slice_get_past}
use Rattle.py_tree.specs.Names.{Name, is_among}
use Rattle.py_tree.specs.Scope.{defs}
use Rattle.py_tree.specs.Trees.{Cell}
use Rattle.py_value.proofs.SortedMaps.{name_of}
use Rattle.graph_meaning.specs.Graph.{names_at, defs_of, refs_of, edge, all_cells, is_in, is_ready, next_cell, with_next, places, order, defined_before, NoneDoubled}
use Rattle.visit_meaning.specs.Underway.{defined_in}
use Rattle.graph_meaning.proofs.Orders.{in_more, next_found, is_cell_number}

-- ---- tests of lists

-- one of the numbers passes the test
pub some_at : (t : ℕ → Bool) (cs : List ℕ) → list_any t cs ≡ true → (a : ℕ) × (is_in a cs ≡ true) × (t a ≡ true)
some_at t [] h = absurd (both_ways false refl h)
some_at t (c ∷ cs) h = ⊎_elim
    (λ here. (c, or_left (c == c) _ (eq-eqb c c refl), here))
    (λ later. let w = some_at t cs later in (w.0, or_right (c == w.0) _ w.1, w.2))
    (or_cases (t c) (list_any t cs) h)

pub any_at : (t : ℕ → Bool) (cs : List ℕ) (a : ℕ) → is_in a cs ≡ true → t a ≡ true → list_any t cs ≡ true
any_at t [] a h on = absurd (both_ways false refl h)
any_at t (c ∷ cs) a h on = ⊎_elim
    (λ same. or_left (t c) _ (ap t (eqb-true c a same) ∙ on))
    (λ later. or_right (t c) _ (any_at t cs a later on))
    (or_cases (c == a) _ h)

pub any_name : (t : Name → Bool) (names : List Name) (x : Name) → is_among x names ≡ true → t x ≡ true → list_any t names ≡ true
any_name t [] x h on = absurd (both_ways false refl h)
any_name t (y ∷ ys) x h on = ⊎_elim
    (λ same. or_left (t y) _ (ap t (name_of y x same) ∙ on))
    (λ later. or_right (t y) _ (any_name t ys x later on))
    (or_cases (bytes_eq y x) _ h)

-- where no name passes, none of them does
none_passes : (t : Name → Bool) (names : List Name) (x : Name) → find t names ≡ None → is_among x names ≡ true → t x ≡ false
none_passes t [] x e h = absurd (both_ways false refl h)
none_passes t (y ∷ ys) x e h = ⊎_elim
    (λ yes. let bad : Some y ≡ None = rw yes at e in absurd (none-some y (sym bad)))
    (λ no. ⊎_elim (λ same. sym (ap t (name_of y x same)) ∙ no) (λ later. none_passes t ys x (rw no at e) later) (or_cases (bytes_eq y x) _ h))
    (cases_Bool (t y))

-- two tests that agree on what a third one keeps
pub all_agree : (keeps p q : ℕ → Bool) (cs : List ℕ) → ((a : ℕ) → keeps a ≡ true → p a ≡ q a) → list_all p (filter keeps cs) ≡ list_all q (filter keeps cs)
all_agree keeps p q [] h = refl
all_agree keeps p q (c ∷ cs) h = ⊎_elim
    (λ yes. rw yes (λ i. h c yes i && all_agree keeps p q cs h i))
    (λ no. rw no (all_agree keeps p q cs h))
    (cases_Bool (keeps c))

-- ---- cells and their names

pub definer_below : (nb : List Cell) (a : ℕ) (x : Name) → is_among x (defs_of nb a) ≡ true → a < length nb
definer_below nb a x h = ⊎_elim
    (λ below. below)
    (λ past. absurd (both_ways _ (ap (λ o. is_among x (names_at defs o)) (slice_get_past nb a past)) h))
    (cases_lt a (length nb))

-- a cell that defines what another references is its parent
pub defines_edge : (nb : List Cell) (a b : ℕ) (x : Name) → is_among x (refs_of nb b) ≡ true → is_among x (defs_of nb a) ≡ true → edge nb a b ≡ true
defines_edge nb a b x read defined = any_name (λ y. is_among y (defs_of nb a)) (refs_of nb b) x read defined

not_defined_twice : (nb : List Cell) (a b : ℕ) (x : Name) → NoneDoubled nb → a < b → is_among x (defs_of nb a) ≡ true
    → is_among x (defs_of nb b) ≡ true → ⊥
not_defined_twice nb a b x once below first second =
    let earlier = λ (d : ℕ). nat_lt d b && is_among x (defs_of nb d) in
    both_ways (defined_before nb b x) (none_passes (defined_before nb b) (defs_of nb b) x (once b) second)
    (any_at earlier (all_cells nb) a (is_cell_number nb a (definer_below nb a x first)) (and_from (nat_lt a b) _ (lt-ltb a b below) first))

-- a name has one cell that defines it
pub one_definer : (nb : List Cell) (a b : ℕ) (x : Name) → NoneDoubled nb → is_among x (defs_of nb a) ≡ true → is_among x (defs_of nb b) ≡ true → a ≡ b
one_definer nb a b x once first second = ⊎_elim
    (λ same. same)
    (λ apart. ⊎_elim (λ below. absurd (not_defined_twice nb a b x once below first second)) (λ above. absurd (not_defined_twice nb b a x once above second first)) apart)
    (cases_order a b)

-- ---- cells that come in order

-- with `done` listed before, each of these cells is listed when it is ready
abbrev pub ComesInOrder : List Cell → List ℕ → List ℕ → Type 0
ComesInOrder nb done [] = Unit {0}
ComesInOrder nb done (c ∷ cs) = (is_ready nb done c ≡ true) × (c < length nb) × ComesInOrder nb (done ++ c ∷ []) cs

comes_push : (nb : List Cell) (done cs : List ℕ) (d : ℕ) → ComesInOrder nb done cs → is_ready nb (done ++ cs) d ≡ true → d < length nb
    → ComesInOrder nb done (cs ++ d ∷ [])
comes_push nb done [] d comes ready below = (ap (λ l. is_ready nb l d) (sym (append-nil done)) ∙ ready, below, tt)
comes_push nb done (c ∷ cs) d comes ready below =
    (comes.0, comes.1, comes_push nb (done ++ c ∷ []) cs d comes.2 (ap (λ l. is_ready nb l d) (append_assoc done (c ∷ []) cs) ∙ ready) below)

next_comes : (nb : List Cell) (listed : List ℕ) (o : Option ℕ) → next_cell nb listed ≡ o → ComesInOrder nb [] listed → ComesInOrder nb [] (with_next o listed)
next_comes nb listed None e comes = comes
next_comes nb listed (Some c) e comes = let f = next_found nb listed c e in comes_push nb [] listed c comes f.0 f.1

places_come : (nb : List Cell) (k : ℕ) → ComesInOrder nb [] (places nb k)
places_come nb zero = tt
places_come nb (suc k) = next_comes nb (places nb k) (next_cell nb (places nb k)) refl (places_come nb k)

pub order_comes : (nb : List Cell) → ComesInOrder nb [] (order nb)
order_comes nb = places_come nb (length nb)

-- a cell that is ready isn't listed
pub ready_unlisted : (nb : List Cell) (done : List ℕ) (c : ℕ) → is_ready nb done c ≡ true → is_in c done ≡ false
ready_unlisted nb done c ready = not-true (is_in c done) (and_parts _ _ ready).0

apart_from : (done : List ℕ) (a c : ℕ) → is_in c done ≡ false → is_in a done ≡ true → (c == a) ≡ false
apart_from done a c off on = false_from_ne_true (c == a) (λ same. both_ways (is_in a done) (ap (λ d. is_in d done) (sym (eqb-true c a same)) ∙ off) on)

-- what is listed doesn't come again
pub comes_once : (nb : List Cell) (done cs : List ℕ) (a : ℕ) → ComesInOrder nb done cs → is_in a done ≡ true → is_in a cs ≡ false
comes_once nb done [] a comes h = refl
comes_once nb done (c ∷ cs) a comes h =
    or_from (c == a) (is_in a cs) (apart_from done a c (ready_unlisted nb done c comes.0) h)
    (comes_once nb (done ++ c ∷ []) cs a comes.2 (in_more a c done h))

-- no later cell defines what one defines
pub defs_settled : (nb : List Cell) (done cs : List ℕ) (c : ℕ) (x : Name) → NoneDoubled nb → ComesInOrder nb done cs → is_in c done ≡ true
    → is_among x (defs_of nb c) ≡ true → defined_in nb cs x ≡ false
defs_settled nb done cs c x once comes listed defined = false_from_ne_true (defined_in nb cs x)
    (λ h.
    let w = some_at (λ a. is_among x (defs_of nb a)) cs h in
    let same : w.0 ≡ c = one_definer nb w.0 c x once w.2 defined in
    both_ways (is_in w.0 cs) (ap (λ a. is_in a cs) same ∙ comes_once nb done cs c comes listed) w.1)

-- ---- numbers in lists

pub is_last : (c : ℕ) (cs : List ℕ) → is_in c (cs ++ c ∷ []) ≡ true
is_last c cs = list_any-append (λ d. d == c) cs (c ∷ []) ∙ or_right (is_in c cs) _ (or_left (c == c) false (eq-eqb c c refl))

-- each number once
abbrev pub EachOnce : List ℕ → Type 0
EachOnce [] = Unit {0}
EachOnce (c ∷ cs) = (is_in c cs ≡ false) × EachOnce cs

each_once : (nb : List Cell) (done cs : List ℕ) → ComesInOrder nb done cs → EachOnce cs
each_once nb done [] comes = tt
each_once nb done (c ∷ cs) comes = (comes_once nb (done ++ c ∷ []) cs c comes.2 (is_last c done), each_once nb (done ++ c ∷ []) cs comes.2)

pub order_once : (nb : List Cell) → EachOnce (order nb)
order_once nb = each_once nb [] (order nb) (order_comes nb)

-- a number that a test keeps
kept_by : (t : ℕ → Bool) (c d : ℕ) (ds : List ℕ) (b on : Bool) → (d == c) ≡ b → t d ≡ on → is_in c (filter t ds) ≡ (is_in c ds && t c)
    → is_in c (cond on (d ∷ filter t ds) (filter t ds)) ≡ ((b || is_in c ds) && t c)
kept_by t c d ds true true same on h =
    ap (λ b. b || is_in c (filter t ds)) same ∙ sym (ap t (sym (eqb-true d c same)) ∙ on)
kept_by t c d ds true false same off h =
    let fails : t c ≡ false = ap t (sym (eqb-true d c same)) ∙ off in
    h ∙ and_right (is_in c ds) (t c) fails ∙ sym fails
kept_by t c d ds false true apart on h = ap (λ b. b || is_in c (filter t ds)) apart ∙ h
kept_by t c d ds false false apart off h = h

pub is_in_filter : (t : ℕ → Bool) (c : ℕ) (cs : List ℕ) → is_in c (filter t cs) ≡ (is_in c cs && t c)
is_in_filter t c [] = refl
is_in_filter t c (d ∷ ds) = kept_by t c d ds (d == c) (t d) refl refl (is_in_filter t c ds)

-- it is in the list
pub in_all : (t : ℕ → Bool) (c : ℕ) (cs : List ℕ) → is_in c (filter t cs) ≡ true → is_in c cs ≡ true
in_all t c cs h = (and_parts (is_in c cs) (t c) (sym (is_in_filter t c cs) ∙ h)).0

-- a name that no cell defines
pub defined_nowhere : (nb : List Cell) (cells : List ℕ) (x : Name) → ((a : ℕ) → is_among x (defs_of nb a) ≡ false) → defined_in nb cells x ≡ false
defined_nowhere nb [] x none = refl
defined_nowhere nb (c ∷ cs) x none = or_from (is_among x (defs_of nb c)) (defined_in nb cs x) (none c) (defined_nowhere nb cs x none)
