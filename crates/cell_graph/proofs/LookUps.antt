-- Look-ups that find the list in which a name stands.
use Rattle.std.proofs.Common.{◌≡◌, ℕ, zero, suc, ◌<◌, ◌≤◌, Bool, true, false, cond, ◌||◌, ◌==◌, ◌⊎◌, inl, inr, ⊎_elim, List, [], ◌∷◌, ◌++◌, length, Option, Some, None, slice_get, get_or, refl, sym, ap, ◌∙◌, subst, arith}
use Rattle.std.specs.Prelude.{unwrap_or}
use Rattle.std.specs.BTreeSet.{insert_key}
use Rattle.std.specs.Ordering.{nat_cmp}
use Rattle.std.specs.List.{list_any}
use Rattle.std.specs.Str.{bytes_eq}
use Rattle.std.proofs.Math.Bool.{or-false}
use Rattle.std.proofs.lemmas.Bool.{both_ways, cases_Bool, cases_lt, cases_order, eq-eqb, ne_eqb, or_cases, or_left, or_right, false_from_ne_true}
use Rattle.std.proofs.lemmas.List.Folds.{list_any-append}
use Rattle.std.proofs.lemmas.Option.{slice_get-get_or, slice_get_past}
use Rattle.std.proofs.lemmas.Slice.Eq.{bytes_eq-Decides}
use Rattle.py_tree.specs.Names.{Name, is_among}
use Rattle.py_tree.specs.Trees.{Cell}
use Rattle.py_tree.proofs.NamesOf.{among_append}
use Rattle.graph_meaning.specs.Graph.{names_at, numbers_from}
use Rattle.cell_graph.specs.Definers.{names_in, FindsLists, lists_with}
use Rattle.cell_graph.specs.Tables.{AreNames}
use Rattle.cell_graph.proofs.Names.{filter_alike}
use Rattle.cell_graph.proofs.Numbers.{inserted}

-- ---- lists more

pub in_earlier : (lists rest : List (List Name)) (a : ℕ) → a < length lists → names_in (lists ++ rest) a ≡ names_in lists a
in_earlier [] rest a h = absurd (omega arith)
in_earlier (l ∷ ls) rest zero h = refl
in_earlier (l ∷ ls) rest (suc a) h = in_earlier ls rest a (omega arith)

pub in_next : (lists : List (List Name)) (next : List Name) (rest : List (List Name)) → names_in (lists ++ next ∷ rest) (length lists) ≡ next
in_next [] next rest = refl
in_next (l ∷ ls) next rest = in_next ls next rest

in_none : (lists : List (List Name)) (last : List Name) (a : ℕ) → length lists < a → names_in (lists ++ last ∷ []) a ≡ []
in_none [] last zero h = absurd (omega arith)
in_none [] last (suc a) h = refl
in_none (l ∷ ls) last zero h = absurd (omega arith)
in_none (l ∷ ls) last (suc a) h = in_none ls last a (omega arith)

nowhere : (lists : List (List Name)) (a : ℕ) → length lists ≤ a → names_in lists a ≡ []
nowhere [] a h = refl
nowhere (l ∷ ls) zero h = absurd (omega arith)
nowhere (l ∷ ls) (suc a) h = nowhere ls a (omega arith)

-- a name stands only in lists that are there
pub within : (lists : List (List Name)) (x : Name) (a : ℕ) → is_among x (names_in lists a) ≡ true → a < length lists
within lists x a h = ⊎_elim
    (λ below. below)
    (λ past. absurd (both_ways false refl (sym (ap (is_among x) (nowhere lists a past)) ∙ h)))
    (cases_lt a (length lists))

-- ---- the names that cells have by f

pub names_kept : (f : Cell → List Name) (nb : List Cell) (lists : List (List Name)) → AreNames (λ cells c. names_at f (slice_get cells c)) nb lists
    → (c : ℕ) → names_in lists c ≡ names_at f (slice_get nb c)
names_kept f nb lists kept c = by (slice_get lists c) refl
  where
    by : (o : Option (List Name)) → slice_get lists c ≡ o → unwrap_or o [] ≡ names_at f (slice_get nb c)
    by (Some names) h = kept.each c names h
    by None h = ⊎_elim
        (λ below. let bad : None ≡ Some (get_or lists c []) = sym h ∙ slice_get-get_or lists c [] below in absurd cc)
        (λ past. sym (ap (names_at f) (slice_get_past nb c (subst (λ (n : ℕ). n ≤ c) kept.count past))))
        (cases_lt c (length lists))

-- ---- look-ups

-- a name that the test takes for itself
pub is_itself : (x : Name) → bytes_eq x x ≡ true
is_itself x = (bytes_eq-Decides x x).1 refl

same_names : (lists : List (List Name)) (a : ℕ) → names_in (lists ++ [] ∷ []) a ≡ names_in lists a
same_names [] zero = refl
same_names [] (suc a) = refl
same_names (l ∷ ls) zero = refl
same_names (l ∷ ls) (suc a) = same_names ls a

-- an empty list more
pub one_empty : (lists : List (List Name)) (at : Name → Option ℕ) → FindsLists lists at → FindsLists (lists ++ [] ∷ []) at
one_empty lists at f = record {
  stands = λ x a h. ap (is_among x) (same_names lists a) ∙ f.stands x a h;
  finds = λ x a h. f.finds x a (sym (ap (is_among x) (same_names lists a)) ∙ h);
}

-- ---- one name more in the last list, which no earlier list has

module _ (lists : List (List Name)) (names : List Name) (x : Name) (at : Name → Option ℕ) where
  abbrev old : List (List Name)
  old = lists ++ names ∷ []

  abbrev new : List (List Name)
  new = lists ++ (names ++ x ∷ []) ∷ []

  abbrev at_new : Name → Option ℕ
  at_new q = cond (bytes_eq x q) (Some (length lists)) (at q)

  -- a name that stands in an old list stands in the new one
  still : (q : Name) (a : ℕ) → is_among q (names_in old a) ≡ true → is_among q (names_in new a) ≡ true
  still q a h = ⊎_elim
      (λ here.
      let before : is_among q names ≡ true = sym (ap (is_among q) (ap (names_in old) here ∙ in_next lists names [])) ∙ h in
      ap (is_among q) (ap (names_in new) here ∙ in_next lists (names ++ x ∷ []) []) ∙ among_append q names (x ∷ []) ∙ or_left _ _ before)
      (λ apart. ⊎_elim
      (λ below. ap (is_among q) (in_earlier lists ((names ++ x ∷ []) ∷ []) a below ∙ sym (in_earlier lists (names ∷ []) a below)) ∙ h)
      (λ above. absurd (both_ways false refl (sym (ap (is_among q) (in_none lists names a above)) ∙ h)))
      apart)
      (cases_order a (length lists))

  -- and the other way round, but for the new name
  was : (q : Name) (a : ℕ) → is_among q (names_in new a) ≡ true → (is_among q (names_in old a) ≡ true) ⊎ ((bytes_eq x q ≡ true) × (a ≡ length lists))
  was q a h = ⊎_elim
      (λ here.
      let among : (is_among q names || (bytes_eq x q || false)) ≡ true =
      sym (among_append q names (x ∷ [])) ∙ sym (ap (is_among q) (ap (names_in new) here ∙ in_next lists (names ++ x ∷ []) [])) ∙ h in
      ⊎_elim
      (λ before. inl (ap (is_among q) (ap (names_in old) here ∙ in_next lists names []) ∙ before))
      (λ now. ⊎_elim (λ e. inr (e, here)) (λ off. absurd (both_ways false refl off)) (or_cases (bytes_eq x q) false now))
      (or_cases (is_among q names) _ among))
      (λ apart. ⊎_elim
      (λ below. inl (ap (is_among q) (in_earlier lists (names ∷ []) a below ∙ sym (in_earlier lists ((names ++ x ∷ []) ∷ []) a below)) ∙ h))
      (λ above. absurd (both_ways false refl (sym (ap (is_among q) (in_none lists (names ++ x ∷ []) a above)) ∙ h)))
      apart)
      (cases_order a (length lists))

  pub one_name : FindsLists old at → (at x ≡ None) ⊎ (at x ≡ Some (length lists)) → FindsLists new at_new
  one_name f free = record {
    stands = λ q a h. by (bytes_eq x q) q refl a h;
    finds = λ q a h. ⊎_elim
        (λ before. kept q a (f.finds q a before))
        (λ now. ap (λ b. cond b (Some (length lists)) (at q)) now.0 ∙ ap Some (sym now.1))
        (was q a h);
  }
    where
      by : (b : Bool) (q : Name) → bytes_eq x q ≡ b → (a : ℕ) → cond b (Some (length lists)) (at q) ≡ Some a → is_among q (names_in new a) ≡ true
      by true q e a h =
          let here : a ≡ length lists = cc in
          ap (is_among q) (ap (names_in new) here ∙ in_next lists (names ++ x ∷ []) []) ∙ among_append q names (x ∷ []) ∙ or_right _ _ (or_left _ _ e)
      by false q e a h = still q a (f.stands q a h)

      kept : (q : Name) (a : ℕ) → at q ≡ Some a → at_new q ≡ Some a
      kept q a h = ⊎_elim
          (λ e.
          let own : at x ≡ Some a = ap at ((bytes_eq-Decides x q).0 e) ∙ h in
          ap (λ b. cond b (Some (length lists)) (at q)) e
          ∙ ⊎_elim (λ none. let bad : None ≡ Some a = sym none ∙ own in absurd cc) (λ here. sym here ∙ own) free)
          (λ off. ap (λ b. cond b (Some (length lists)) (at q)) off ∙ h)
          (cases_Bool (bytes_eq x q))

pub finds_alike : (lists : List (List Name)) (at same : Name → Option ℕ) → ((q : Name) → same q ≡ at q) → FindsLists lists at → FindsLists lists same
finds_alike lists at same h f = record {
  stands = λ x a e. f.stands x a (sym (h x) ∙ e);
  finds = λ x a e. h x ∙ f.finds x a e;
}

-- ---- the lists in which one of several names stands

module _ (lists : List (List Name)) (at : Name → Option ℕ) (f : FindsLists lists at) (names : List Name) (x : Name) where
  one_more : (a : ℕ) → list_any (λ y. is_among y (names_in lists a)) (names ++ x ∷ [])
      ≡ (list_any (λ y. is_among y (names_in lists a)) names || (is_among x (names_in lists a) || false))
  one_more a = list_any-append (λ y. is_among y (names_in lists a)) names (x ∷ [])

  -- a name that stands in none adds none
  pub with_none : at x ≡ None → lists_with lists names ≡ lists_with lists (names ++ x ∷ [])
  with_none none = filter_alike _ _ (λ a. sym (one_more a ∙ ap (λ b. list_any (λ y. is_among y (names_in lists a)) names || (b || false)) (absent a) ∙ or-false _)) (numbers_from 0 lists)
    where
      absent : (a : ℕ) → is_among x (names_in lists a) ≡ false
      absent a = false_from_ne_true _ (λ h. let bad : None ≡ Some a = sym none ∙ f.finds x a h in cc)

  -- and one that stands in a list adds that
  pub with_one : (k : ℕ) → at x ≡ Some k → insert_key nat_cmp (lists_with lists names) k ≡ lists_with lists (names ++ x ∷ [])
  with_one k here =
      inserted (λ a. list_any (λ y. is_among y (names_in lists a)) names) k 0 lists (omega arith) (omega (arith, within lists x k (f.stands x k here)))
      ∙ filter_alike _ _ (λ a. sym (one_more a ∙ ap (λ b. list_any (λ y. is_among y (names_in lists a)) names || b) (only a))) (numbers_from 0 lists)
    where
      only : (a : ℕ) → (is_among x (names_in lists a) || false) ≡ (a == k)
      only a = ⊎_elim
          (λ h. let same : Some k ≡ Some a = sym here ∙ f.finds x a h in let e : k ≡ a = cc in or_left _ false h ∙ sym (eq-eqb a k (sym e)))
          (λ off. ap (λ b. b || false) off ∙ sym (ne_eqb a k (λ e. both_ways _ off (f.stands x a (here ∙ ap Some (sym e))))))
          (cases_Bool (is_among x (names_in lists a)))
