-- What reading gives is spelled so, and the grammar has it.
use Rattle.std.proofs.Common.{◌≡◌, ℕ, suc, ◌+◌, ◌≤◌, inl, inr, Bool, true, false, not, ◌&&◌, List, [], ◌∷◌, length, Some, None, refl, sym, ap, ◌∙◌, subst, arith}
use Rattle.py_tree.specs.Expressions as form
use Rattle.syntax_reading.specs.Words as is
use Rattle.py_tree.specs.Names.{Name}
use Rattle.py_tree.specs.Expressions.{Pieces, no_piece, characters, field, Operator, Prefix, Comparison, Tree, conditional, binary, prefixed, chain, is_none, power, call, index, slice, attribute, paren, tuple, list, dict, list_of, dict_of, bare, Trees, none, more, Links, done, link, Arguments, no_argument, positional, keyword, Pairs, no_pair, pair, Bound, left_out, at, trees_of}
use Rattle.syntax_form.specs.Depth.{list_depth}
use Rattle.syntax_form.specs.Levels.{operator_level, prefix_level}
use Rattle.syntax_reading.specs.Words.{literal_of, is_none_spelled, is_free, may_be_literal, Fixed, Word, name, literal, f_text, fixed, other, word_of, words, none_literal, is_none_literal}
use Rattle.syntax_reading.specs.Readers.{Reader, ◌>>=◌, on, guarded, by, is_some}
use Rattle.syntax_reading.specs.Items.{items, each}
use Rattle.syntax_reading.specs.Tables.{Level, E1, E2, E3, E4, E6, E7, E8, least, operator_at, deeper, prefix_at, comparison_of}
use Rattle.syntax_reading.specs.Parts.{first_comparison, first_name, first_if, then_assign, first_keyword, some_names, targets, Argument, plain, named, tests_of}
use Rattle.syntax_reading.specs.Reading.{argument, key_item, clause}
use Rattle.syntax_reading.proofs.Shaped.{IsFree, AreFreeTargets, AllShaped}
use Rattle.syntax_reading.proofs.Spelling.{spell_all, spell_name, spell_names, operator_word, prefix_word, comparison_then, spell, spell_tests}
use Rattle.syntax_reading.proofs.Choices.{bind_ok, guarded_ok, choose_ok, on_table_ok, on_only_ok}
use Rattle.syntax_reading.proofs.ItemsFound.{IsItem, items_all}
use Rattle.syntax_reading.proofs.EachFound.{each_all}
use Rattle.syntax_reading.proofs.Lists.{Fits, spell_pair, PairFits, spell_argument, ArgumentFits, are_targets, if_then, tests_of_each, tests_shaped}

pub record Found (k room : ℕ) (ts : List Word) (t : Tree) (rest : List Word) : Type 0 where
  pub spelled : ts ≡ spell t rest
  pub fits : Fits k room t

abbrev pub IsSound : (Level → Reader Tree) → ℕ → Type 0
IsSound inner room = (l : Level) (ts : List Word) (y : Tree × List Word) → inner l ts ≡ Some y → Found (least l) room ts y.0 y.1

-- a reader of trees from this level on
abbrev pub Sound : ℕ → ℕ → Reader Tree → Type 0
Sound k room reader = (ts : List Word) (y : Tree × List Word) → reader ts ≡ Some y → Found k room ts y.0 y.1

-- ---- tables

pub operator_listed : (l : Level) (f : Fixed) (op : Operator) → operator_at l f ≡ Some op → (f ≡ operator_word op) × (operator_level op ≡ least l) × (operator_level op + 1 ≤ least (deeper l))
operator_listed E2 is.or_ op e = let o : form.Or ≡ op = cc in subst (λ p. (is.or_ ≡ operator_word p) × (operator_level p ≡ 2) × (operator_level p + 1 ≤ 3)) o (refl, refl, omega arith)
operator_listed E3 is.and_ op e = let o : form.And ≡ op = cc in subst (λ p. (is.and_ ≡ operator_word p) × (operator_level p ≡ 3) × (operator_level p + 1 ≤ 4)) o (refl, refl, omega arith)
operator_listed E6 is.plus op e = let o : form.Add ≡ op = cc in subst (λ p. (is.plus ≡ operator_word p) × (operator_level p ≡ 6) × (operator_level p + 1 ≤ 7)) o (refl, refl, omega arith)
operator_listed E6 is.minus op e = let o : form.Subtract ≡ op = cc in subst (λ p. (is.minus ≡ operator_word p) × (operator_level p ≡ 6) × (operator_level p + 1 ≤ 7)) o (refl, refl, omega arith)
operator_listed E7 is.star op e = let o : form.Multiply ≡ op = cc in subst (λ p. (is.star ≡ operator_word p) × (operator_level p ≡ 7) × (operator_level p + 1 ≤ 8)) o (refl, refl, omega arith)
operator_listed E7 is.slashes op e = let o : form.Floor ≡ op = cc in subst (λ p. (is.slashes ≡ operator_word p) × (operator_level p ≡ 7) × (operator_level p + 1 ≤ 8)) o (refl, refl, omega arith)
operator_listed E7 is.percent op e = let o : form.Remainder ≡ op = cc in subst (λ p. (is.percent ≡ operator_word p) × (operator_level p ≡ 7) × (operator_level p + 1 ≤ 8)) o (refl, refl, omega arith)
operator_listed l f op e = absurd (cc)

pub prefix_listed : (l : Level) (f : Fixed) (op : Prefix) → prefix_at l f ≡ Some op → (f ≡ prefix_word op) × (prefix_level op ≡ least l)
prefix_listed E4 is.not_ op e = let o : form.Not ≡ op = cc in subst (λ p. (is.not_ ≡ prefix_word p) × (prefix_level p ≡ 4)) o (refl, refl)
prefix_listed E8 is.minus op e = let o : form.Minus ≡ op = cc in subst (λ p. (is.minus ≡ prefix_word p) × (prefix_level p ≡ 8)) o (refl, refl)
prefix_listed E8 is.plus op e = let o : form.Plus ≡ op = cc in subst (λ p. (is.plus ≡ prefix_word p) × (prefix_level p ≡ 8)) o (refl, refl)
prefix_listed l f op e = absurd (cc)

pub comparison_listed : (f : Fixed) (c : Comparison) (us : List Word) → comparison_of f ≡ Some c → (fixed f ∷ us) ≡ comparison_then c us
comparison_listed is.equal c us e = let o : form.Equal ≡ c = cc in ap (λ d. comparison_then d us) o
comparison_listed is.unequal c us e = let o : form.Unequal ≡ c = cc in ap (λ d. comparison_then d us) o
comparison_listed is.less c us e = let o : form.Less ≡ c = cc in ap (λ d. comparison_then d us) o
comparison_listed is.at_most c us e = let o : form.AtMost ≡ c = cc in ap (λ d. comparison_then d us) o
comparison_listed is.greater c us e = let o : form.Greater ≡ c = cc in ap (λ d. comparison_then d us) o
comparison_listed is.at_least c us e = let o : form.AtLeast ≡ c = cc in ap (λ d. comparison_then d us) o
comparison_listed is.in_ c us e = let o : form.In ≡ c = cc in ap (λ d. comparison_then d us) o
comparison_listed f c us e = absurd (cc)

-- ---- single words

pub comparison_began : (ts : List Word) (p : Comparison × List Word) → first_comparison ts ≡ Some p → ts ≡ comparison_then p.0 p.1
comparison_began ts p e =
    let inside = λ (us : List Word). on is.in_ None (λ vs. Some (form.NotIn, vs)) us in
    elim (on_table_ok comparison_of (on is.not_ None inside ts) (λ c us. Some (c, us)) ts p e) [
      | inl h ↦ (
          let pair_is : ◌≡◌ {A = Comparison × List Word} (h.entry, h.after) p = cc (h.taken) in
          h.stood ∙ (comparison_listed h.word h.entry h.after h.listed ∙ ap (λ q. comparison_then q.0 q.1) pair_is))
      | inr o ↦ (
          let t = on_only_ok is.not_ inside ts p o in
          let u = on_only_ok is.in_ (λ vs. Some (form.NotIn, vs)) t.0 p t.2 in
          let pair_is : ◌≡◌ {A = Comparison × List Word} (form.NotIn, u.0) p = cc (u.2) in
          t.1 ∙ (ap (λ us. fixed is.not_ ∷ us) u.1 ∙ ap (λ q. comparison_then q.0 q.1) pair_is))
    ]

pub if_began : (ts : List Word) (p : Unit {0} × List Word) → first_if ts ≡ Some p → ts ≡ if_then p.0 p.1
if_began ts p e =
    let t = on_only_ok is.if_ (λ us. Some (tt, us)) ts p e in
    let pair_is : ◌≡◌ {A = Unit {0} × List Word} (tt, t.0) p = cc (t.2) in
    t.1 ∙ ap (λ q. if_then q.0 q.1) pair_is

pub name_found : IsItem first_name spell_name IsFree
name_found [] y e = absurd (cc)
name_found (name x ∷ ts) y e =
    let g = guarded_ok (is_free x) (Some (x, ts)) y e in
    let pair_is : ◌≡◌ {A = Name × List Word} (x, ts) y = cc (g.1) in
    (ap (λ q. spell_name q.0 q.1) pair_is, subst (λ q. IsFree q.0) pair_is g.0)
name_found (w ∷ ts) y e = absurd (cc)

keyword_found : (ts : List Word) (p : Name × List Word) → first_keyword ts ≡ Some p → (ts ≡ name p.0 ∷ fixed is.assign ∷ p.1) × IsFree p.0
keyword_found [] p e = absurd (cc)
keyword_found (name x ∷ ts) p e =
    let g = guarded_ok (is_free x) (then_assign x ts) p e in
    let t = on_only_ok is.assign (λ us. Some (x, us)) ts p g.1 in
    let pair_is : ◌≡◌ {A = Name × List Word} (x, t.0) p = cc (t.2) in
    (ap (λ us. name x ∷ us) t.1 ∙ ap (λ q. name q.0 ∷ fixed is.assign ∷ q.1) pair_is, subst (λ q. IsFree q.0) pair_is g.0)
keyword_found (w ∷ ts) p e = absurd (cc)

some_names_are : (p : List Name × Bool) → some_names p ≡ true → (is_some p.0 ≡ true) × (p.1 ≡ false)
some_names_are p h = by_both (is_some p.0) p.1 h
  where
    by_both : (a b : Bool) → (a && not b) ≡ true → (a ≡ true) × (b ≡ false)
    by_both true false h = (refl, refl)
    by_both true true h = absurd (cc)
    by_both false b h = absurd (cc)

pub targets_found : (f : Fixed) (ts : List Word) (y : List Name × List Word) → targets f ts ≡ Some y → (ts ≡ spell_names y.0 f y.1) × AreFreeTargets y.0
targets_found f ts y e =
    let step = λ (a : List Name × Bool) (us : List Word). guarded (some_names a) (Some (a.0, us)) in
    let b = bind_ok (items first_name (by f) (length ts + 1) [] ts) step y e in
    let a = items_all first_name (by f) spell_name IsFree name_found (length ts + 1) ts b.0 b.1 in
    let g = guarded_ok (some_names b.0.0) (Some (b.0.0.0, b.0.1)) y b.2 in
    let s = some_names_are b.0.0 g.0 in
    let pair_is : ◌≡◌ {A = List Name × List Word} (b.0.0.0, b.0.1) y = cc (g.1) in
    let spelled : ts ≡ spell_names b.0.0.0 f b.0.1 = a.spelled ∙ ap (λ c. spell_all spell_name b.0.0.0 c (by f) b.0.1) s.1 in
    (spelled ∙ ap (λ q. spell_names q.0 f q.1) pair_is, subst (λ q. AreFreeTargets q.0) pair_is (are_targets b.0.0.0 s.0 a.good))

module _ (inner : Level → Reader Tree) (below : ℕ) (ih : IsSound inner below) where
  abbrev room : ℕ
  room = suc below

  -- ---- reading has come to a tree

  pub ends : (k : ℕ) (t : Tree) (ts rest : List Word) (y : Tree × List Word) → ts ≡ spell t rest → Fits k room t → Some (t, rest) ≡ Some y → Found k room ts y.0 y.1
  ends k t ts rest y e f is =
      let tree : t ≡ y.0 = cc (is) in
      let after : rest ≡ y.1 = cc (is) in
      subst (λ (u : Tree). Found k room ts u y.1) tree (record { spelled = e ∙ ap (spell t) after; fits = f })

  pub from : (k : ℕ) (ts us : List Word) (y : Tree × List Word) → ts ≡ us → Found k room us y.0 y.1 → Found k room ts y.0 y.1
  from k ts us y e f = record { spelled = e ∙ f.spelled; fits = f.fits }

  pub lower : (j k : ℕ) (ts : List Word) (y : Tree × List Word) → j ≤ k → Found k room ts y.0 y.1 → Found j room ts y.0 y.1
  lower j k ts y le f = record { spelled = f.spelled; fits = record { shaped = f.fits.shaped; high = let h = f.fits.high in omega arith; shallow = f.fits.shallow } }

  -- ---- items

  pub tree_item : IsItem (inner E1) spell (Fits 1 below)
  tree_item ts y e = let f = ih E1 ts y e in (f.spelled, f.fits)

  pub argument_item : IsItem (argument inner room) spell_argument (ArgumentFits below)
  argument_item ts y e =
      let last : Name → Tree → Reader Argument = λ x t vs. Some (named x t, vs) in
      let simple : Tree → Reader Argument = λ t us. Some (plain t, us) in
      elim (choose_ok (inner E1 ts >>= simple) (λ x us. inner E1 us >>= last x) (first_keyword ts) y e) [
        | inl c ↦ (
            let k = keyword_found ts c.0 c.1 in
            let b = bind_ok (inner E1 c.0.1) (last c.0.0) y c.2 in
            let f = ih E1 c.0.1 b.0 b.1 in
            let pair_is : ◌≡◌ {A = Argument × List Word} (named c.0.0 b.0.0, b.0.1) y = cc (b.2) in (
              k.0 ∙ (ap (λ us. name c.0.0 ∷ fixed is.assign ∷ us) f.spelled ∙ ap (λ q. spell_argument q.0 q.1) pair_is),
              subst (λ q. ArgumentFits below q.0) pair_is (k.1, f.fits),
            ))
        | inr o ↦ (
            let b = bind_ok (inner E1 ts) simple y o.1 in
            let f = ih E1 ts b.0 b.1 in
            let pair_is : ◌≡◌ {A = Argument × List Word} (plain b.0.0, b.0.1) y = cc (b.2) in
            (f.spelled ∙ ap (λ q. spell_argument q.0 q.1) pair_is, subst (λ q. ArgumentFits below q.0) pair_is f.fits))
      ]

  pub pair_item : IsItem (key_item inner room) spell_pair (PairFits below)
  pair_item ts y e =
      let last : Tree → Tree → Reader (Tree × Tree) = λ k i ws. Some ((k, i), ws) in
      let after = λ (k : Tree) (vs : List Word). inner E1 vs >>= last k in
      let b = bind_ok (inner E1 ts) (λ k us. on is.colon None (after k) us) y e in
      let k = b.0.0 in
      let f = ih E1 ts b.0 b.1 in
      let t = on_only_ok is.colon (after k) b.0.1 y b.2 in
      let q = bind_ok (inner E1 t.0) (last k) y t.2 in
      let g = ih E1 t.0 q.0 q.1 in
      let pair_is : ◌≡◌ {A = (Tree × Tree) × List Word} ((k, q.0.0), q.0.1) y = cc (q.2) in (
        f.spelled ∙ (ap (spell k) (t.1 ∙ ap (λ us. fixed is.colon ∷ us) g.spelled) ∙ ap (λ p. spell_pair p.0 p.1) pair_is),
        subst (λ p. PairFits below p.0) pair_is (f.fits, g.fits),
      )

  -- ---- what stands after `for`

  pub record Clause (ts : List Word) (c : List Name × Tree × Trees) (rest : List Word) : Type 0 where
    pub spelled : ts ≡ spell_names c.0 is.in_ (spell c.1 (spell_tests c.2 rest))
    pub names : AreFreeTargets c.0
    pub from_fits : Fits 2 below c.1
    pub tests : AllShaped 2 c.2
    pub shallow : list_depth c.2 ≤ below

  pub clause_found : (ts : List Word) (y : (List Name × Tree × Trees) × List Word) → clause inner room ts ≡ Some y → Clause ts y.0 y.1
  unfolding clause
  clause_found ts y e =
      let end : List Name → Tree → List (Unit {0} × Tree) → Reader (List Name × Tree × Trees) = λ xs t ls ws. Some ((xs, t, tests_of ls), ws) in
      let middle = λ (xs : List Name) (t : Tree) (vs : List Word). each first_if (inner E2) (length vs + 1) [] vs >>= end xs t in
      let begin = λ (xs : List Name) (us : List Word). inner E2 us >>= middle xs in
      let b = bind_ok (targets is.in_ ts) begin y e in
      let n = targets_found is.in_ ts b.0 b.1 in
      let q = bind_ok (inner E2 b.0.1) (middle b.0.0) y b.2 in
      let f = ih E2 b.0.1 q.0 q.1 in
      let vs = q.0.1 in
      let r = bind_ok (each first_if (inner E2) (length vs + 1) [] vs) (end b.0.0 q.0.0) y q.2 in
      let a = each_all first_if (inner E2) if_then (Fits 2 below) if_began (λ us p g. let h = ih E2 us p g in (h.spelled, h.fits)) (length vs + 1) vs r.0 r.1 in
      let l = tests_shaped below r.0.0 a.1 in
      let same : ◌≡◌ {A = (List Name × Tree × Trees) × List Word} ((b.0.0, q.0.0, tests_of r.0.0), r.0.1) y = cc (r.2) in
      subst (λ p. Clause ts p.0 p.1) same (record {
        spelled = n.0 ∙ ap (spell_names b.0.0 is.in_) (f.spelled ∙ ap (spell q.0.0) (a.0 ∙ sym (tests_of_each r.0.0 r.0.1)));
        names = n.1;
        from_fits = f.fits;
        tests = l.0;
        shallow = l.1;
      })
