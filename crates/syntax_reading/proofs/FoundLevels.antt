-- The levels: what reading gives is spelled so, and the grammar has it.
use Rattle.std.proofs.Common.{◌≡◌, ℕ, zero, suc, ◌+◌, ◌<◌, ◌≤◌, inl, inr, Bool, true, false, codes, List, [], ◌∷◌, length, Some, None, refl, sym, ap, ◌∙◌, nat_lt, arith}
use Rattle.std.specs.Prelude.{if◌then◌else◌}
use Rattle.std.proofs.lemmas.Slice.Eq.{bytes_eq-Decides}
use Rattle.py_tree.specs.declared.token.Token as literals
use Rattle.py_tree.specs.declared.token.TokenKind.{TokenKind}
use Rattle.py_tree.specs.declared.token.TokenKind.TheVariants as literal_kind
use Rattle.syntax_reading.specs.Words as is
use Rattle.py_tree.specs.Names.{Name}
use Rattle.py_tree.specs.Expressions.{Operator, Prefix, Comparison, Tree, conditional, binary, prefixed, chain, is_none, power, call, index, slice, attribute, Bound, left_out, at}
use Rattle.syntax_form.specs.Depth.{depth, bound_depth}
use Rattle.syntax_form.specs.Levels.{operator_level, prefix_level, level}
use Rattle.syntax_reading.specs.Words.{literal_of, is_none_spelled, is_free, may_be_literal, Fixed, Word, name, literal, f_text, fixed, other, word_of, words, none_literal, is_none_literal}
use Rattle.syntax_reading.specs.Readers.{Reader, ◌>>=◌, on, guarded, by}
use Rattle.syntax_reading.specs.Items.{items, each}
use Rattle.syntax_reading.specs.Tables.{Level, E1, E2, E3, E4, E6, E7, E8, least, operator_at, deeper, prefix_at, Tail, Call, Index, Attribute, tail_of}
use Rattle.syntax_reading.specs.Parts.{first_comparison, first_name, on_none, Argument, arguments_of, named_last, links_of}
use Rattle.syntax_reading.specs.Reading.{argument, atom, slice_end, indexed, called, tailed, tails, postfix, powers, prefixes, turns, operations, is_tail, chained, compared, whole, level_8, level_7, level_6, level_5, level_4, level_3, level_2, at_level, read}
use Rattle.syntax_reading.proofs.Shaped.{BoundShaped}
use Rattle.syntax_reading.proofs.Spelling.{operator_word, prefix_word, comparison_then, spell, spell_bound}
use Rattle.syntax_reading.proofs.WordLaws.{before}
use Rattle.syntax_reading.proofs.Choices.{bind_ok, guarded_ok, lt_of, on_table_ok, Took, on_ok, on_only_ok}
use Rattle.syntax_reading.proofs.ItemsFound.{AllGood, items_all}
use Rattle.syntax_reading.proofs.EachFound.{spell_each, each_all}
use Rattle.syntax_reading.proofs.Lists.{Fits, spell_argument, ArgumentFits, arguments_of_items, arguments_shaped, argument_comma, named_are_last, links_of_each, links_shaped}
use Rattle.syntax_reading.proofs.FoundParts.{Found, IsSound, Sound, operator_listed, prefix_listed, comparison_began, name_found, ends, from, lower, argument_item}
use Rattle.syntax_reading.proofs.FoundAtoms.{atom_found}

none_is : (k : TokenKind) (s : List ℕ) → is_none_spelled k s ≡ true → literal_of k s ≡ none_literal
none_is literal_kind.Name s h = ap (literal_of literal_kind.Name) ((bytes_eq-Decides s (codes "None")).0 h)
none_is literal_kind.Number s h = absurd (cc)
none_is literal_kind.Text s h = absurd (cc)
none_is literal_kind.Mark s h = absurd (cc)

is_none_found : (t : literals.Token) → is_none_literal t ≡ true → t ≡ none_literal
is_none_found t h = none_is t.kind t.spelling h

on_none_ok : {A : Type 0} (take : Reader A) (ts : List Word) (y : A × List Word) → on_none take ts ≡ Some y → Took (λ us. literal none_literal ∷ us) take ts y
on_none_ok take [] y e = absurd (cc)
on_none_ok {A} take (literal t ∷ ts) y e = by_test (is_none_literal t) refl e
  where
    by_test : (b : Bool) → is_none_literal t ≡ b → (if b then take ts else None) ≡ Some y → Took (λ us. literal none_literal ∷ us) take (literal t ∷ ts) y
    by_test true g h = (ts, ap (λ u. literal u ∷ ts) (is_none_found t g), h)
    by_test false g h = absurd (cc)
on_none_ok take (w ∷ ts) y e = absurd (cc)

module _ (inner : Level → Reader Tree) (below : ℕ) (ih : IsSound inner below) where
  abbrev room : ℕ
  room = suc below

  -- ---- calls, indexes, slices and attributes

  slice_end_found : (base : Tree) (bound : Bound) (before : List Word) (ts : List Word) (y : Tree × List Word) → Fits 10 room base → depth base < room → BoundShaped bound → bound_depth bound ≤ below →
      before ≡ fixed is.square_open ∷ spell_bound bound (fixed is.colon ∷ ts) → slice_end inner room base bound ts ≡ Some y → Found 10 room (spell base before) y.0 y.1
  slice_end_found base bound before ts y f deep l d b e =
      let last : Tree → Reader Tree = λ p us. on is.square_close None (λ vs. Some (slice base bound (at p), vs)) us in
      let sofar = λ (us : List Word). fixed is.square_open ∷ spell_bound bound (fixed is.colon ∷ us) in
      elim (on_ok is.square_close (inner E1 ts >>= last) (λ us. Some (slice base bound left_out, us)) ts y e) [
        | inl t ↦ ends inner below ih 10 (slice base bound left_out) (spell base before) t.0 y (ap (spell base) (b ∙ ap sofar t.1))
            (record { shaped = (f.high, f.shaped, l, tt); high = omega arith; shallow = omega arith }) t.2
        | inr o ↦ (
            let q = bind_ok (inner E1 ts) last y o in
            let g = ih E1 ts q.0 q.1 in
            let k = on_only_ok is.square_close (λ vs. Some (slice base bound (at q.0.0), vs)) q.0.1 y q.2 in
            let s = g.fits.shallow in
            ends inner below ih 10 (slice base bound (at q.0.0)) (spell base before) k.0 y (ap (spell base) (b ∙ ap sofar (g.spelled ∙ ap (spell q.0.0) k.1)))
            (record { shaped = (f.high, f.shaped, l, (g.fits.high, g.fits.shaped)); high = omega arith; shallow = omega arith }) k.2)
      ]

  indexed_found : (base : Tree) (ts : List Word) (y : Tree × List Word) → Fits 10 room base → depth base < room → indexed inner room base ts ≡ Some y →
      Found 10 room (spell base (fixed is.square_open ∷ ts)) y.0 y.1
  indexed_found base ts y f deep e =
      let closing : Tree → Reader Tree = λ p us. on is.square_close None (λ vs. Some (index base p, vs)) us in
      let step : Tree → Reader Tree = λ p us. on is.colon (closing p us) (slice_end inner room base (at p)) us in
      let before = λ (us : List Word). fixed is.square_open ∷ us in
      elim (on_ok is.colon (inner E1 ts >>= step) (slice_end inner room base left_out) ts y e) [
        | inl t ↦ slice_end_found base left_out (before ts) t.0 y f deep tt (omega arith) (ap before t.1) t.2
        | inr o ↦ (
            let q = bind_ok (inner E1 ts) step y o in
            let p = q.0.0 in
            let g = ih E1 ts q.0 q.1 in
            let s = g.fits.shallow in
            elim (on_ok is.colon (closing p q.0.1) (slice_end inner room base (at p)) q.0.1 y q.2) [
              | inl c ↦ slice_end_found base (at p) (before ts) c.0 y f deep (g.fits.high, g.fits.shaped) s (ap before (g.spelled ∙ ap (spell p) c.1)) c.2
              | inr o' ↦ (
                  let k = on_only_ok is.square_close (λ vs. Some (index base p, vs)) q.0.1 y o' in
                  ends inner below ih 10 (index base p) (spell base (before ts)) k.0 y (ap (spell base) (ap before (g.spelled ∙ ap (spell p) k.1)))
                  (record { shaped = (f.high, f.shaped, g.fits.high, g.fits.shaped); high = omega arith; shallow = omega arith }) k.2)
            ])
      ]

  called_found : (callee : Tree) (ts : List Word) (y : Tree × List Word) → Fits 10 room callee → depth callee < room → called inner room callee ts ≡ Some y →
      Found 10 room (spell callee (fixed is.round_open ∷ ts)) y.0 y.1
  called_found callee ts y f deep e =
      let made : List Argument × Bool → Reader Tree = λ a us. guarded (named_last a.0) (Some (call callee (arguments_of a.0) a.1, us)) in
      let b = bind_ok (items (argument inner room) (by is.round_close) (length ts + 1) [] ts) made y e in
      let args = b.0.0.0 in
      let a = items_all (argument inner room) (by is.round_close) spell_argument (ArgumentFits below) (argument_item inner below ih) (length ts + 1) ts b.0 b.1 in
      let g = guarded_ok (named_last args) (Some (call callee (arguments_of args) b.0.0.1, b.0.1)) y b.2 in
      let l = arguments_shaped below args a.good in
      let d = l.1 in
      ends inner below ih 10 (call callee (arguments_of args) b.0.0.1) (spell callee (fixed is.round_open ∷ ts)) b.0.1 y
      (ap (λ us. spell callee (fixed is.round_open ∷ us)) (a.spelled ∙ sym (arguments_of_items args b.0.0.1 b.0.1)))
      (record { shaped = (f.high, f.shaped, l.0, named_are_last args g.0, argument_comma args b.0.0.1 a.has); high = omega arith; shallow = omega arith }) g.1

  attribute_found : (base : Tree) (ts : List Word) (y : Tree × List Word) → Fits 10 room base → depth base < room → (first_name ts >>= λ x us. Some (attribute base x, us)) ≡ Some y →
      Found 10 room (spell base (fixed is.dot ∷ ts)) y.0 y.1
  attribute_found base ts y f deep e =
      let made : Name → Reader Tree = λ x us. Some (attribute base x, us) in
      let b = bind_ok (first_name ts) made y e in
      let n = name_found ts b.0 b.1 in
      ends inner below ih 10 (attribute base b.0.0) (spell base (fixed is.dot ∷ ts)) b.0.1 y (ap (λ us. spell base (fixed is.dot ∷ us)) n.0)
      (record { shaped = (f.high, f.shaped, n.1); high = omega arith; shallow = omega arith }) b.2

  tailed_found : (f : Fixed) (k : Tail) (t : Tree) (ts : List Word) (y : Tree × List Word) → tail_of f ≡ Some k → Fits 10 room t → depth t < room → tailed inner room t k ts ≡ Some y →
      Found 10 room (spell t (fixed f ∷ ts)) y.0 y.1
  unfolding tailed
  tailed_found is.round_open Call t ts y h g deep e = called_found t ts y g deep e
  tailed_found is.square_open Index t ts y h g deep e = indexed_found t ts y g deep e
  tailed_found is.dot Attribute t ts y h g deep e = attribute_found t ts y g deep e
  tailed_found f k t ts y h g deep e = absurd (cc)

  tails_found : (n : ℕ) (t : Tree) (ts : List Word) (y : Tree × List Word) → Fits 10 room t → tails inner room n t ts ≡ Some y → Found 10 room (spell t ts) y.0 y.1
  unfolding tails
  tails_found zero t ts y f e = absurd (cc)
  tails_found (suc n) t ts y f e =
      let step : Tail → Reader Tree = λ k us. guarded (nat_lt (depth t) room) (tailed inner room t k us >>= tails inner room n) in
      elim (on_table_ok tail_of (Some (t, ts)) step ts y e) [
        | inl h ↦ (
            let g = guarded_ok (nat_lt (depth t) room) (tailed inner room t h.entry h.after >>= tails inner room n) y h.taken in
            let q = bind_ok (tailed inner room t h.entry h.after) (tails inner room n) y g.1 in
            let one = tailed_found h.word h.entry t h.after q.0 h.listed f (lt_of (depth t) room g.0) q.1 in
            from inner below ih 10 (spell t ts) (spell q.0.0 q.0.1) y (ap (spell t) h.stood ∙ one.spelled) (tails_found n q.0.0 q.0.1 y one.fits q.2))
        | inr o ↦ ends inner below ih 10 t (spell t ts) ts y refl f o
      ]

  postfix_found : Sound 10 room (postfix inner room)
  unfolding postfix
  postfix_found ts y e =
      let b = bind_ok (atom inner room ts) (tails inner room room) y e in
      let f = lower inner below ih 10 11 ts b.0 (omega arith) (atom_found inner below ih ts b.0 b.1) in
      from inner below ih 10 ts (spell b.0.0 b.0.1) y f.spelled (tails_found room b.0.0 b.0.1 y f.fits b.2)

  powers_found : Sound 9 room (powers inner room)
  unfolding powers
  powers_found ts y e =
      let right : Tree → Reader Tree = λ t vs. inner E8 vs >>= λ u ws. Some (power t u, ws) in
      let step : Tree → Reader Tree = λ t us. on is.stars (Some (t, us)) (λ vs. guarded (nat_lt (depth t) room) (right t vs)) us in
      let b = bind_ok (postfix inner room ts) step y e in
      let t = b.0.0 in
      let f = postfix_found ts b.0 b.1 in
      elim (on_ok is.stars (Some b.0) (λ vs. guarded (nat_lt (depth t) room) (right t vs)) b.0.1 y b.2) [
        | inl p ↦ (
            let g = guarded_ok (nat_lt (depth t) room) (right t p.0) y p.2 in
            let deep : depth t < room = lt_of (depth t) room g.0 in
            let r = bind_ok (inner E8 p.0) (λ u ws. Some (power t u, ws)) y g.1 in
            let fu = ih E8 p.0 r.0 r.1 in
            let s = fu.fits.shallow in
            ends inner below ih 9 (power t r.0.0) ts r.0.1 y (f.spelled ∙ ap (spell t) (p.1 ∙ ap (λ vs. fixed is.stars ∷ vs) fu.spelled))
            (record { shaped = (f.fits.high, f.fits.shaped, fu.fits.high, fu.fits.shaped); high = omega arith; shallow = omega arith }) r.2)
        | inr o ↦ (let low = lower inner below ih 9 10 ts b.0 (omega arith) f in ends inner below ih 9 t ts b.0.1 y low.spelled low.fits o)
      ]

  -- ---- operators

  prefixes_found : (l : Level) (low : Reader Tree) → Sound (least l) room low → Sound (least l) room (prefixes inner room l low)
  unfolding prefixes
  prefixes_found l low low_found ts y e =
      let made : Prefix → Tree → Reader Tree = λ op t vs. Some (prefixed op t, vs) in
      elim (on_table_ok (prefix_at l) (low ts) (λ op us. inner l us >>= made op) ts y e) [
        | inl h ↦ (
            let p = prefix_listed l h.word h.entry h.listed in
            let r = bind_ok (inner l h.after) (made h.entry) y h.taken in
            let f = ih l h.after r.0 r.1 in
            let high : prefix_level h.entry ≤ level r.0.0 = let g = f.fits.high in let o = p.1 in omega arith in
            let own : least l ≤ prefix_level h.entry = let o = p.1 in omega arith in
            let s = f.fits.shallow in
            ends inner below ih (least l) (prefixed h.entry r.0.0) ts r.0.1 y
            (h.stood ∙ (ap (λ g. fixed g ∷ h.after) p.0 ∙ ap (λ us. fixed (prefix_word h.entry) ∷ us) f.spelled))
            (record { shaped = (high, f.fits.shaped); high = own; shallow = omega arith }) r.2)
        | inr o ↦ low_found ts y o
      ]

  turns_found : (l : Level) (n : ℕ) (t : Tree) (ts : List Word) (y : Tree × List Word) → Fits (least l) room t → turns inner room l n t ts ≡ Some y → Found (least l) room (spell t ts) y.0 y.1
  unfolding turns
  turns_found l zero t ts y f e = absurd (cc)
  turns_found l (suc n) t ts y f e =
      let further : Operator → Tree → Reader Tree = λ op u. turns inner room l n (binary op t u) in
      let right : Operator → Reader Tree = λ op us. inner (deeper l) us >>= further op in
      elim (on_table_ok (operator_at l) (Some (t, ts)) (λ op us. guarded (nat_lt (depth t) room) (right op us)) ts y e) [
        | inl h ↦ (
            let op = h.entry in
            let p = operator_listed l h.word op h.listed in
            let g = guarded_ok (nat_lt (depth t) room) (right op h.after) y h.taken in
            let deep : depth t < room = lt_of (depth t) room g.0 in
            let r = bind_ok (inner (deeper l) h.after) (further op) y g.1 in
            let fu = ih (deeper l) h.after r.0 r.1 in
            let s = fu.fits.shallow in
            let left_high : operator_level op ≤ level t = let a = f.high in let o = p.1 in omega arith in
            let right_high : operator_level op + 1 ≤ level r.0.0 = let a = fu.fits.high in let o = p.2 in omega arith in
            let own : least l ≤ operator_level op = let o = p.1 in omega arith in
            from inner below ih (least l) (spell t ts) (spell t (fixed (operator_word op) ∷ spell r.0.0 r.0.1)) y
            (ap (spell t) (h.stood ∙ (ap (λ x. fixed x ∷ h.after) p.0 ∙ ap (λ us. fixed (operator_word op) ∷ us) fu.spelled)))
            (turns_found l n (binary op t r.0.0) r.0.1 y
            (record { shaped = (left_high, f.shaped, right_high, fu.fits.shaped); high = own; shallow = omega arith }) r.2))
        | inr o ↦ ends inner below ih (least l) t (spell t ts) ts y refl f o
      ]

  operations_found : (l : Level) (low : Reader Tree) → Sound (least l) room low → Sound (least l) room (operations inner room l low)
  unfolding operations
  operations_found l low low_found ts y e =
      let b = bind_ok (low ts) (turns inner room l room) y e in
      let f = low_found ts b.0 b.1 in
      from inner below ih (least l) ts (spell b.0.0 b.0.1) y f.spelled (turns_found l room b.0.0 b.0.1 y f.fits b.2)

  -- ---- comparisons

  is_tail_found : (t : Tree) (ts : List Word) (y : Tree × List Word) → Fits 6 room t → depth t < room → is_tail inner room t ts ≡ Some y → Found 5 room (spell t (fixed is.is_ ∷ ts)) y.0 y.1
  is_tail_found t ts y f deep e =
      let made : Bool → Reader Tree = λ b us. Some (is_none b t, us) in
      elim (on_ok is.not_ (on_none (made false) ts) (on_none (made true)) ts y e) [
        | inl c ↦ (
            let k = on_none_ok (made true) c.0 y c.2 in
            ends inner below ih 5 (is_none true t) (spell t (fixed is.is_ ∷ ts)) k.0 y (ap (λ us. spell t (fixed is.is_ ∷ us)) (c.1 ∙ ap (λ us. fixed is.not_ ∷ us) k.1))
            (record { shaped = (f.high, f.shaped); high = omega arith; shallow = omega arith }) k.2)
        | inr o ↦ (
            let k = on_none_ok (made false) ts y o in
            ends inner below ih 5 (is_none false t) (spell t (fixed is.is_ ∷ ts)) k.0 y (ap (λ us. spell t (fixed is.is_ ∷ us)) k.1)
            (record { shaped = (f.high, f.shaped); high = omega arith; shallow = omega arith }) k.2)
      ]

  chained_found : (t : Tree) (ls : List (Comparison × Tree)) (us rest : List Word) (y : Tree × List Word) → Fits 6 room t → us ≡ spell_each comparison_then ls rest →
      AllGood (λ l. Fits 6 below l.1) ls → chained inner room t ls rest ≡ Some y → Found 5 room (spell t us) y.0 y.1
  chained_found t [] us rest y f spelled good e =
      ends inner below ih 5 t (spell t us) rest y (ap (spell t) spelled) (record { shaped = f.shaped; high = let h = f.high in omega arith; shallow = f.shallow }) e
  chained_found t (l ∷ ls) us rest y f spelled good e =
      let c = l.0 in
      let u = l.1 in
      let links = links_of ls in
      let g = guarded_ok (nat_lt (depth t) room) (Some (chain t c u links, rest)) y e in
      let deep : depth t < room = lt_of (depth t) room g.0 in
      let fu = good.0 in
      let s = fu.shallow in
      let k = links_shaped below ls good.1 in
      let d = k.1 in
      ends inner below ih 5 (chain t c u links) (spell t us) rest y (ap (spell t) (spelled ∙ ap (λ ws. comparison_then c (spell u ws)) (sym (links_of_each ls rest))))
      (record { shaped = (f.high, f.shaped, fu.high, fu.shaped, k.0); high = omega arith; shallow = omega arith }) g.1

  compared_found : (low : Reader Tree) → Sound 6 room low → Sound 5 room (compared inner room low)
  unfolding compared
  compared_found low low_found ts y e =
      let links : Tree → Reader Tree = λ t us. each first_comparison (inner E6) (length us + 1) [] us >>= chained inner room t in
      let tail : Tree → Reader Tree = λ t vs. guarded (nat_lt (depth t) room) (is_tail inner room t vs) in
      let step : Tree → Reader Tree = λ t us. on is.is_ (links t us) (tail t) us in
      let b = bind_ok (low ts) step y e in
      let t = b.0.0 in
      let us = b.0.1 in
      let f = low_found ts b.0 b.1 in
      elim (on_ok is.is_ (links t us) (tail t) us y b.2) [
        | inl c ↦ (
            let g = guarded_ok (nat_lt (depth t) room) (is_tail inner room t c.0) y c.2 in
            from inner below ih 5 ts (spell t (fixed is.is_ ∷ c.0)) y (f.spelled ∙ ap (spell t) c.1) (is_tail_found t c.0 y f.fits (lt_of (depth t) room g.0) g.1))
        | inr o ↦ (
            let r = bind_ok (each first_comparison (inner E6) (length us + 1) [] us) (chained inner room t) y o in
            let a = each_all first_comparison (inner E6) comparison_then (Fits 6 below) comparison_began (λ vs p h. let k = ih E6 vs p h in (k.spelled, k.fits)) (length us + 1) us r.0 r.1 in
            from inner below ih 5 ts (spell t us) y f.spelled (chained_found t r.0.0 us r.0.1 y f.fits a.0 a.1 r.2))
      ]

  -- ---- conditionals

  whole_found : (low : Reader Tree) → Sound 2 room low → Sound 1 room (whole inner room low)
  unfolding whole
  whole_found low low_found ts y e =
      let last : Tree → Tree → Reader Tree = λ t u ws. inner E1 ws >>= λ o xs. Some (conditional t u o, xs) in
      let middle : Tree → Reader Tree = λ t vs. inner E2 vs >>= λ u. on is.else_ None (last t u) in
      let step : Tree → Reader Tree = λ t us. on is.if_ (Some (t, us)) (λ vs. guarded (nat_lt (depth t) room) (middle t vs)) us in
      let b = bind_ok (low ts) step y e in
      let t = b.0.0 in
      let f = low_found ts b.0 b.1 in
      elim (on_ok is.if_ (Some b.0) (λ vs. guarded (nat_lt (depth t) room) (middle t vs)) b.0.1 y b.2) [
        | inl p ↦ (
            let g = guarded_ok (nat_lt (depth t) room) (middle t p.0) y p.2 in
            let deep : depth t < room = lt_of (depth t) room g.0 in
            let r = bind_ok (inner E2 p.0) (λ u. on is.else_ None (last t u)) y g.1 in
            let u = r.0.0 in
            let fu = ih E2 p.0 r.0 r.1 in
            let w = on_only_ok is.else_ (last t u) r.0.1 y r.2 in
            let q = bind_ok (inner E1 w.0) (λ o xs. Some (conditional t u o, xs)) y w.2 in
            let fo = ih E1 w.0 q.0 q.1 in
            let d = fu.fits.shallow in
            let d' = fo.fits.shallow in
            ends inner below ih 1 (conditional t u q.0.0) ts q.0.1 y
            (f.spelled ∙ ap (spell t) (p.1 ∙ ap (λ vs. fixed is.if_ ∷ vs) (fu.spelled ∙ ap (spell u) (w.1 ∙ ap (λ vs. fixed is.else_ ∷ vs) fo.spelled))))
            (record { shaped = (f.fits.high, f.fits.shaped, fu.fits.high, fu.fits.shaped, fo.fits.high, fo.fits.shaped); high = omega arith; shallow = omega arith }) q.2)
        | inr o ↦ (let low_one = lower inner below ih 1 2 ts b.0 (omega arith) f in ends inner below ih 1 t ts b.0.1 y low_one.spelled low_one.fits o)
      ]

  -- ---- all levels

  weaken : (j k : ℕ) (reader : Reader Tree) → j ≤ k → Sound k room reader → Sound j room reader
  weaken j k reader le found ts y e = lower inner below ih j k ts y le (found ts y e)

  found_8 : Sound 8 room (level_8 inner room)
  found_8 = prefixes_found E8 (powers inner room) (weaken 8 9 (powers inner room) (omega arith) powers_found)

  found_7 : Sound 7 room (level_7 inner room)
  found_7 = operations_found E7 (level_8 inner room) (weaken 7 8 (level_8 inner room) (omega arith) found_8)

  found_6 : Sound 6 room (level_6 inner room)
  found_6 = operations_found E6 (level_7 inner room) (weaken 6 7 (level_7 inner room) (omega arith) found_7)

  found_5 : Sound 5 room (level_5 inner room)
  found_5 = compared_found (level_6 inner room) found_6

  found_4 : Sound 4 room (level_4 inner room)
  found_4 = prefixes_found E4 (level_5 inner room) (weaken 4 5 (level_5 inner room) (omega arith) found_5)

  found_3 : Sound 3 room (level_3 inner room)
  found_3 = operations_found E3 (level_4 inner room) (weaken 3 4 (level_4 inner room) (omega arith) found_4)

  found_2 : Sound 2 room (level_2 inner room)
  found_2 = operations_found E2 (level_3 inner room) (weaken 2 3 (level_3 inner room) (omega arith) found_3)

  pub at_level_found : IsSound (at_level inner room) room
  at_level_found E1 ts y e = whole_found (level_2 inner room) found_2 ts y e
  at_level_found E2 ts y e = found_2 ts y e
  at_level_found E3 ts y e = found_3 ts y e
  at_level_found E4 ts y e = found_4 ts y e
  at_level_found E6 ts y e = found_6 ts y e
  at_level_found E7 ts y e = found_7 ts y e
  at_level_found E8 ts y e = found_8 ts y e

pub read_found : (n : ℕ) → IsSound (read n) n
unfolding read
read_found zero l ts y e = absurd (cc)
read_found (suc n) l ts y e = at_level_found (read n) n (read_found n) l ts y e
