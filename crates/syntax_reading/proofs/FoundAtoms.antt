-- Atoms: what reading gives is spelled so, and the grammar has it.
use Rattle.std.proofs.Common.{◌≡◌, ℕ, suc, ◌+◌, ◌≤◌, inl, inr, Bool, true, false, List, [], ◌∷◌, length, Option, Some, None, refl, sym, ap, ◌∙◌, subst, arith}
use Rattle.std.specs.Prelude.{option_map}
use Rattle.lexical_form.specs.Tokens as kind
use Rattle.py_tree.specs.Expressions as form
use Rattle.syntax_reading.specs.Words as is
use Rattle.py_tree.specs.Names.{Name}
use Rattle.py_tree.specs.Expressions.{Pieces, no_piece, characters, field, Tree, paren, tuple, list, dict, list_of, dict_of, Trees, none, no_pair, trees_of}
use Rattle.lexical_form.specs.Tokens.{Token, tokens_of}
use Rattle.syntax_form.specs.Printing.{tokens, token_pieces}
use Rattle.syntax_form.specs.Depth.{piece_depth}
use Rattle.syntax_form.specs.Shapes.{IsTuple}
use Rattle.syntax_reading.specs.Words.{is_free, may_be_literal, Fixed, Word, name, literal, f_text, fixed, other, words, token_list}
use Rattle.syntax_reading.specs.Readers.{Read, Reader, ◌>>=◌, on, by}
use Rattle.syntax_reading.specs.Items.{items, items_on}
use Rattle.syntax_reading.specs.Tables.{Level, E1, Bracket, Round, Square, Brace, bracket_of}
use Rattle.syntax_reading.specs.Parts.{pairs_of}
use Rattle.syntax_reading.specs.Reading.{nothing_left, with_field, alone, key_item, clause, round, square, brace, bracketed, parts, with_parts, atom}
use Rattle.syntax_reading.proofs.FieldTokens.{tokens_of_list}
use Rattle.syntax_reading.proofs.Shaped.{PiecesShaped}
use Rattle.syntax_reading.proofs.Spelling.{spell_names, spell, spell_tests}
use Rattle.syntax_reading.proofs.WordLaws.{before_nil, words_same}
use Rattle.syntax_reading.proofs.Choices.{bind_ok, guarded_ok, on_table_ok, on_ok, on_only_ok}
use Rattle.syntax_reading.proofs.ItemsFound.{items_on_all, items_later_all, is_many, ClosesApart, items_many}
use Rattle.syntax_reading.proofs.SpellingLaws.{spell_is}
use Rattle.syntax_reading.proofs.Lists.{Fits, list_of_items, all_shaped, comma_behind, spell_pair, PairFits, pairs_of_items, pairs_shaped, pair_comma}
use Rattle.syntax_reading.proofs.FoundParts.{Found, IsSound, ends, from, tree_item, pair_item, clause_found}

pub round_apart : ClosesApart (by is.round_close)
round_apart us rest n e = cc

-- two items, or one and a comma
pub is_tuple : (ts : List Tree) (b : Bool) → is_many ts b ≡ true → IsTuple (trees_of ts) b
is_tuple [] b h = absurd (cc)
is_tuple (t ∷ []) b h = h
is_tuple (t ∷ u ∷ ts) b h = tt

module _ (inner : Level → Reader Tree) (below : ℕ) (ih : IsSound inner below) where
  abbrev room : ℕ
  room = suc below

  -- ---- round brackets

  round_found : (ts : List Word) (y : Tree × List Word) → round inner room ts ≡ Some y → Found 11 room (fixed is.round_open ∷ ts) y.0 y.1
  unfolding round
  round_found ts y e =
      let made : List Tree × Bool → Reader Tree = λ a ws. Some (tuple (trees_of a.0) a.1, ws) in
      let alone_one : Tree → Reader Tree = λ t us. on is.round_close None (λ vs. Some (paren t, vs)) us in
      let several : Tree → Reader Tree = λ t vs. items (inner E1) (by is.round_close) (length vs + 1) (t ∷ []) vs >>= made in
      let step : Tree → Reader Tree = λ t us. on is.comma (alone_one t us) (several t) us in
      let before = λ (us : List Word). fixed is.round_open ∷ us in
      elim (on_ok is.round_close (inner E1 ts >>= step) (λ us. Some (tuple none false, us)) ts y e) [
        | inl t ↦ ends inner below ih 11 (tuple none false) (before ts) t.0 y (ap before t.1) (record { shaped = (tt, refl); high = omega arith; shallow = omega arith }) t.2
        | inr o ↦ (
            let b = bind_ok (inner E1 ts) step y o in
            let t = b.0.0 in
            let f = ih E1 ts b.0 b.1 in
            elim (on_ok is.comma (alone_one t b.0.1) (several t) b.0.1 y b.2) [
              | inl c ↦ (
                  let q = bind_ok (items (inner E1) (by is.round_close) (length c.0 + 1) (t ∷ []) c.0) made y c.2 in
                  let a = items_later_all (inner E1) (by is.round_close) spell (Fits 1 below) (tree_item inner below ih) (length c.0 + 1) t ts c.0 q.0 (f.spelled ∙ ap (spell t) c.1) f.fits q.1 in
                  let many = items_many (inner E1) (by is.round_close) spell (Fits 1 below) (tree_item inner below ih) (length c.0 + 1) t c.0 q.0 round_apart q.1 in
                  let l = all_shaped 1 below q.0.0.0 a.good in
                  let d = l.1 in
                  ends inner below ih 11 (tuple (trees_of q.0.0.0) q.0.0.1) (before ts) q.0.1 y
                  (ap before (a.spelled ∙ sym (list_of_items q.0.0.0 q.0.0.1 (by is.round_close) q.0.1)))
                  (record { shaped = (l.0, is_tuple q.0.0.0 q.0.0.1 many); high = omega arith; shallow = omega arith }) q.2)
              | inr p ↦ (
                  let k = on_only_ok is.round_close (λ vs. Some (paren t, vs)) b.0.1 y p in
                  ends inner below ih 11 (paren t) (before ts) k.0 y (ap before (f.spelled ∙ ap (spell t) k.1))
                  (record { shaped = (f.fits.high, f.fits.shaped); high = omega arith; shallow = let s = f.fits.shallow in omega arith }) k.2)
            ])
      ]

  -- ---- square brackets

  square_found : (ts : List Word) (y : Tree × List Word) → square inner room ts ≡ Some y → Found 11 room (fixed is.square_open ∷ ts) y.0 y.1
  unfolding square
  square_found ts y e =
      let made : List Tree × Bool → Reader Tree = λ a vs. Some (list (trees_of a.0) a.1, vs) in
      let displayed : Tree → Reader Tree = λ t us. items_on (inner E1) (by is.square_close) t us >>= made in
      let closing : Tree → List Name × Tree × Trees → Reader Tree = λ t c ws. on is.square_close None (λ xs. Some (list_of t c.0 c.1 c.2, xs)) ws in
      let each_of : Tree → Reader Tree = λ t vs. clause inner room vs >>= closing t in
      let step : Tree → Reader Tree = λ t us. on is.for_ (displayed t us) (each_of t) us in
      let before = λ (us : List Word). fixed is.square_open ∷ us in
      elim (on_ok is.square_close (inner E1 ts >>= step) (λ us. Some (list none false, us)) ts y e) [
        | inl t ↦ ends inner below ih 11 (list none false) (before ts) t.0 y (ap before t.1) (record { shaped = (tt, refl); high = omega arith; shallow = omega arith }) t.2
        | inr o ↦ (
            let b = bind_ok (inner E1 ts) step y o in
            let t = b.0.0 in
            let f = ih E1 ts b.0 b.1 in
            elim (on_ok is.for_ (displayed t b.0.1) (each_of t) b.0.1 y b.2) [
              | inl c ↦ (
                  let q = bind_ok (clause inner room c.0) (closing t) y c.2 in
                  let d = clause_found inner below ih c.0 q.0 q.1 in
                  let p = q.0.0 in
                  let k = on_only_ok is.square_close (λ xs. Some (list_of t p.0 p.1 p.2, xs)) q.0.1 y q.2 in
                  let tail : c.0 ≡ spell_names p.0 is.in_ (spell p.1 (spell_tests p.2 (fixed is.square_close ∷ k.0))) =
                  d.spelled ∙ ap (λ us. spell_names p.0 is.in_ (spell p.1 (spell_tests p.2 us))) k.1 in
                  let s = f.fits.shallow in
                  let u = d.from_fits.shallow in
                  let v = d.shallow in
                  ends inner below ih 11 (list_of t p.0 p.1 p.2) (before ts) k.0 y
                  (ap before (f.spelled ∙ ap (spell t) (c.1 ∙ ap (λ us. fixed is.for_ ∷ us) tail)))
                  (record { shaped = (f.fits.high, f.fits.shaped, d.names, d.from_fits.high, d.from_fits.shaped, d.tests); high = omega arith; shallow = omega arith }) k.2)
              | inr o' ↦ (
                  let q = bind_ok (items_on (inner E1) (by is.square_close) t b.0.1) made y o' in
                  let a = items_on_all (inner E1) (by is.square_close) spell (Fits 1 below) (tree_item inner below ih) t ts b.0.1 q.0 f.spelled f.fits q.1 in
                  let l = all_shaped 1 below q.0.0.0 a.good in
                  let d = l.1 in
                  ends inner below ih 11 (list (trees_of q.0.0.0) q.0.0.1) (before ts) q.0.1 y
                  (ap before (a.spelled ∙ sym (list_of_items q.0.0.0 q.0.0.1 (by is.square_close) q.0.1)))
                  (record { shaped = (l.0, comma_behind q.0.0.0 q.0.0.1 a.has); high = omega arith; shallow = omega arith }) q.2)
            ])
      ]

  -- ---- braces

  brace_found : (ts : List Word) (y : Tree × List Word) → brace inner room ts ≡ Some y → Found 11 room (fixed is.brace_open ∷ ts) y.0 y.1
  unfolding brace
  brace_found ts y e =
      let made : List (Tree × Tree) × Bool → Reader Tree = λ a vs. Some (dict (pairs_of a.0) a.1, vs) in
      let displayed : Tree × Tree → Reader Tree = λ t us. items_on (key_item inner room) (by is.brace_close) t us >>= made in
      let closing : Tree × Tree → List Name × Tree × Trees → Reader Tree = λ t c ws. on is.brace_close None (λ xs. Some (dict_of t.0 t.1 c.0 c.1 c.2, xs)) ws in
      let each_of : Tree × Tree → Reader Tree = λ t vs. clause inner room vs >>= closing t in
      let step : Tree × Tree → Reader Tree = λ t us. on is.for_ (displayed t us) (each_of t) us in
      let before = λ (us : List Word). fixed is.brace_open ∷ us in
      elim (on_ok is.brace_close (key_item inner room ts >>= step) (λ us. Some (dict no_pair false, us)) ts y e) [
        | inl t ↦ ends inner below ih 11 (dict no_pair false) (before ts) t.0 y (ap before t.1) (record { shaped = (tt, refl); high = omega arith; shallow = omega arith }) t.2
        | inr o ↦ (
            let b = bind_ok (key_item inner room ts) step y o in
            let t = b.0.0 in
            let f = pair_item inner below ih ts b.0 b.1 in
            let fk = f.1.0 in
            let fi = f.1.1 in
            elim (on_ok is.for_ (displayed t b.0.1) (each_of t) b.0.1 y b.2) [
              | inl c ↦ (
                  let q = bind_ok (clause inner room c.0) (closing t) y c.2 in
                  let d = clause_found inner below ih c.0 q.0 q.1 in
                  let p = q.0.0 in
                  let k = on_only_ok is.brace_close (λ xs. Some (dict_of t.0 t.1 p.0 p.1 p.2, xs)) q.0.1 y q.2 in
                  let tail : c.0 ≡ spell_names p.0 is.in_ (spell p.1 (spell_tests p.2 (fixed is.brace_close ∷ k.0))) =
                  d.spelled ∙ ap (λ us. spell_names p.0 is.in_ (spell p.1 (spell_tests p.2 us))) k.1 in
                  let s = fk.shallow in
                  let s' = fi.shallow in
                  let u = d.from_fits.shallow in
                  let v = d.shallow in
                  ends inner below ih 11 (dict_of t.0 t.1 p.0 p.1 p.2) (before ts) k.0 y
                  (ap before (f.0 ∙ ap (spell_pair t) (c.1 ∙ ap (λ us. fixed is.for_ ∷ us) tail)))
                  (record { shaped = (fk.high, fk.shaped, fi.high, fi.shaped, d.names, d.from_fits.high, d.from_fits.shaped, d.tests); high = omega arith; shallow = omega arith }) k.2)
              | inr o' ↦ (
                  let q = bind_ok (items_on (key_item inner room) (by is.brace_close) t b.0.1) made y o' in
                  let a = items_on_all (key_item inner room) (by is.brace_close) spell_pair (PairFits below) (pair_item inner below ih) t ts b.0.1 q.0 f.0 f.1 q.1 in
                  let l = pairs_shaped below q.0.0.0 a.good in
                  let d = l.1 in
                  ends inner below ih 11 (dict (pairs_of q.0.0.0) q.0.0.1) (before ts) q.0.1 y
                  (ap before (a.spelled ∙ sym (pairs_of_items q.0.0.0 q.0.0.1 q.0.1)))
                  (record { shaped = (l.0, pair_comma q.0.0.0 q.0.0.1 a.has); high = omega arith; shallow = omega arith }) q.2)
            ])
      ]

  -- ---- f-texts

  record Parts (fs : kind.Pieces) (ps : Pieces) : Type 0 where
    spelled : fs ≡ token_pieces ps
    shaped : PiecesShaped ps
    shallow : piece_depth ps ≤ below

  alone_found : (f : List Token) (t : Tree) → alone (inner E1 (words f)) ≡ Some t → (f ≡ tokens t) × Fits 1 below t
  alone_found f t e = by_read (inner E1 (words f)) refl e
    where
      by_rest : (u : Tree) (rest : List Word) → inner E1 (words f) ≡ Some (u, rest) → nothing_left u rest ≡ Some t → (f ≡ tokens t) × Fits 1 below t
      by_rest u [] g h =
          let same : u ≡ t = cc (h) in
          let s = ih E1 (words f) (u, []) g in
          let w : words f ≡ words (tokens u) = s.spelled ∙ (spell_is u s.fits.shaped [] ∙ before_nil (tokens u)) in
          subst (λ v. (f ≡ tokens v) × Fits 1 below v) same (words_same f (tokens u) w, s.fits)
      by_rest u (x ∷ rest) g h = absurd (cc)

      by_read : (r : Read Tree) → inner E1 (words f) ≡ r → alone r ≡ Some t → (f ≡ tokens t) × Fits 1 below t
      by_read None g h = absurd (cc)
      by_read (Some p) g h = by_rest p.0 p.1 g h

  parts_found : (fs : kind.Pieces) (ps : Pieces) → parts inner room fs ≡ Some ps → Parts fs ps
  unfolding parts
  parts_found kind.no_piece ps e =
      let same : no_piece ≡ ps = cc (e) in subst (Parts kind.no_piece) same (record { spelled = refl; shaped = tt; shallow = omega arith })
  parts_found (kind.piece (kind.characters cs) fs) ps e = by_rest (parts inner room fs) refl (λ us g. parts_found fs us g) e
    where
      by_rest : (p : Option Pieces) → parts inner room fs ≡ p → ((us : Pieces) → parts inner room fs ≡ Some us → Parts fs us) → option_map (characters cs) p ≡ Some ps →
          Parts (kind.piece (kind.characters cs) fs) ps
      by_rest None h later k = absurd (cc)
      by_rest (Some us) h later k =
          let same : characters cs us ≡ ps = cc (k) in
          let r = later us h in
          subst (Parts (kind.piece (kind.characters cs) fs)) same
          (record { spelled = ap (kind.piece (kind.characters cs)) r.spelled; shaped = r.shaped; shallow = r.shallow })
  parts_found (kind.piece (kind.field ts convert spec) fs) ps e =
      by_both (alone (inner E1 (words (token_list ts)))) (parts inner room fs) refl refl (λ us g. parts_found fs us g) e
    where
      by_both : (o : Option Tree) (p : Option Pieces) → alone (inner E1 (words (token_list ts))) ≡ o → parts inner room fs ≡ p →
          ((us : Pieces) → parts inner room fs ≡ Some us → Parts fs us) → with_field convert spec o p ≡ Some ps → Parts (kind.piece (kind.field ts convert spec) fs) ps
      by_both None p g h later k = absurd (cc)
      by_both (Some t) None g h later k = absurd (cc)
      by_both (Some t) (Some us) g h later k =
          let same : field t convert spec us ≡ ps = cc (k) in
          let a = alone_found (token_list ts) t g in
          let r = later us h in
          let s = a.1.shallow in
          let d = r.shallow in
          let own : ts ≡ tokens_of (tokens t) = sym (tokens_of_list ts) ∙ ap tokens_of a.0 in
          subst (Parts (kind.piece (kind.field ts convert spec) fs)) same (record {
            spelled = ap (λ x. kind.piece (kind.field x convert spec) fs) own ∙ ap (kind.piece (kind.field (tokens_of (tokens t)) convert spec)) r.spelled;
            shaped = (a.1.high, a.1.shaped, r.shaped);
            shallow = omega arith;
          })

  f_text_found : (cs : List ℕ) (fs : kind.Pieces) (ts : List Word) (y : Tree × List Word) → with_parts inner room cs ts (parts inner room fs) ≡ Some y →
      Found 11 room (f_text cs fs ∷ ts) y.0 y.1
  f_text_found cs fs ts y e = by_parts (parts inner room fs) refl e
    where
      by_parts : (o : Option Pieces) → parts inner room fs ≡ o → with_parts inner room cs ts o ≡ Some y → Found 11 room (f_text cs fs ∷ ts) y.0 y.1
      by_parts None h k = absurd (cc)
      by_parts (Some ps) h k =
          let p = parts_found fs ps h in
          let d = p.shallow in
          ends inner below ih 11 (form.f_text cs ps) (f_text cs fs ∷ ts) ts y (ap (λ x. f_text cs x ∷ ts) p.spelled)
          (record { shaped = (tt, p.shaped); high = omega arith; shallow = omega arith }) k

  -- ---- atoms

  bracket_found : (f : Fixed) (k : Bracket) (ts : List Word) (y : Tree × List Word) → bracket_of f ≡ Some k → bracketed inner room k ts ≡ Some y → Found 11 room (fixed f ∷ ts) y.0 y.1
  bracket_found is.round_open Round ts y h e = round_found ts y e
  bracket_found is.square_open Square ts y h e = square_found ts y e
  bracket_found is.brace_open Brace ts y h e = brace_found ts y e
  bracket_found f k ts y h e = absurd (cc)

  pub atom_found : (ts : List Word) (y : Tree × List Word) → atom inner room ts ≡ Some y → Found 11 room ts y.0 y.1
  unfolding atom
  atom_found [] y e = absurd (cc)
  atom_found (name x ∷ ts) y e =
      let g = guarded_ok (is_free x) (Some (form.name x, ts)) y e in
      ends inner below ih 11 (form.name x) (name x ∷ ts) ts y refl (record { shaped = g.0; high = omega arith; shallow = omega arith }) g.1
  atom_found (literal t ∷ ts) y e =
      let g = guarded_ok (may_be_literal t.kind t.spelling) (Some (form.literal t, ts)) y e in
      ends inner below ih 11 (form.literal t) (literal t ∷ ts) ts y refl (record { shaped = g.0; high = omega arith; shallow = omega arith }) g.1
  atom_found (f_text cs ps ∷ ts) y e = f_text_found cs ps ts y e
  atom_found (fixed f ∷ ts) y e = elim (on_table_ok bracket_of None (bracketed inner room) (fixed f ∷ ts) y e) [
    | inl h ↦ from inner below ih 11 (fixed f ∷ ts) (fixed h.word ∷ h.after) y h.stood (bracket_found h.word h.entry h.after y h.listed h.taken)
    | inr o ↦ absurd (cc)
  ]
  atom_found (other t ∷ ts) y e = absurd (cc)
