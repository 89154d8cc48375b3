-- The levels: what spells a tree of the grammar is read as that tree, where no word that follows binds to it.
use Rattle.std.proofs.Common.{◌≡◌, ℕ, zero, suc, ◌+◌, ◌<◌, ◌≤◌, Bool, true, false, List, [], ◌∷◌, length, Some, None, refl, sym, ap, ◌∙◌, nat_lt, arith}
use Rattle.std.proofs.lemmas.Bool.Decides.{nat_tests}
use Rattle.py_tree.specs.Expressions as form
use Rattle.syntax_reading.specs.Words as is
use Rattle.py_tree.specs.Expressions.{Pieces, no_piece, characters, field, Operator, Prefix, Comparison, Tree, conditional, binary, prefixed, chain, is_none, power, call, index, slice, attribute, paren, tuple, list, dict, list_of, dict_of, bare, Trees, none, more, Links, done, link, Arguments, no_argument, positional, keyword, Pairs, no_pair, pair, Bound, left_out, at, trees_of}
use Rattle.syntax_form.specs.Depth.{depth, argument_depth, bound_depth}
use Rattle.syntax_form.specs.Levels.{operator_level, prefix_level, level}
use Rattle.syntax_form.specs.Shapes.{CommaBehindArguments, NamedLast}
use Rattle.syntax_reading.specs.Words.{literal_of, is_none_spelled, is_free, may_be_literal, same, Fixed, Word, name, literal, f_text, fixed, other, word_of, words, none_literal, is_none_literal}
use Rattle.syntax_reading.specs.Readers.{Read, Reader, ◌>>=◌, on, guarded, by}
use Rattle.syntax_reading.specs.Items.{each}
use Rattle.syntax_reading.specs.Tables.{Level, E1, E2, E3, E4, E6, E7, E8, least, operator_at, deeper, prefix_at, Tail, Call, Index, Attribute, tail_of}
use Rattle.syntax_reading.specs.Parts.{first_comparison, first_name, Argument, arguments_of, named_last, links_of}
use Rattle.syntax_reading.specs.Reading.{argument, slice_end, indexed, called, tailed, tails, postfix, powers, prefixes, turns, operations, is_tail, chained, compared, whole, level_8, level_7, level_6, level_5, level_4, level_3, level_2, at_level, read}
use Rattle.syntax_reading.proofs.Binding.{binding, binds}
use Rattle.syntax_reading.proofs.Shaped.{ArgumentsShaped, BoundShaped}
use Rattle.syntax_reading.proofs.Spelling.{spell_all, operator_word, prefix_word, comparison_then, is_then, spell, spell_links, spell_arguments, spell_bound}
use Rattle.syntax_reading.proofs.Choices.{lt_of}
use Rattle.syntax_reading.proofs.ItemsFound.{AllGood}
use Rattle.syntax_reading.proofs.EachFound.{spell_each}
use Rattle.syntax_reading.proofs.Lists.{list_links, links_of_list, links_fit, list_arguments, arguments_of_list, arguments_fit, last_named, some_argument, Fits, spell_argument, ArgumentFits, arguments_of_items, links_of_each}
use Rattle.syntax_reading.proofs.Following.{guarded_by, on_table_skip, on_table_shut, on_skip, on_shut, operator_binds, operator_tight, prefix_loose, tail_tight, no_comparison, comparison_at, comparison_binds, comparison_longer, on_is_comparison, operator_there, opens_spell}
use Rattle.syntax_reading.proofs.ItemsOnly.{all_only, EachLaws, each_only}
use Rattle.syntax_reading.proofs.OnlyAtoms.{IsComplete, Complete, Loose, opens_one, argument_laws, atom_only}

operator_low : (op : Operator) → operator_level op < 8
operator_low form.Or = omega arith
operator_low form.And = omega arith
operator_low form.Add = omega arith
operator_low form.Subtract = omega arith
operator_low form.Multiply = omega arith
operator_low form.Floor = omega arith
operator_low form.Remainder = omega arith

prefix_low : (op : Prefix) → prefix_level op < 9
prefix_low form.Not = omega arith
prefix_low form.Minus = omega arith
prefix_low form.Plus = omega arith

-- no infix word binds as tightly as a sign
eight_word : (f : Fixed) → binding f < 9 → binding f < 8
eight_word is.stars h = absurd (omega arith)
eight_word f h = omega arith

no_eight : (ts : List Word) → binds ts < 9 → binds ts < 8
no_eight [] h = omega arith
no_eight (fixed f ∷ ts) h = eight_word f h
no_eight (w ∷ ts) h = omega arith

positive : (t : Tree) → 1 ≤ depth t
positive (form.name x) = omega arith
positive t = omega arith

abbrev is_binary : Tree → Bool
is_binary (binary op t u) = true
is_binary t = false

-- only operators stand at these levels
not_2 : (t : Tree) → is_binary t ≡ false → level t ≡ 2 → ⊥
not_2 (binary op t u) o h = absurd (cc)
not_2 (prefixed form.Not t) o h = omega arith
not_2 (prefixed form.Minus t) o h = omega arith
not_2 (prefixed form.Plus t) o h = omega arith
not_2 t o h = omega arith

not_3 : (t : Tree) → is_binary t ≡ false → level t ≡ 3 → ⊥
not_3 (binary op t u) o h = absurd (cc)
not_3 (prefixed form.Not t) o h = omega arith
not_3 (prefixed form.Minus t) o h = omega arith
not_3 (prefixed form.Plus t) o h = omega arith
not_3 t o h = omega arith

not_6 : (t : Tree) → is_binary t ≡ false → level t ≡ 6 → ⊥
not_6 (binary op t u) o h = absurd (cc)
not_6 (prefixed form.Not t) o h = omega arith
not_6 (prefixed form.Minus t) o h = omega arith
not_6 (prefixed form.Plus t) o h = omega arith
not_6 t o h = omega arith

not_7 : (t : Tree) → is_binary t ≡ false → level t ≡ 7 → ⊥
not_7 (binary op t u) o h = absurd (cc)
not_7 (prefixed form.Not t) o h = omega arith
not_7 (prefixed form.Minus t) o h = omega arith
not_7 (prefixed form.Plus t) o h = omega arith
not_7 t o h = omega arith

-- reading has come to this tree, with enough turns left for the deeper ones
record Comes (room : ℕ) (read_to : ℕ → Read Tree) (t : Tree) (whole_read : Read Tree) : Type 0 where
  turns_left : ℕ
  enough : room < turns_left + depth t
  came : whole_read ≡ read_to turns_left

module _ (inner : Level → Reader Tree) (below : ℕ) (ih : IsComplete inner below) where
  abbrev room : ℕ
  room = suc below

  -- ---- calls, indexes, slices and attributes

  called_only : (callee : Tree) (args : Arguments) (b : Bool) (rest : List Word) → ArgumentsShaped args → NamedLast args → CommaBehindArguments args b → argument_depth args ≤ below →
      called inner room callee (spell_arguments args b rest) ≡ Some (call callee args b, rest)
  called_only callee args b rest l k c d =
      let as_items = list_arguments args in
      let same_args : arguments_of as_items ≡ args = arguments_of_list args in
      let made : List Argument × Bool → Reader Tree = λ a us. guarded (named_last a.0) (Some (call callee (arguments_of a.0) a.1, us)) in
      let spelled : spell_arguments args b rest ≡ spell_all spell_argument as_items b (by is.round_close) rest = ap (λ us. spell_arguments us b rest) (sym same_args) ∙ arguments_of_items as_items b rest in
      let all = all_only (argument inner room) (by is.round_close) spell_argument (ArgumentFits below) Loose (argument_laws inner below ih) as_items b rest
      (length (spell_all spell_argument as_items b (by is.round_close) rest) + 1) (arguments_fit below args l d) (some_argument args b c) tt (omega arith) in
      ap (called inner room callee) spelled ∙
      (ap (λ r. r >>= made) all ∙ (ap (λ q. guarded q (Some (call callee (arguments_of as_items) b, rest))) (last_named args k) ∙ ap (λ us. Some (call callee us b, rest)) same_args))

  index_only : (base p : Tree) (rest : List Word) → Fits 1 below p → indexed inner room base (spell p (fixed is.square_close ∷ rest)) ≡ Some (index base p, rest)
  index_only base p rest f =
      let step : Tree → Reader Tree = λ q us. on is.colon (on is.square_close None (λ vs. Some (index base q, vs)) us) (slice_end inner room base (at q)) us in
      let ts = spell p (fixed is.square_close ∷ rest) in
      on_shut is.colon (inner E1 ts >>= step) (slice_end inner room base left_out) ts refl (opens_one inner below ih 0 p (fixed is.square_close ∷ rest) f) ∙
      ap (λ r. r >>= step) (ih E1 p (fixed is.square_close ∷ rest) f (omega arith))

  slice_end_only : (base : Tree) (from until : Bound) (rest : List Word) → BoundShaped until → bound_depth until ≤ below →
      slice_end inner room base from (spell_bound until (fixed is.square_close ∷ rest)) ≡ Some (slice base from until, rest)
  slice_end_only base from left_out rest l d = refl
  slice_end_only base from (at p) rest l d =
      let f : Fits 1 below p = record { shaped = l.1; high = l.0; shallow = d } in
      let step : Tree → Reader Tree = λ q us. on is.square_close None (λ vs. Some (slice base from (at q), vs)) us in
      let ts = spell p (fixed is.square_close ∷ rest) in
      on_shut is.square_close (inner E1 ts >>= step) (λ us. Some (slice base from left_out, us)) ts refl (opens_one inner below ih 0 p (fixed is.square_close ∷ rest) f) ∙
      ap (λ r. r >>= step) (ih E1 p (fixed is.square_close ∷ rest) f (omega arith))

  slice_only : (base : Tree) (from until : Bound) (rest : List Word) → BoundShaped from → bound_depth from ≤ below → BoundShaped until → bound_depth until ≤ below →
      indexed inner room base (spell_bound from (fixed is.colon ∷ spell_bound until (fixed is.square_close ∷ rest))) ≡ Some (slice base from until, rest)
  slice_only base left_out until rest l d m e = slice_end_only base left_out until rest m e
  slice_only base (at p) until rest l d m e =
      let f : Fits 1 below p = record { shaped = l.1; high = l.0; shallow = d } in
      let step : Tree → Reader Tree = λ q us. on is.colon (on is.square_close None (λ vs. Some (index base q, vs)) us) (slice_end inner room base (at q)) us in
      let after = fixed is.colon ∷ spell_bound until (fixed is.square_close ∷ rest) in
      let ts = spell p after in
      on_shut is.colon (inner E1 ts >>= step) (slice_end inner room base left_out) ts refl (opens_one inner below ih 0 p after f) ∙
      (ap (λ r. r >>= step) (ih E1 p after f (omega arith)) ∙ slice_end_only base (at p) until rest m e)

  to_tail : (n : ℕ) (f : Fixed) (k : Tail) (t u : Tree) (ts rest : List Word) → 0 < n → tail_of f ≡ Some k → depth t < room → tailed inner room t k ts ≡ Some (u, rest) →
      (m : ℕ) × (n ≡ m + 1) × (tails inner room n t (fixed f ∷ ts) ≡ tails inner room m u rest)
  unfolding tails
  to_tail zero f k t u ts rest p h d e = absurd (omega arith)
  to_tail (suc n) f k t u ts rest p h d e =
      (n, omega arith, rw h (guarded_by (depth t) room (tailed inner room t k ts >>= tails inner room n) d ∙ ap (λ r. r >>= tails inner room n) e))

  postfix_comes : (t : Tree) (rest : List Word) → Fits 10 room t → Comes room (λ n. tails inner room n t rest) t (postfix inner room (spell t rest))
  unfolding postfix tailed
  postfix_comes (call t args b) rest f =
      let s = f.shallow in
      let l = f.shaped in
      let c = postfix_comes t (fixed is.round_open ∷ spell_arguments args b rest) (record { shaped = l.1; high = l.0; shallow = omega arith }) in
      let enough = c.enough in
      let step = to_tail c.turns_left is.round_open Call t (call t args b) (spell_arguments args b rest) rest (omega arith) refl (omega arith) (called_only t args b rest l.2 l.3 l.4 (omega arith)) in
      record { turns_left = step.0; enough = let n = step.1 in omega arith; came = c.came ∙ step.2 }
  postfix_comes (index t p) rest f =
      let s = f.shallow in
      let l = f.shaped in
      let ts = spell p (fixed is.square_close ∷ rest) in
      let c = postfix_comes t (fixed is.square_open ∷ ts) (record { shaped = l.1; high = l.0; shallow = omega arith }) in
      let enough = c.enough in
      let step = to_tail c.turns_left is.square_open Index t (index t p) ts rest (omega arith) refl (omega arith) (index_only t p rest (record { shaped = l.3; high = l.2; shallow = omega arith })) in
      record { turns_left = step.0; enough = let n = step.1 in omega arith; came = c.came ∙ step.2 }
  postfix_comes (slice t from until) rest f =
      let s = f.shallow in
      let l = f.shaped in
      let ts = spell_bound from (fixed is.colon ∷ spell_bound until (fixed is.square_close ∷ rest)) in
      let c = postfix_comes t (fixed is.square_open ∷ ts) (record { shaped = l.1; high = l.0; shallow = omega arith }) in
      let enough = c.enough in
      let step = to_tail c.turns_left is.square_open Index t (slice t from until) ts rest (omega arith) refl (omega arith) (slice_only t from until rest l.2 (omega arith) l.3 (omega arith)) in
      record { turns_left = step.0; enough = let n = step.1 in omega arith; came = c.came ∙ step.2 }
  postfix_comes (attribute t x) rest f =
      let s = f.shallow in
      let l = f.shaped in
      let c = postfix_comes t (fixed is.dot ∷ name x ∷ rest) (record { shaped = l.1; high = l.0; shallow = omega arith }) in
      let enough = c.enough in
      let named_so : (first_name (name x ∷ rest) >>= λ y us. Some (attribute t y, us)) ≡ Some (attribute t x, rest) = let h = l.2 in rw h refl in
      let step = to_tail c.turns_left is.dot Attribute t (attribute t x) (name x ∷ rest) rest (omega arith) refl (omega arith) named_so in
      record { turns_left = step.0; enough = let n = step.1 in omega arith; came = c.came ∙ step.2 }
  postfix_comes (binary op a b) rest f = let h = f.high in let k = operator_low op in absurd (omega arith)
  postfix_comes (prefixed op a) rest f = let h = f.high in let k = prefix_low op in absurd (omega arith)
  postfix_comes (conditional a b c) rest f = let h = f.high in absurd (omega arith)
  postfix_comes (chain a c b ls) rest f = let h = f.high in absurd (omega arith)
  postfix_comes (is_none b a) rest f = let h = f.high in absurd (omega arith)
  postfix_comes (power a b) rest f = let h = f.high in absurd (omega arith)
  postfix_comes (bare ts b) rest f = let h = f.high in absurd (omega arith)
  postfix_comes t rest f = by_atom t rest (record { shaped = f.shaped; high = omega arith; shallow = f.shallow })
    where
      by_atom : (u : Tree) (after : List Word) → Fits 11 room u → Comes room (λ n. tails inner room n u after) u (postfix inner room (spell u after))
      by_atom u after g = record { turns_left = room; enough = let p = positive u in omega arith; came = ap (λ r. r >>= tails inner room room) (atom_only inner below ih u after g) }

  tails_end : (n : ℕ) (t : Tree) (rest : List Word) → 0 < n → binds rest < 10 → tails inner room n t rest ≡ Some (t, rest)
  unfolding tails
  tails_end zero t rest p b = absurd (omega arith)
  tails_end (suc n) t rest p b =
      on_table_skip tail_of (Some (t, rest)) (λ k us. guarded (nat_lt (depth t) room) (tailed inner room t k us >>= tails inner room n)) 10 rest tail_tight b

  postfix_only : Complete 10 10 room (postfix inner room)
  postfix_only t rest f b =
      let c = postfix_comes t rest f in
      let enough = c.enough in
      let s = f.shallow in
      c.came ∙ tails_end c.turns_left t rest (omega arith) b

  -- ---- powers

  abbrev power_right : Tree → Reader Tree
  power_right t vs = guarded (nat_lt (depth t) room) (inner E8 vs >>= λ u ws. Some (power t u, ws))

  abbrev power_step : Tree → Reader Tree
  power_step t us = on is.stars (Some (t, us)) (power_right t) us

  powers_only : Complete 9 9 room (powers inner room)
  unfolding powers
  powers_only (power t u) rest f b =
      let s = f.shallow in
      let l = f.shaped in
      let deep : depth t < room = omega arith in
      let left = postfix_only t (fixed is.stars ∷ spell u rest) (record { shaped = l.1; high = l.0; shallow = omega arith }) (omega arith) in
      let right = ih E8 u rest (record { shaped = l.3; high = l.2; shallow = omega arith }) (no_eight rest b) in
      ap (λ r. r >>= power_step) left ∙ (guarded_by (depth t) room (inner E8 (spell u rest) >>= λ v ws. Some (power t v, ws)) deep ∙ ap (λ r. r >>= λ v ws. Some (power t v, ws)) right)
  powers_only (binary op x y) rest f b = let h = f.high in let k = operator_low op in absurd (omega arith)
  powers_only (prefixed op x) rest f b = let h = f.high in let k = prefix_low op in absurd (omega arith)
  powers_only t rest f b = by_postfix t rest (record { shaped = f.shaped; high = let h = f.high in omega arith; shallow = f.shallow }) b
    where
      by_postfix : (u : Tree) (after : List Word) → Fits 10 room u → binds after < 9 → powers inner room (spell u after) ≡ Some (u, after)
      by_postfix u after g c = ap (λ r. r >>= power_step) (postfix_only u after g (omega arith)) ∙ on_skip is.stars (Some (u, after)) (power_right u) 9 after (omega arith) c

  -- ---- operators before an operand

  module _ (l : Level) (low : Reader Tree) (low_only : Complete (least l + 1) (least l + 1) room low) where
    prefix_taken : (op : Prefix) (t : Tree) (rest : List Word) → prefix_at l (prefix_word op) ≡ Some op → Fits (least l) below t → binds rest < least l →
        prefixes inner room l low (fixed (prefix_word op) ∷ spell t rest) ≡ Some (prefixed op t, rest)
    unfolding prefixes
    prefix_taken op t rest h f b = rw h (ap (λ r. r >>= λ u vs. Some (prefixed op u, vs)) (ih l t rest f b))

    prefix_passed : (t : Tree) (rest : List Word) → Fits (least l + 1) room t → binds rest < least l → prefixes inner room l low (spell t rest) ≡ Some (t, rest)
    unfolding prefixes
    prefix_passed t rest f b =
        let o = opens_spell t rest f.shaped in
        let h = f.high in
        on_table_shut (prefix_at l) (low (spell t rest)) (λ op us. inner l us >>= λ u vs. Some (prefixed op u, vs)) (least l + 1) (spell t rest) (prefix_loose l) (omega arith) ∙
        low_only t rest f (omega arith)

  denials_only : (low : Reader Tree) → Complete 5 5 room low → Complete 4 4 room (prefixes inner room E4 low)
  denials_only low low_only (prefixed form.Not t) rest f b =
      let s = f.shallow in
      prefix_taken E4 low low_only form.Not t rest refl (record { shaped = f.shaped.1; high = f.shaped.0; shallow = omega arith }) b
  denials_only low low_only (prefixed form.Minus t) rest f b = prefix_passed E4 low low_only (prefixed form.Minus t) rest (record { shaped = f.shaped; high = omega arith; shallow = f.shallow }) b
  denials_only low low_only (prefixed form.Plus t) rest f b = prefix_passed E4 low low_only (prefixed form.Plus t) rest (record { shaped = f.shaped; high = omega arith; shallow = f.shallow }) b
  denials_only low low_only (binary op x y) rest f b = prefix_passed E4 low low_only (binary op x y) rest (record { shaped = f.shaped; high = not_four op f.high; shallow = f.shallow }) b
    where
      not_four : (o : Operator) → 4 ≤ operator_level o → 5 ≤ operator_level o
      not_four form.Or h = omega arith
      not_four form.And h = omega arith
      not_four form.Add h = omega arith
      not_four form.Subtract h = omega arith
      not_four form.Multiply h = omega arith
      not_four form.Floor h = omega arith
      not_four form.Remainder h = omega arith
  denials_only low low_only t rest f b = prefix_passed E4 low low_only t rest (record { shaped = f.shaped; high = let h = f.high in omega arith; shallow = f.shallow }) b

  signs_only : (low : Reader Tree) → Complete 9 9 room low → Complete 8 8 room (prefixes inner room E8 low)
  signs_only low low_only (prefixed form.Not t) rest f b = let h = f.high in absurd (omega arith)
  signs_only low low_only (prefixed form.Minus t) rest f b =
      let s = f.shallow in
      prefix_taken E8 low low_only form.Minus t rest refl (record { shaped = f.shaped.1; high = f.shaped.0; shallow = omega arith }) b
  signs_only low low_only (prefixed form.Plus t) rest f b =
      let s = f.shallow in
      prefix_taken E8 low low_only form.Plus t rest refl (record { shaped = f.shaped.1; high = f.shaped.0; shallow = omega arith }) b
  signs_only low low_only (binary op x y) rest f b = let h = f.high in let k = operator_low op in absurd (omega arith)
  signs_only low low_only t rest f b = prefix_passed E8 low low_only t rest (record { shaped = f.shaped; high = let h = f.high in omega arith; shallow = f.shallow }) b

  -- ---- operators between operands

  module _ (l : Level) (low : Reader Tree) (low_only : Complete (least l + 1) (least l + 1) room low) (next : least (deeper l) ≡ least l + 1) (apart : (t : Tree) → is_binary t ≡ false → level t ≡ least l → ⊥) where
    to_operation : (n : ℕ) (op : Operator) (t u : Tree) (rest : List Word) → 0 < n → operator_level op ≡ least l → depth t < room → inner (deeper l) (spell u rest) ≡ Some (u, rest) →
        (m : ℕ) × (n ≡ m + 1) × (turns inner room l n t (fixed (operator_word op) ∷ spell u rest) ≡ turns inner room l m (binary op t u) rest)
    unfolding turns
    to_operation zero op t u rest p h d e = absurd (omega arith)
    to_operation (suc n) op t u rest p h d e =
        let there = operator_there l op h in
        (n, omega arith, rw there (guarded_by (depth t) room (inner (deeper l) (spell u rest) >>= λ v. turns inner room l n (binary op t v)) d ∙ ap (λ r. r >>= λ v. turns inner room l n (binary op t v)) e))

    by_low : (t : Tree) (rest : List Word) → Fits (least l + 1) room t → binds rest < least l + 1 → Comes room (λ n. turns inner room l n t rest) t (operations inner room l low (spell t rest))
    unfolding operations
    by_low t rest f b = record { turns_left = room; enough = let p = positive t in omega arith; came = ap (λ r. r >>= turns inner room l room) (low_only t rest f b) }

    above : (m : ℕ) → least l ≤ m → (m ≡ least l → ⊥) → least l + 1 ≤ m
    above m h n = by_test (nat_lt (least l) m) refl
      where
        by_test : (q : Bool) → nat_lt (least l) m ≡ q → least l + 1 ≤ m
        by_test true e = let g = lt_of (least l) m e in omega arith
        by_test false e = let same_level : m ≡ least l = grind (arith, nat_tests) in absurd (n same_level)

    by_other : (t : Tree) (rest : List Word) → is_binary t ≡ false → Fits (least l) room t → binds rest < least l + 1 → Comes room (λ n. turns inner room l n t rest) t (operations inner room l low (spell t rest))
    by_other t rest o f b = by_low t rest (record { shaped = f.shaped; high = above (level t) f.high (apart t o); shallow = f.shallow }) b

    by_operation : (op : Operator) (t u : Tree) (rest : List Word) → Fits (least l) room (binary op t u) → binds rest < least l + 1 →
        ((after : List Word) → Fits (least l) room t → binds after < least l + 1 → Comes room (λ n. turns inner room l n t after) t (operations inner room l low (spell t after))) →
        operator_level op ≡ least l → Comes room (λ n. turns inner room l n (binary op t u) rest) (binary op t u) (operations inner room l low (spell (binary op t u) rest))
    by_operation op t u rest f b left same_level =
        let s = f.shallow in
        let k = f.shaped in
        let after = fixed (operator_word op) ∷ spell u rest in
        let binds_so : binds after ≡ operator_level op = operator_binds op in
        let c = left after (record { shaped = k.1; high = let h = k.0 in omega arith; shallow = omega arith }) (omega arith) in
        let enough = c.enough in
        let right = ih (deeper l) u rest (record { shaped = k.3; high = let h = k.2 in omega arith; shallow = omega arith }) (omega arith) in
        let step = to_operation c.turns_left op t u rest (omega arith) same_level (omega arith) right in
        record { turns_left = step.0; enough = let n = step.1 in omega arith; came = c.came ∙ step.2 }

    by_binary : (op : Operator) (t u : Tree) (rest : List Word) → Fits (least l) room (binary op t u) → binds rest < least l + 1 →
        ((after : List Word) → Fits (least l) room t → binds after < least l + 1 → Comes room (λ n. turns inner room l n t after) t (operations inner room l low (spell t after))) →
        (q : Bool) → nat_lt (least l) (operator_level op) ≡ q → Comes room (λ n. turns inner room l n (binary op t u) rest) (binary op t u) (operations inner room l low (spell (binary op t u) rest))
    by_binary op t u rest f b left true h = by_low (binary op t u) rest (record { shaped = f.shaped; high = let g = lt_of (least l) (operator_level op) h in omega arith; shallow = f.shallow }) b
    by_binary op t u rest f b left false h = by_operation op t u rest f b left (let g = f.high in grind (arith, nat_tests))

    operations_come : (t : Tree) (rest : List Word) → Fits (least l) room t → binds rest < least l + 1 → Comes room (λ n. turns inner room l n t rest) t (operations inner room l low (spell t rest))
    operations_come (binary op t u) rest f b = by_binary op t u rest f b (λ after g c. operations_come t after g c) (nat_lt (least l) (operator_level op)) refl
    operations_come t rest f b = by_other t rest refl f b

    turns_end : (n : ℕ) (t : Tree) (rest : List Word) → 0 < n → binds rest < least l → turns inner room l n t rest ≡ Some (t, rest)
    unfolding turns
    turns_end zero t rest p b = absurd (omega arith)
    turns_end (suc n) t rest p b =
        on_table_skip (operator_at l) (Some (t, rest)) (λ op us. guarded (nat_lt (depth t) room) (inner (deeper l) us >>= λ u. turns inner room l n (binary op t u))) (least l) rest (operator_tight l) b

    operations_only : Complete (least l) (least l) room (operations inner room l low)
    operations_only t rest f b =
        let c = operations_come t rest f (omega arith) in
        let enough = c.enough in
        let s = f.shallow in
        c.came ∙ turns_end c.turns_left t rest (omega arith) b

  -- ---- comparisons

  link_laws : EachLaws first_comparison (inner E6) comparison_then (Fits 6 below) (λ ts. binds ts < 6)
  link_laws = record {
    only = λ t rest g m. ih E6 t rest g m;
    starts = comparison_at;
    may_start = λ c rest. let h = comparison_binds c rest in omega arith;
    longer = comparison_longer;
  }

  links_only : (ls : List (Comparison × Tree)) (rest : List Word) → AllGood (λ l. Fits 6 below l.1) ls → binds rest < 5 →
      each first_comparison (inner E6) (length (spell_each comparison_then ls rest) + 1) [] (spell_each comparison_then ls rest) ≡ Some (ls, rest)
  links_only ls rest g b =
      each_only first_comparison (inner E6) comparison_then (Fits 6 below) (λ ts. binds ts < 6) link_laws ls rest (length (spell_each comparison_then ls rest) + 1) [] g (omega arith) (no_comparison rest b) (omega arith)

  abbrev compared_links : Tree → Reader Tree
  compared_links t us = each first_comparison (inner E6) (length us + 1) [] us >>= chained inner room t

  abbrev compared_step : Tree → Reader Tree
  compared_step t us = on is.is_ (compared_links t us) (λ vs. guarded (nat_lt (depth t) room) (is_tail inner room t vs)) us

  by_low_one : (low : Reader Tree) → Complete 6 6 room low → (t : Tree) (rest : List Word) → Fits 6 room t → binds rest < 5 → compared inner room low (spell t rest) ≡ Some (t, rest)
  unfolding compared
  by_low_one low low_only t rest f b =
      ap (λ r. r >>= compared_step) (low_only t rest f (omega arith)) ∙
      (on_skip is.is_ (compared_links t rest) (λ vs. guarded (nat_lt (depth t) room) (is_tail inner room t vs)) 5 rest (omega arith) b ∙
      ap (λ r. r >>= chained inner room t) (links_only [] rest tt b))

  compared_only : (low : Reader Tree) → Complete 6 6 room low → Complete 5 5 room (compared inner room low)
  unfolding compared
  compared_only low low_only (chain t c u links) rest f b =
      let s = f.shallow in
      let l = f.shaped in
      let deep : depth t < room = omega arith in
      let ls = list_links links in
      let same_links : links_of ls ≡ links = links_of_list links in
      let after = comparison_then c (spell u (spell_links links rest)) in
      let each_after = spell_each comparison_then ((c, u) ∷ ls) rest in
      let spelled : after ≡ each_after = ap (λ ks. comparison_then c (spell u (spell_links ks rest))) (sym same_links) ∙ ap (λ ws. comparison_then c (spell u ws)) (links_of_each ls rest) in
      let binds_so = comparison_binds c (spell u (spell_links links rest)) in
      let first = low_only t after (record { shaped = l.1; high = l.0; shallow = omega arith }) (omega arith) in
      let fits : AllGood (λ k. Fits 6 below k.1) ((c, u) ∷ ls) = (record { shaped = l.3; high = l.2; shallow = omega arith }, links_fit below links l.4 (omega arith)) in
      ap (λ r. r >>= compared_step) first ∙
      (on_is_comparison (compared_links t after) (λ vs. guarded (nat_lt (depth t) room) (is_tail inner room t vs)) c (spell u (spell_links links rest)) ∙
      (ap (compared_links t) spelled ∙
      (ap (λ r. r >>= chained inner room t) (links_only ((c, u) ∷ ls) rest fits b) ∙
      (guarded_by (depth t) room (Some (chain t c u (links_of ls), rest)) deep ∙ ap (λ ks. Some (chain t c u ks, rest)) same_links))))
  compared_only low low_only (is_none true t) rest f b =
      let s = f.shallow in
      let deep : depth t < room = omega arith in
      let first = low_only t (is_then true rest) (record { shaped = f.shaped.1; high = f.shaped.0; shallow = omega arith }) (omega arith) in
      ap (λ r. r >>= compared_step) first ∙ guarded_by (depth t) room (is_tail inner room t (fixed is.not_ ∷ literal none_literal ∷ rest)) deep
  compared_only low low_only (is_none false t) rest f b =
      let s = f.shallow in
      let deep : depth t < room = omega arith in
      let first = low_only t (is_then false rest) (record { shaped = f.shaped.1; high = f.shaped.0; shallow = omega arith }) (omega arith) in
      ap (λ r. r >>= compared_step) first ∙ guarded_by (depth t) room (is_tail inner room t (literal none_literal ∷ rest)) deep
  compared_only low low_only (binary op x y) rest f b = by_low_one low low_only (binary op x y) rest (record { shaped = f.shaped; high = not_five op f.high; shallow = f.shallow }) b
    where
      not_five : (o : Operator) → 5 ≤ operator_level o → 6 ≤ operator_level o
      not_five form.Or h = omega arith
      not_five form.And h = omega arith
      not_five form.Add h = omega arith
      not_five form.Subtract h = omega arith
      not_five form.Multiply h = omega arith
      not_five form.Floor h = omega arith
      not_five form.Remainder h = omega arith
  compared_only low low_only (prefixed op x) rest f b = by_low_one low low_only (prefixed op x) rest (record { shaped = f.shaped; high = not_five op f.high; shallow = f.shallow }) b
    where
      not_five : (o : Prefix) → 5 ≤ prefix_level o → 6 ≤ prefix_level o
      not_five form.Not h = omega arith
      not_five form.Minus h = omega arith
      not_five form.Plus h = omega arith
  compared_only low low_only t rest f b = by_low_one low low_only t rest (record { shaped = f.shaped; high = let h = f.high in omega arith; shallow = f.shallow }) b

  -- ---- conditionals

  abbrev else_step : Tree → Tree → Reader Tree
  else_step t u ws = inner E1 ws >>= λ o xs. Some (conditional t u o, xs)

  abbrev if_step : Tree → Reader Tree
  if_step t vs = guarded (nat_lt (depth t) room) (inner E2 vs >>= λ u. on is.else_ None (else_step t u))

  abbrev whole_step : Tree → Reader Tree
  whole_step t us = on is.if_ (Some (t, us)) (if_step t) us

  by_low_whole : (low : Reader Tree) → Complete 2 2 room low → (t : Tree) (rest : List Word) → Fits 2 room t → binds rest < 1 → whole inner room low (spell t rest) ≡ Some (t, rest)
  unfolding whole
  by_low_whole low low_only t rest f b = ap (λ r. r >>= whole_step) (low_only t rest f (omega arith)) ∙ on_skip is.if_ (Some (t, rest)) (if_step t) 1 rest (omega arith) b

  whole_only : (low : Reader Tree) → Complete 2 2 room low → Complete 1 1 room (whole inner room low)
  unfolding whole
  whole_only low low_only (conditional t u o) rest f b =
      let s = f.shallow in
      let l = f.shaped in
      let deep : depth t < room = omega arith in
      let after_else = spell o rest in
      let after_if = spell u (fixed is.else_ ∷ after_else) in
      let first = low_only t (fixed is.if_ ∷ after_if) (record { shaped = l.1; high = l.0; shallow = omega arith }) (omega arith) in
      let second = ih E2 u (fixed is.else_ ∷ after_else) (record { shaped = l.3; high = l.2; shallow = omega arith }) (omega arith) in
      let third = ih E1 o rest (record { shaped = l.5; high = l.4; shallow = omega arith }) b in
      ap (λ r. r >>= whole_step) first ∙
      (guarded_by (depth t) room (inner E2 after_if >>= λ v. on is.else_ None (else_step t v)) deep ∙
      (ap (λ r. r >>= λ v. on is.else_ None (else_step t v)) second ∙ ap (λ r. r >>= λ p xs. Some (conditional t u p, xs)) third))
  whole_only low low_only (binary op x y) rest f b = by_low_whole low low_only (binary op x y) rest (record { shaped = f.shaped; high = not_one op; shallow = f.shallow }) b
    where
      not_one : (o : Operator) → 2 ≤ operator_level o
      not_one form.Or = omega arith
      not_one form.And = omega arith
      not_one form.Add = omega arith
      not_one form.Subtract = omega arith
      not_one form.Multiply = omega arith
      not_one form.Floor = omega arith
      not_one form.Remainder = omega arith
  whole_only low low_only (prefixed op x) rest f b = by_low_whole low low_only (prefixed op x) rest (record { shaped = f.shaped; high = not_one op; shallow = f.shallow }) b
    where
      not_one : (o : Prefix) → 2 ≤ prefix_level o
      not_one form.Not = omega arith
      not_one form.Minus = omega arith
      not_one form.Plus = omega arith
  whole_only low low_only t rest f b = by_low_whole low low_only t rest (record { shaped = f.shaped; high = let h = f.high in omega arith; shallow = f.shallow }) b

  -- ---- all levels

  only_8 : Complete 8 8 room (level_8 inner room)
  only_8 = signs_only (powers inner room) powers_only

  only_7 : Complete 7 7 room (level_7 inner room)
  only_7 = operations_only E7 (level_8 inner room) only_8 refl not_7

  only_6 : Complete 6 6 room (level_6 inner room)
  only_6 = operations_only E6 (level_7 inner room) only_7 refl not_6

  only_5 : Complete 5 5 room (level_5 inner room)
  only_5 = compared_only (level_6 inner room) only_6

  only_4 : Complete 4 4 room (level_4 inner room)
  only_4 = denials_only (level_5 inner room) only_5

  only_3 : Complete 3 3 room (level_3 inner room)
  only_3 = operations_only E3 (level_4 inner room) only_4 refl not_3

  only_2 : Complete 2 2 room (level_2 inner room)
  only_2 = operations_only E2 (level_3 inner room) only_3 refl not_2

  at_level_only : IsComplete (at_level inner room) room
  at_level_only E1 t rest f b = whole_only (level_2 inner room) only_2 t rest f b
  at_level_only E2 t rest f b = only_2 t rest f b
  at_level_only E3 t rest f b = only_3 t rest f b
  at_level_only E4 t rest f b = only_4 t rest f b
  at_level_only E6 t rest f b = only_6 t rest f b
  at_level_only E7 t rest f b = only_7 t rest f b
  at_level_only E8 t rest f b = only_8 t rest f b

pub read_only : (n : ℕ) → IsComplete (read n) n
unfolding read
read_only zero l t rest f b = let s = f.shallow in let p = positive t in absurd (omega arith)
read_only (suc n) l t rest f b = at_level_only (read n) n (read_only n) l t rest f b
