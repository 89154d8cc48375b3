-- What spells a tree of the grammar is read as that tree, where no word that follows binds to it.
use Rattle.std.proofs.Common.{◌≡◌, ℕ, suc, ◌+◌, ◌<◌, ◌≤◌, Bool, true, false, ◌&&◌, List, [], ◌∷◌, length, Some, None, refl, sym, ap, ◌∙◌, arith}
use Rattle.std.specs.Prelude.{option_map}
use Rattle.py_tree.specs.Expressions as form
use Rattle.syntax_reading.specs.Words as is
use Rattle.py_tree.specs.Names.{Name}
use Rattle.py_tree.specs.Expressions.{Pieces, no_piece, characters, field, Operator, Prefix, Tree, binary, prefixed, paren, tuple, list, dict, list_of, dict_of, Trees, none, more, Pairs, no_pair, pair, trees_of}
use Rattle.syntax_form.specs.Printing.{tokens, token_pieces}
use Rattle.syntax_form.specs.Depth.{piece_depth, list_depth}
use Rattle.syntax_form.specs.Levels.{operator_level, prefix_level}
use Rattle.syntax_form.specs.Shapes.{CommaBehind, IsTuple, CommaBehindPairs}
use Rattle.syntax_reading.specs.Words.{same, Fixed, Word, name, literal, f_text, fixed, words}
use Rattle.syntax_reading.specs.Readers.{Read, Reader, ◌>>=◌, choose, on, guarded, Closing, by, is_some}
use Rattle.syntax_reading.specs.Items.{items, items_on, each}
use Rattle.syntax_reading.specs.Tables.{Level, E1, E2, least}
use Rattle.syntax_reading.specs.Parts.{first_name, first_if, first_keyword, some_names, targets, Argument, plain, named, pairs_of, tests_of}
use Rattle.syntax_reading.specs.Reading.{with_field, alone, argument, key_item, clause, round, square, brace, parts, with_parts, atom}
use Rattle.syntax_reading.proofs.FieldTokens.{list_of_tokens}
use Rattle.syntax_reading.proofs.Binding.{binding, binds, opens}
use Rattle.syntax_reading.proofs.Shaped.{PiecesShaped, IsFree, AreFreeTargets, AllShaped}
use Rattle.syntax_reading.proofs.Spelling.{closes, spell_more, spell_all, spell_name, spell_names, spell, spell_list, spell_pairs, spell_tests}
use Rattle.syntax_reading.proofs.WordLaws.{before_nil}
use Rattle.syntax_reading.proofs.Choices.{Ends}
use Rattle.syntax_reading.proofs.ItemsFound.{AllGood, is_many}
use Rattle.syntax_reading.proofs.SpellingLaws.{spell_is}
use Rattle.syntax_reading.proofs.EachFound.{spell_each}
use Rattle.syntax_reading.proofs.Lists.{list_trees, trees_of_list, all_fit, list_tests, tests_of_list, tests_fit, list_pairs, pairs_of_list, pairs_fit, targets_good, Fits, list_of_items, spell_pair, PairFits, pairs_of_items, spell_argument, ArgumentFits, if_then, tests_of_each}
use Rattle.syntax_reading.proofs.Following.{on_shut, no_if, CloseFine, opens_spell, spell_longer, no_keyword}
use Rattle.syntax_reading.proofs.ItemsOnly.{ItemLaws, items_closed, items_next, all_only, on_only, EachLaws, each_only}

abbrev pub IsComplete : (Level → Reader Tree) → ℕ → Type 0
IsComplete inner room = (l : Level) (t : Tree) (rest : List Word) → Fits (least l) room t → binds rest < least l → inner l (spell t rest) ≡ Some (t, rest)

-- a reader of trees from level k on, where what follows binds less than j
abbrev pub Complete : ℕ → ℕ → ℕ → Reader Tree → Type 0
Complete k j room reader = (t : Tree) (rest : List Word) → Fits k room t → binds rest < j → reader (spell t rest) ≡ Some (t, rest)

abbrev pub AnyRest : List Word → Type 0
AnyRest rest = Unit {0}

abbrev pub Loose : List Word → Type 0
Loose rest = binds rest < 1

-- ---- names

name_only : (x : Name) (rest : List Word) → IsFree x → AnyRest rest → first_name (spell_name x rest) ≡ Some (x, rest)
name_only x rest h m = rw h refl

pub name_laws : (c : Closing) → CloseFine c → ItemLaws first_name c spell_name IsFree AnyRest
name_laws c fine = record {
  only = name_only;
  may_comma = λ rest. tt;
  may_close = λ rest e. tt;
  begins = λ x rest g. omega arith;
  longer = λ x rest. omega arith;
  fine = fine;
}

some_targets : (xs : List Name) → AreFreeTargets xs → is_some xs ≡ true
some_targets [] h = absurd h
some_targets (x ∷ xs) h = refl

pub targets_only : (f : Fixed) (xs : List Name) (rest : List Word) → CloseFine (by f) → AreFreeTargets xs → targets f (spell_names xs f rest) ≡ Some (xs, rest)
targets_only f xs rest fine h =
    let step : List Name × Bool → Reader (List Name) = λ a us. guarded (some_names a) (Some (a.0, us)) in
    let all = all_only first_name (by f) spell_name IsFree AnyRest (name_laws (by f) fine) xs false rest (length (spell_names xs f rest) + 1) (targets_good xs h) (λ b. absurd (cc)) tt (omega arith) in
    ap (λ r. r >>= step) all ∙ ap (λ b. guarded (b && true) (Some (xs, rest))) (some_targets xs h)

module _ (inner : Level → Reader Tree) (below : ℕ) (ih : IsComplete inner below) where
  abbrev room : ℕ
  room = suc below

  -- ---- items

  pub tree_laws : (c : Closing) → ((rest : List Word) → Ends c rest → binds (closes c rest) < 1) → CloseFine c → ItemLaws (inner E1) c spell (Fits 1 below) Loose
  tree_laws c loose fine = record {
    only = λ t rest g m. ih E1 t rest g m;
    may_comma = λ rest. omega arith;
    may_close = loose;
    begins = λ t rest g. let h = opens_spell t rest g.shaped in let k = g.high in omega arith;
    longer = spell_longer;
    fine = fine;
  }

  pub opens_one : (k : ℕ) (t : Tree) (rest : List Word) → Fits (suc k) below t → 1 ≤ opens (spell t rest)
  opens_one k t rest f = let h = opens_spell t rest f.shaped in let g = f.high in omega arith

  argument_only : (a : Argument) (rest : List Word) → ArgumentFits below a → Loose rest → argument inner room (spell_argument a rest) ≡ Some (a, rest)
  argument_only (plain t) rest g m =
      let simple : Tree → Reader Argument = λ u us. Some (plain u, us) in
      let other_way = inner E1 (spell t rest) >>= simple in
      ap (choose other_way (λ x us. inner E1 us >>= λ u vs. Some (named x u, vs))) (no_keyword t rest g.shaped g.high (omega arith)) ∙ ap (λ r. r >>= simple) (ih E1 t rest g m)
  argument_only (named x t) rest g m =
      let last : Tree → Reader Argument = λ u vs. Some (named x u, vs) in
      let key : first_keyword (name x ∷ fixed is.assign ∷ spell t rest) ≡ Some (x, spell t rest) = let h = g.0 in rw h refl in
      rw key (ap (λ r. r >>= last) (ih E1 t rest g.1 m))

  argument_begins : (a : Argument) (rest : List Word) → ArgumentFits below a → 1 ≤ opens (spell_argument a rest)
  argument_begins (plain t) rest g = opens_one 0 t rest g
  argument_begins (named x t) rest g = omega arith

  argument_longer : (a : Argument) (rest : List Word) → length rest ≤ length (spell_argument a rest)
  argument_longer (plain t) rest = spell_longer t rest
  argument_longer (named x t) rest = let h = spell_longer t rest in omega arith

  pub argument_laws : ItemLaws (argument inner room) (by is.round_close) spell_argument (ArgumentFits below) Loose
  argument_laws = record {
    only = argument_only;
    may_comma = λ rest. omega arith;
    may_close = λ rest e. omega arith;
    begins = argument_begins;
    longer = argument_longer;
    fine = (refl, refl);
  }

  pair_only : (p : Tree × Tree) (rest : List Word) → PairFits below p → Loose rest → key_item inner room (spell_pair p rest) ≡ Some (p, rest)
  pair_only p rest g m =
      let k = p.0 in
      let i = p.1 in
      let last : Tree → Tree → Reader (Tree × Tree) = λ k' i' ws. Some ((k', i'), ws) in
      let step : Tree → Reader (Tree × Tree) = λ k' us. on is.colon None (λ vs. inner E1 vs >>= last k') us in
      let first = ih E1 k (fixed is.colon ∷ spell i rest) g.0 (omega arith) in
      let second = ih E1 i rest g.1 m in
      ap (λ r. r >>= step) first ∙ ap (λ r. r >>= last k) second

  pair_laws : ItemLaws (key_item inner room) (by is.brace_close) spell_pair (PairFits below) Loose
  pair_laws = record {
    only = pair_only;
    may_comma = λ rest. omega arith;
    may_close = λ rest e. omega arith;
    begins = λ p rest g. opens_one 0 p.0 (fixed is.colon ∷ spell p.1 rest) g.0;
    longer = λ p rest. let h = spell_longer p.0 (fixed is.colon ∷ spell p.1 rest) in let k = spell_longer p.1 rest in omega arith;
    fine = (refl, refl);
  }

  -- ---- what stands after `for`

  test_laws : EachLaws first_if (inner E2) if_then (Fits 2 below) (λ ts. binds ts < 2)
  test_laws = record {
    only = λ t rest g m. ih E2 t rest g m;
    starts = λ u rest. refl;
    may_start = λ u rest. omega arith;
    longer = λ u rest. omega arith;
  }

  tests_spelled : (tests : Trees) (rest : List Word) → spell_tests tests rest ≡ spell_each if_then (list_tests tests) rest
  tests_spelled tests rest = ap (λ ts. spell_tests ts rest) (sym (tests_of_list tests)) ∙ tests_of_each (list_tests tests) rest

  tests_bind : (tests : Trees) (rest : List Word) → binds rest < 1 → binds (spell_tests tests rest) < 2
  tests_bind none rest b = omega arith
  tests_bind (more t ts) rest b = omega arith

  tests_only : (tests : Trees) (rest : List Word) → AllShaped 2 tests → list_depth tests ≤ below → binds rest < 1 →
      each first_if (inner E2) (length (spell_tests tests rest) + 1) [] (spell_tests tests rest) ≡ Some (list_tests tests, rest)
  tests_only tests rest l d b =
      let ls = list_tests tests in
      ap (λ vs. each first_if (inner E2) (length vs + 1) [] vs) (tests_spelled tests rest) ∙
      each_only first_if (inner E2) if_then (Fits 2 below) (λ ts. binds ts < 2) test_laws ls rest (length (spell_each if_then ls rest) + 1) [] (tests_fit below tests l d) (omega arith) (no_if rest b) (omega arith)

  clause_only : (xs : List Name) (from : Tree) (tests : Trees) (rest : List Word) → AreFreeTargets xs → Fits 2 below from → AllShaped 2 tests → list_depth tests ≤ below → binds rest < 1 →
      clause inner room (spell_names xs is.in_ (spell from (spell_tests tests rest))) ≡ Some ((xs, from, tests), rest)
  unfolding clause
  clause_only xs from tests rest h f l d b =
      let end : List Name → Tree → List (Unit {0} × Tree) → Reader (List Name × Tree × Trees) = λ ys t ls ws. Some ((ys, t, tests_of ls), ws) in
      let middle : List Name → Tree → Reader (List Name × Tree × Trees) = λ ys t vs. each first_if (inner E2) (length vs + 1) [] vs >>= end ys t in
      let begin : List Name → Reader (List Name × Tree × Trees) = λ ys us. inner E2 us >>= middle ys in
      let vs = spell_tests tests rest in
      ap (λ r. r >>= begin) (targets_only is.in_ xs (spell from vs) (refl, refl) h) ∙
      (ap (λ r. r >>= middle xs) (ih E2 from vs f (tests_bind tests rest b)) ∙
      (ap (λ r. r >>= end xs from) (tests_only tests rest l d b) ∙ ap (λ ts. Some ((xs, from, ts), rest)) (tests_of_list tests)))

  -- ---- round brackets

  pub round_loose : (rest : List Word) → Ends (by is.round_close) rest → binds (closes (by is.round_close) rest) < 1
  round_loose rest e = omega arith

  square_loose : (rest : List Word) → Ends (by is.square_close) rest → binds (closes (by is.square_close) rest) < 1
  square_loose rest e = omega arith

  more_loose : {I : Type 0} (sp : I → List Word → List Word) (xs : List I) (b : Bool) (f : Fixed) (rest : List Word) → binding f < 1 → binds (spell_more sp xs b (by f) rest) < 1
  more_loose sp [] true f rest h = omega arith
  more_loose sp [] false f rest h = omega arith
  more_loose sp (i ∷ xs) b f rest h = omega arith

  paren_only : (t : Tree) (rest : List Word) → Fits 1 below t → round inner room (spell t (fixed is.round_close ∷ rest)) ≡ Some (paren t, rest)
  unfolding round
  paren_only t rest f =
      let made : List Tree × Bool → Reader Tree = λ a ws. Some (tuple (trees_of a.0) a.1, ws) in
      let alone_one : Tree → Reader Tree = λ u us. on is.round_close None (λ vs. Some (paren u, vs)) us in
      let several : Tree → Reader Tree = λ u vs. items (inner E1) (by is.round_close) (length vs + 1) (u ∷ []) vs >>= made in
      let step : Tree → Reader Tree = λ u us. on is.comma (alone_one u us) (several u) us in
      let ts = spell t (fixed is.round_close ∷ rest) in
      on_shut is.round_close (inner E1 ts >>= step) (λ us. Some (tuple none false, us)) ts refl (opens_one 0 t (fixed is.round_close ∷ rest) f) ∙
      ap (λ r. r >>= step) (ih E1 t (fixed is.round_close ∷ rest) f (omega arith))

  abbrev tuple_made : List Tree × Bool → Reader Tree
  tuple_made a ws = Some (tuple (trees_of a.0) a.1, ws)

  abbrev round_step : Tree → Reader Tree
  round_step u us = on is.comma (on is.round_close None (λ vs. Some (paren u, vs)) us)
      (λ vs. items (inner E1) (by is.round_close) (length vs + 1) (u ∷ []) vs >>= tuple_made) us

  tuple_items : (t : Tree) (ys : List Tree) (b : Bool) (rest : List Word) → AllGood (Fits 1 below) ys → is_many (t ∷ ys) b ≡ true →
      round_step t (spell_more spell ys b (by is.round_close) rest) ≡ Some (tuple (trees_of (t ∷ ys)) b, rest)
  tuple_items t [] true rest h k =
      ap (λ r. r >>= tuple_made) (items_closed (inner E1) (by is.round_close) spell (Fits 1 below) Loose (tree_laws (by is.round_close) round_loose (refl, refl)) (length (closes (by is.round_close) rest) + 1) (t ∷ []) rest (omega arith) tt)
  tuple_items t [] false rest h k = absurd (cc)
  tuple_items t (u ∷ us) b rest h k =
      let vs = spell_all spell (u ∷ us) b (by is.round_close) rest in
      ap (λ r. r >>= tuple_made) (items_next (inner E1) (by is.round_close) spell (Fits 1 below) Loose (tree_laws (by is.round_close) round_loose (refl, refl)) u us (t ∷ []) b rest (length vs + 1) h tt (omega arith))

  tuple_only : (t : Tree) (xs : List Tree) (b : Bool) (rest : List Word) → AllGood (Fits 1 below) (t ∷ xs) → is_many (t ∷ xs) b ≡ true →
      round inner room (spell_all spell (t ∷ xs) b (by is.round_close) rest) ≡ Some (tuple (trees_of (t ∷ xs)) b, rest)
  unfolding round
  tuple_only t xs b rest g m =
      let ts = spell_all spell (t ∷ xs) b (by is.round_close) rest in
      let after = spell_more spell xs b (by is.round_close) rest in
      on_shut is.round_close (inner E1 ts >>= round_step) (λ us. Some (tuple none false, us)) ts refl (opens_one 0 t after g.0) ∙
      (ap (λ r. r >>= round_step) (ih E1 t after g.0 (more_loose spell xs b is.round_close rest (omega arith))) ∙ tuple_items t xs b rest g.1 m)

  -- ---- square brackets

  no_for : {I A : Type 0} (sp : I → List Word → List Word) (other_way : Read A) (take : Reader A) (xs : List I) (b : Bool) (f : Fixed) (rest : List Word) → same is.for_ f ≡ false →
      on is.for_ other_way take (spell_more sp xs b (by f) rest) ≡ other_way
  no_for sp other_way take [] true f rest h = refl
  no_for sp other_way take [] false f rest h = rw h refl
  no_for sp other_way take (i ∷ xs) b f rest h = refl

  abbrev pub list_made : List Tree × Bool → Reader Tree
  list_made a vs = Some (list (trees_of a.0) a.1, vs)

  abbrev list_closing : Tree → List Name × Tree × Trees → Reader Tree
  list_closing t c ws = on is.square_close None (λ xs. Some (list_of t c.0 c.1 c.2, xs)) ws

  abbrev square_step : Tree → Reader Tree
  square_step t us = on is.for_ (items_on (inner E1) (by is.square_close) t us >>= list_made) (λ vs. clause inner room vs >>= list_closing t) us

  list_only : (xs : List Tree) (b : Bool) (rest : List Word) → AllGood (Fits 1 below) xs → (b ≡ true → is_some xs ≡ true) →
      square inner room (spell_all spell xs b (by is.square_close) rest) ≡ Some (list (trees_of xs) b, rest)
  unfolding square
  list_only [] true rest g h = absurd (cc (h refl))
  list_only [] false rest g h = refl
  list_only (t ∷ xs) b rest g h =
      let c = by is.square_close in
      let ts = spell_all spell (t ∷ xs) b c rest in
      let after = spell_more spell xs b c rest in
      on_shut is.square_close (inner E1 ts >>= square_step) (λ us. Some (list none false, us)) ts refl (opens_one 0 t after g.0) ∙
      (ap (λ r. r >>= square_step) (ih E1 t after g.0 (more_loose spell xs b is.square_close rest (omega arith))) ∙
      (no_for spell (items_on (inner E1) c t after >>= list_made) (λ vs. clause inner room vs >>= list_closing t) xs b is.square_close rest refl ∙
      ap (λ r. r >>= list_made) (on_only (inner E1) c spell (Fits 1 below) Loose (tree_laws c square_loose (refl, refl)) t xs b rest g.1 tt)))

  list_of_only : (t : Tree) (xs : List Name) (from : Tree) (tests : Trees) (rest : List Word) → Fits 1 below t → AreFreeTargets xs → Fits 2 below from → AllShaped 2 tests → list_depth tests ≤ below →
      square inner room (spell t (fixed is.for_ ∷ spell_names xs is.in_ (spell from (spell_tests tests (fixed is.square_close ∷ rest))))) ≡ Some (list_of t xs from tests, rest)
  unfolding square
  list_of_only t xs from tests rest f h g l d =
      let inside = spell_names xs is.in_ (spell from (spell_tests tests (fixed is.square_close ∷ rest))) in
      let ts = spell t (fixed is.for_ ∷ inside) in
      on_shut is.square_close (inner E1 ts >>= square_step) (λ us. Some (list none false, us)) ts refl (opens_one 0 t (fixed is.for_ ∷ inside) f) ∙
      (ap (λ r. r >>= square_step) (ih E1 t (fixed is.for_ ∷ inside) f (omega arith)) ∙
      ap (λ r. r >>= list_closing t) (clause_only xs from tests (fixed is.square_close ∷ rest) h g l d (omega arith)))

  -- ---- braces

  abbrev dict_made : List (Tree × Tree) × Bool → Reader Tree
  dict_made a vs = Some (dict (pairs_of a.0) a.1, vs)

  abbrev dict_closing : Tree × Tree → List Name × Tree × Trees → Reader Tree
  dict_closing p c ws = on is.brace_close None (λ xs. Some (dict_of p.0 p.1 c.0 c.1 c.2, xs)) ws

  abbrev brace_step : Tree × Tree → Reader Tree
  brace_step p us = on is.for_ (items_on (key_item inner room) (by is.brace_close) p us >>= dict_made) (λ vs. clause inner room vs >>= dict_closing p) us

  dict_only : (ps : List (Tree × Tree)) (b : Bool) (rest : List Word) → AllGood (PairFits below) ps → (b ≡ true → is_some ps ≡ true) →
      brace inner room (spell_all spell_pair ps b (by is.brace_close) rest) ≡ Some (dict (pairs_of ps) b, rest)
  unfolding brace
  dict_only [] true rest g h = absurd (cc (h refl))
  dict_only [] false rest g h = refl
  dict_only (p ∷ ps) b rest g h =
      let c = by is.brace_close in
      let ts = spell_all spell_pair (p ∷ ps) b c rest in
      let after = spell_more spell_pair ps b c rest in
      on_shut is.brace_close (key_item inner room ts >>= brace_step) (λ us. Some (dict no_pair false, us)) ts refl (opens_one 0 p.0 (fixed is.colon ∷ spell p.1 after) g.0.0) ∙
      (ap (λ r. r >>= brace_step) (pair_only p after g.0 (more_loose spell_pair ps b is.brace_close rest (omega arith))) ∙
      (no_for spell_pair (items_on (key_item inner room) c p after >>= dict_made) (λ vs. clause inner room vs >>= dict_closing p) ps b is.brace_close rest refl ∙
      ap (λ r. r >>= dict_made) (on_only (key_item inner room) c spell_pair (PairFits below) Loose pair_laws p ps b rest g.1 tt)))

  dict_of_only : (p : Tree × Tree) (xs : List Name) (from : Tree) (tests : Trees) (rest : List Word) → PairFits below p → AreFreeTargets xs → Fits 2 below from → AllShaped 2 tests → list_depth tests ≤ below →
      brace inner room (spell_pair p (fixed is.for_ ∷ spell_names xs is.in_ (spell from (spell_tests tests (fixed is.brace_close ∷ rest))))) ≡ Some (dict_of p.0 p.1 xs from tests, rest)
  unfolding brace
  dict_of_only p xs from tests rest f h g l d =
      let inside = spell_names xs is.in_ (spell from (spell_tests tests (fixed is.brace_close ∷ rest))) in
      let ts = spell_pair p (fixed is.for_ ∷ inside) in
      on_shut is.brace_close (key_item inner room ts >>= brace_step) (λ us. Some (dict no_pair false, us)) ts refl (opens_one 0 p.0 (fixed is.colon ∷ spell p.1 (fixed is.for_ ∷ inside)) f.0) ∙
      (ap (λ r. r >>= brace_step) (pair_only p (fixed is.for_ ∷ inside) f (omega arith)) ∙
      ap (λ r. r >>= dict_closing p) (clause_only xs from tests (fixed is.brace_close ∷ rest) h g l d (omega arith)))

  -- ---- f-texts

  part_only : (t : Tree) → Fits 1 below t → alone (inner E1 (words (tokens t))) ≡ Some t
  part_only t f =
      let same_words : words (tokens t) ≡ spell t [] = sym (spell_is t f.shaped [] ∙ before_nil (tokens t)) in
      ap (λ ws. alone (inner E1 ws)) same_words ∙ ap alone (ih E1 t [] f (omega arith))

  parts_only : (ps : Pieces) → PiecesShaped ps → piece_depth ps ≤ below → parts inner room (token_pieces ps) ≡ Some ps
  unfolding parts
  parts_only no_piece l d = refl
  parts_only (characters cs ps) l d = ap (option_map (characters cs)) (parts_only ps l d)
  parts_only (field t convert spec ps) l d =
      let f : Fits 1 below t = record { shaped = l.1; high = l.0; shallow = omega arith } in
      ap (λ x. with_field convert spec (alone (inner E1 (words x))) (parts inner room (token_pieces ps))) (list_of_tokens (tokens t)) ∙
      (ap (λ o. with_field convert spec o (parts inner room (token_pieces ps))) (part_only t f) ∙ ap (with_field convert spec (Some t)) (parts_only ps l.2 (omega arith)))

  -- ---- atoms

  round_empty : (rest : List Word) → round inner room (fixed is.round_close ∷ rest) ≡ Some (tuple none false, rest)
  unfolding round
  round_empty rest = refl

  pub atom_only : (t : Tree) (rest : List Word) → Fits 11 room t → atom inner room (spell t rest) ≡ Some (t, rest)
  unfolding atom
  atom_only (form.literal t) rest f = let h = f.shaped in rw h refl
  atom_only (form.name x) rest f = let h = f.shaped in rw h refl
  atom_only (form.f_text cs ps) rest f = let s = f.shallow in ap (with_parts inner room cs rest) (parts_only ps f.shaped.1 (omega arith))
  atom_only (paren t) rest f = let s = f.shallow in paren_only t rest (record { shaped = f.shaped.1; high = f.shaped.0; shallow = omega arith })
  atom_only (tuple none true) rest f = absurd (cc (f.shaped.1))
  atom_only (tuple none false) rest f = round_empty rest
  atom_only (tuple (more t ts) b) rest f =
      let s = f.shallow in
      let xs = list_trees ts in
      let same : trees_of xs ≡ ts = trees_of_list ts in
      let c = by is.round_close in
      let spelled : spell_list (more t ts) b c rest ≡ spell_all spell (t ∷ xs) b c rest = ap (λ us. spell_list (more t us) b c rest) (sym same) ∙ list_of_items (t ∷ xs) b c rest in
      ap (round inner room) spelled ∙ (tuple_only t xs b rest (all_fit 1 below (more t ts) f.shaped.0 (omega arith)) (many t ts b f.shaped.1) ∙ ap (λ us. Some (tuple (more t us) b, rest)) same)
    where
      many : (u : Tree) (us : Trees) (k : Bool) → IsTuple (more u us) k → is_many (u ∷ list_trees us) k ≡ true
      many u none k h = h
      many u (more v us) k h = refl
  atom_only (list ts b) rest f =
      let s = f.shallow in
      let xs = list_trees ts in
      let same : trees_of xs ≡ ts = trees_of_list ts in
      let c = by is.square_close in
      let spelled : spell_list ts b c rest ≡ spell_all spell xs b c rest = ap (λ us. spell_list us b c rest) (sym same) ∙ list_of_items xs b c rest in
      ap (square inner room) spelled ∙ (list_only xs b rest (all_fit 1 below ts f.shaped.0 (omega arith)) (some_tree ts b f.shaped.1) ∙ ap (λ us. Some (list us b, rest)) same)
    where
      some_tree : (us : Trees) (k : Bool) → CommaBehind us k → k ≡ true → is_some (list_trees us) ≡ true
      some_tree none true h e = absurd (cc)
      some_tree none false h e = absurd (cc)
      some_tree (more u us) k h e = refl
  atom_only (dict ps b) rest f =
      let s = f.shallow in
      let xs = list_pairs ps in
      let same : pairs_of xs ≡ ps = pairs_of_list ps in
      let spelled : spell_pairs ps b rest ≡ spell_all spell_pair xs b (by is.brace_close) rest = ap (λ us. spell_pairs us b rest) (sym same) ∙ pairs_of_items xs b rest in
      ap (brace inner room) spelled ∙ (dict_only xs b rest (pairs_fit below ps f.shaped.0 (omega arith)) (some_pair ps b f.shaped.1) ∙ ap (λ us. Some (dict us b, rest)) same)
    where
      some_pair : (us : Pairs) (k : Bool) → CommaBehindPairs us k → k ≡ true → is_some (list_pairs us) ≡ true
      some_pair no_pair true h e = absurd (cc)
      some_pair no_pair false h e = absurd (cc)
      some_pair (pair u v us) k h e = refl
  atom_only (list_of t xs from tests) rest f =
      let s = f.shallow in
      let l = f.shaped in
      list_of_only t xs from tests rest (record { shaped = l.1; high = l.0; shallow = omega arith }) l.2 (record { shaped = l.4; high = l.3; shallow = omega arith }) l.5 (omega arith)
  atom_only (dict_of k t xs from tests) rest f =
      let s = f.shallow in
      let l = f.shaped in
      dict_of_only (k, t) xs from tests rest (record { shaped = l.1; high = l.0; shallow = omega arith }, record { shaped = l.3; high = l.2; shallow = omega arith }) l.4
      (record { shaped = l.6; high = l.5; shallow = omega arith }) l.7 (omega arith)
  atom_only (binary op a b) rest f = absurd (operator_low op f.high)
    where
      operator_low : (o : Operator) → 11 ≤ operator_level o → ⊥
      operator_low form.Or h = omega arith
      operator_low form.And h = omega arith
      operator_low form.Add h = omega arith
      operator_low form.Subtract h = omega arith
      operator_low form.Multiply h = omega arith
      operator_low form.Floor h = omega arith
      operator_low form.Remainder h = omega arith
  atom_only (prefixed op t) rest f = absurd (prefix_low op f.high)
    where
      prefix_low : (o : Prefix) → 11 ≤ prefix_level o → ⊥
      prefix_low form.Not h = omega arith
      prefix_low form.Minus h = omega arith
      prefix_low form.Plus h = omega arith
  atom_only t rest f = let h = f.high in absurd (omega arith)
