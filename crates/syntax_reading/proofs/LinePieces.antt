-- The pieces of a line: what reading gives is spelled so, and what is spelled so is read.
use Rattle.std.proofs.Common.{◌≡◌, ℕ, suc, ◌+◌, ◌<◌, ◌≤◌, inl, inr, Bool, true, false, List, [], ◌∷◌, length, Option, Some, None, refl, sym, ap, ◌∙◌, subst, nat_lt, arith}
use Rattle.std.specs.Str.{bytes_eq}
use Rattle.std.proofs.lemmas.Slice.Eq.{bytes_eq-Decides}
use Rattle.py_tree.specs.declared.token.TokenKind.{TokenKind}
use Rattle.py_tree.specs.declared.token.TokenKind.TheVariants as literal_kind
use Rattle.std.specs.Prelude.{if◌then◌else◌}
use Rattle.py_tree.specs.Expressions as form
use Rattle.syntax_reading.specs.Words as is
use Rattle.py_tree.specs.Names.{Name}
use Rattle.syntax_reading.specs.Words.{is_free, Fixed, Word, name, literal, fixed, same}
use Rattle.py_tree.specs.Expressions.{Operator, Prefix, binary, prefixed, Tree, bare, trees_of, Trees, none, more, Arguments}
use Rattle.py_tree.specs.Trees.{Augment, AddTo, SubtractFrom, MultiplyBy, FloorBy, RemainderBy}
use Rattle.syntax_form.specs.Levels.{operator_level, prefix_level, level}
use Rattle.syntax_form.specs.Depth.{depth, argument_depth}
use Rattle.syntax_reading.proofs.Shaped.{IsFree, AreFree, AreFreeTargets, ArgumentsShaped}
use Rattle.syntax_form.specs.Shapes.{IsBare, CommaBehindArguments, NamedLast, CommaBehindNames}
use Rattle.syntax_form.specs.LineGrouping.{IsTextKind}
use Rattle.syntax_reading.proofs.Shaped.{MayBeLiteral}
use Rattle.syntax_reading.proofs.ShapedLines.{TextShaped}
use Rattle.syntax_reading.proofs.Binding.{binding, binds}
use Rattle.syntax_reading.specs.Readers.{Read, Reader, ◌>>=◌, on, guarded, Closing, by, at_end, on_closing, is_some}
use Rattle.syntax_reading.specs.Items.{items}
use Rattle.syntax_reading.specs.Tables.{E1}
use Rattle.syntax_reading.specs.Parts.{first_name, targets, Argument, arguments_of, named_last}
use Rattle.syntax_reading.specs.Reading.{argument, read}
use Rattle.syntax_reading.proofs.Spelling.{closes, spell_more, spell_all, spell_name, spell_names, spell, spell_list, spell_arguments}
use Rattle.syntax_reading.proofs.Choices.{bind_ok, guarded_ok, lt_of, on_ok, on_only_ok, on_table_ok, on_closing_ok, Ends}
use Rattle.syntax_reading.proofs.ItemsFound.{AllGood, is_many, ClosesApart, items_all, items_later_all, items_many}
use Rattle.syntax_reading.proofs.Lists.{Fits, list_trees, trees_of_list, all_fit, list_of_items, all_shaped, spell_argument, ArgumentFits, arguments_of_items, arguments_shaped, argument_comma, named_are_last, list_arguments, arguments_of_list, arguments_fit, last_named, some_argument, are_names, names_good}
use Rattle.syntax_reading.proofs.FoundParts.{name_found, targets_found, tree_item, argument_item}
use Rattle.syntax_reading.proofs.FoundLevels.{read_found}
use Rattle.syntax_reading.proofs.Following.{guarded_by, CloseFine, on_closing_at, no_comma, same_refl}
use Rattle.syntax_reading.proofs.ItemsOnly.{items_closed, items_next, all_only}
use Rattle.syntax_reading.proofs.OnlyAtoms.{AnyRest, Loose, name_laws, targets_only, tree_laws, argument_laws}
use Rattle.syntax_reading.proofs.OnlyLevels.{read_only}
use Rattle.syntax_reading.specs.LinePieces.{Piece, word, exact, any_name, tree, values_to, names_to, parameters, arguments, text, augment_mark, Slot, nothing, a_name, a_tree, some_names, some_arguments, a_text, an_augment, augment_of, first_exact, is_text_kind, first_text, closed_values, piece, with_slot, on_slot, pieces}

-- ---- how pieces are spelled

abbrev pub augment_word : Augment → Fixed
augment_word AddTo = is.add_to
augment_word SubtractFrom = is.subtract_from
augment_word MultiplyBy = is.multiply_by
augment_word FloorBy = is.floor_by
augment_word RemainderBy = is.remainder_by

abbrev pub spell_values : Closing → Tree → List Word → List Word
spell_values c (bare ts b) rest = spell_list ts b c rest
spell_values c t rest = spell t (closes c rest)

abbrev pub spell_piece : Piece → Slot → List Word → List Word
spell_piece (word f) s rest = fixed f ∷ rest
spell_piece (exact x) s rest = name x ∷ rest
spell_piece any_name (a_name x) rest = name x ∷ rest
spell_piece tree (a_tree t) rest = spell t rest
spell_piece (values_to c) (a_tree t) rest = spell_values c t rest
spell_piece (names_to f) (some_names xs b) rest = spell_names xs f rest
spell_piece parameters (some_names xs b) rest = spell_all spell_name xs b (by is.round_close) rest
spell_piece arguments (some_arguments args b) rest = spell_arguments args b rest
spell_piece text (a_text t) rest = literal t ∷ rest
spell_piece augment_mark (an_augment op) rest = fixed (augment_word op) ∷ rest
spell_piece p s rest = rest

abbrev pub spell_pieces : List Piece → List Slot → List Word
spell_pieces [] ss = []
spell_pieces (p ∷ ps) [] = []
spell_pieces (p ∷ ps) (s ∷ ss) = spell_piece p s (spell_pieces ps ss)

-- what closes a tuple without brackets
pub record ClosesValues (c : Closing) : Type 0 where
  pub apart : ClosesApart c
  pub fine : CloseFine c
  pub loose : (rest : List Word) → Ends c rest → binds (closes c rest) < 1

pub values_end : ClosesValues at_end
values_end = record {
  apart = λ us rest e h. let none_left : fixed is.comma ∷ us ≡ [] = h ∙ e in absurd (cc (none_left));
  fine = tt;
  loose = λ rest e. rw e (omega arith);
}

pub values_colon : ClosesValues (by is.colon)
values_colon = record { apart = λ us rest e h. cc (h); fine = (refl, refl); loose = λ rest e. omega arith }

abbrev pub FinePiece : Piece → Type 0
FinePiece (values_to c) = ClosesValues c
FinePiece (names_to f) = CloseFine (by f)
FinePiece p = Unit {0}

abbrev is_bare_tree : Tree → Bool
is_bare_tree (bare ts b) = true
is_bare_tree t = false

one_operator : (op : Operator) → 1 ≤ operator_level op
one_operator form.Or = omega arith
one_operator form.And = omega arith
one_operator form.Add = omega arith
one_operator form.Subtract = omega arith
one_operator form.Multiply = omega arith
one_operator form.Floor = omega arith
one_operator form.Remainder = omega arith

one_prefix : (op : Prefix) → 1 ≤ prefix_level op
one_prefix form.Not = omega arith
one_prefix form.Minus = omega arith
one_prefix form.Plus = omega arith

one_level : (t : Tree) → is_bare_tree t ≡ false → 1 ≤ level t
one_level (bare ts b) h = absurd (cc)
one_level (binary op t u) h = one_operator op
one_level (prefixed op t) h = one_prefix op
one_level t h = omega arith

module _ (below : ℕ) where
  abbrev room : ℕ
  room = suc below

  abbrev pub Good : Piece → Slot → Type 0
  Good (word f) nothing = Unit {0}
  Good (exact x) nothing = Unit {0}
  Good any_name (a_name x) = IsFree x
  Good tree (a_tree t) = Fits 1 room t
  Good (values_to c) (a_tree t) = Fits 0 room t
  Good (names_to f) (some_names xs false) = AreFreeTargets xs
  Good parameters (some_names xs b) = AreFree xs × CommaBehindNames xs b
  Good arguments (some_arguments args b) = ArgumentsShaped args × NamedLast args × CommaBehindArguments args b × (argument_depth args ≤ room)
  Good text (a_text t) = TextShaped t
  Good augment_mark (an_augment op) = Unit {0}
  Good p s = ⊥

  abbrev pub GoodPieces : List Piece → List Slot → Type 0
  GoodPieces [] [] = Unit {0}
  GoodPieces (p ∷ ps) (s ∷ ss) = Good p s × GoodPieces ps ss
  GoodPieces ps ss = ⊥

  -- what stands behind a piece that was read
  abbrev pub EndsPiece : Piece → List Word → Type 0
  EndsPiece (values_to c) rest = Ends c rest
  EndsPiece p rest = Unit {0}

  -- what may stand behind a piece
  abbrev pub May : Piece → List Word → Type 0
  May tree rest = binds rest < 1
  May (values_to c) rest = Ends c rest
  May p rest = Unit {0}

  -- ---- tuples without brackets

  spell_one : (c : Closing) (t : Tree) (rest : List Word) → 1 ≤ level t → spell t (closes c rest) ≡ spell_values c t rest
  spell_one c (bare ts b) rest h = absurd (omega arith)
  spell_one c t rest h = refl

  is_bare : (ts : List Tree) (b : Bool) → is_many ts b ≡ true → IsBare (trees_of ts) b
  is_bare [] b h = absurd (cc)
  is_bare (t ∷ []) b h = h
  is_bare (t ∷ u ∷ ts) b h = tt

  record ValuesRead (c : Closing) (ts : List Word) (t : Tree) (rest : List Word) : Type 0 where
    spelled : ts ≡ spell_values c t rest
    fits : Fits 0 room t
    ends : Ends c rest

  values_found : (c : Closing) (ts : List Word) (y : Tree × List Word) → ClosesValues c → closed_values below c ts ≡ Some y → ValuesRead c ts y.0 y.1
  unfolding closed_values
  values_found c ts y close e =
      let made : List Tree × Bool → Reader Tree = λ a ws. Some (bare (trees_of a.0) a.1, ws) in
      let further : Tree → Reader Tree = λ t vs. items (read below E1) c (length vs + 1) (t ∷ []) vs >>= made in
      let one : Tree → Reader Tree = λ t us. on_closing c None (λ vs. Some (t, vs)) us in
      let several : Tree → Reader Tree = λ t vs. guarded (nat_lt (depth t) room) (further t vs) in
      let step : Tree → Reader Tree = λ t us. on is.comma (one t us) (several t) us in
      let b = bind_ok (read room E1 ts) step y e in
      let t = b.0.0 in
      let f = read_found room E1 ts b.0 b.1 in
      elim (on_ok is.comma (one t b.0.1) (several t) b.0.1 y b.2) [
        | inl k ↦ (
            let g = guarded_ok (nat_lt (depth t) room) (further t k.0) y k.2 in
            let deep : depth t < room = lt_of (depth t) room g.0 in
            let q = bind_ok (items (read below E1) c (length k.0 + 1) (t ∷ []) k.0) made y g.1 in
            let fit : Fits 1 below t = record { shaped = f.fits.shaped; high = f.fits.high; shallow = omega arith } in
            let a = items_later_all (read below E1) c spell (Fits 1 below) (tree_item (read below) below (read_found below)) (length k.0 + 1) t ts k.0 q.0 (f.spelled ∙ ap (spell t) k.1) fit q.1 in
            let many = items_many (read below E1) c spell (Fits 1 below) (tree_item (read below) below (read_found below)) (length k.0 + 1) t k.0 q.0 close.apart q.1 in
            let xs = q.0.0.0 in
            let l = all_shaped 1 below xs a.good in
            let d = l.1 in
            let pair_is : ◌≡◌ {A = Tree × List Word} (bare (trees_of xs) q.0.0.1, q.0.1) y = cc (q.2) in
            subst (λ p. ValuesRead c ts p.0 p.1) pair_is (record {
              spelled = a.spelled ∙ sym (list_of_items xs q.0.0.1 c q.0.1);
              fits = record { shaped = (l.0, is_bare xs q.0.0.1 many); high = omega arith; shallow = omega arith };
              ends = a.ends;
            }))
        | inr o ↦ elim (on_closing_ok c None (λ vs. Some (t, vs)) b.0.1 y o) [
          | inl k ↦ (
              let pair_is : ◌≡◌ {A = Tree × List Word} (t, k.0) y = cc (k.2) in
              subst (λ p. ValuesRead c ts p.0 p.1) pair_is (record {
                spelled = f.spelled ∙ (ap (spell t) k.1 ∙ spell_one c t k.0 f.fits.high);
                fits = record { shaped = f.fits.shaped; high = omega arith; shallow = f.fits.shallow };
                ends = k.3;
              }))
          | inr n ↦ absurd (cc)
        ]
      ]

  abbrev values_made : List Tree × Bool → Reader Tree
  values_made a ws = Some (bare (trees_of a.0) a.1, ws)

  abbrev values_further : Closing → Tree → Reader Tree
  values_further c t vs = guarded (nat_lt (depth t) room) (items (read below E1) c (length vs + 1) (t ∷ []) vs >>= values_made)

  abbrev values_step : Closing → Tree → Reader Tree
  values_step c t us = on is.comma (on_closing c None (λ vs. Some (t, vs)) us) (values_further c t) us

  values_items : (c : Closing) (t : Tree) (ys : List Tree) (b : Bool) (rest : List Word) → ClosesValues c → AllGood (Fits 1 below) (t ∷ ys) → is_many (t ∷ ys) b ≡ true → Ends c rest →
      values_step c t (spell_more spell ys b c rest) ≡ Some (bare (trees_of (t ∷ ys)) b, rest)
  values_items c t [] true rest close g m e =
      let s = g.0.shallow in
      let vs = closes c rest in
      guarded_by (depth t) room (items (read below E1) c (length vs + 1) (t ∷ []) vs >>= values_made) (omega arith) ∙
      ap (λ r. r >>= values_made) (items_closed (read below E1) c spell (Fits 1 below) Loose (tree_laws (read below) below (read_only below) c close.loose close.fine) (length vs + 1) (t ∷ []) rest (omega arith) e)
  values_items c t [] false rest close g m e = absurd (cc)
  values_items c t (u ∷ us) b rest close g m e =
      let s = g.0.shallow in
      let vs = spell_all spell (u ∷ us) b c rest in
      guarded_by (depth t) room (items (read below E1) c (length vs + 1) (t ∷ []) vs >>= values_made) (omega arith) ∙
      ap (λ r. r >>= values_made) (items_next (read below E1) c spell (Fits 1 below) Loose (tree_laws (read below) below (read_only below) c close.loose close.fine) u us (t ∷ []) b rest (length vs + 1) g.1 e (omega arith))

  more_loose : (c : Closing) (xs : List Tree) (b : Bool) (rest : List Word) → ClosesValues c → Ends c rest → binds (spell_more spell xs b c rest) < 1
  more_loose c [] true rest close e = omega arith
  more_loose c [] false rest close e = close.loose rest e
  more_loose c (x ∷ xs) b rest close e = omega arith

  values_many : (c : Closing) (t : Tree) (xs : List Tree) (b : Bool) (rest : List Word) → ClosesValues c → AllGood (Fits 1 below) (t ∷ xs) → is_many (t ∷ xs) b ≡ true → Ends c rest →
      closed_values below c (spell_all spell (t ∷ xs) b c rest) ≡ Some (bare (trees_of (t ∷ xs)) b, rest)
  unfolding closed_values
  values_many c t xs b rest close g m e =
      let s = g.0.shallow in
      let first = read_only room E1 t (spell_more spell xs b c rest) (record { shaped = g.0.shaped; high = g.0.high; shallow = omega arith }) (more_loose c xs b rest close e) in
      ap (λ r. r >>= values_step c) first ∙ values_items c t xs b rest close g m e

  values_one : (c : Closing) (t : Tree) (rest : List Word) → ClosesValues c → Fits 1 room t → Ends c rest → closed_values below c (spell t (closes c rest)) ≡ Some (t, rest)
  unfolding closed_values
  values_one c t rest close f e =
      ap (λ r. r >>= values_step c) (read_only room E1 t (closes c rest) f (close.loose rest e)) ∙
      (no_comma c (on_closing c None (λ vs. Some (t, vs)) (closes c rest)) (values_further c t) rest close.fine e ∙ on_closing_at c None (λ vs. Some (t, vs)) rest e)

  many_trees : (ts : Trees) (b : Bool) → IsBare ts b → is_many (list_trees ts) b ≡ true
  many_trees none b h = absurd h
  many_trees (more t none) b h = h
  many_trees (more t (more u ts)) b h = refl

  values_other : (c : Closing) (t : Tree) (rest : List Word) → is_bare_tree t ≡ false → ClosesValues c → Fits 0 room t → Ends c rest → closed_values below c (spell_values c t rest) ≡ Some (t, rest)
  values_other c t rest h close f e =
      let high = one_level t h in
      ap (closed_values below c) (sym (spell_one c t rest high)) ∙ values_one c t rest close (record { shaped = f.shaped; high = high; shallow = f.shallow }) e

  values_only : (c : Closing) (t : Tree) (rest : List Word) → ClosesValues c → Fits 0 room t → Ends c rest → closed_values below c (spell_values c t rest) ≡ Some (t, rest)
  values_only c (bare none b) rest close f e = absurd (f.shaped.1)
  values_only c (bare (more t ts) b) rest close f e =
      let s = f.shallow in
      let xs = list_trees ts in
      let same_trees : trees_of xs ≡ ts = trees_of_list ts in
      let spelled : spell_list (more t ts) b c rest ≡ spell_all spell (t ∷ xs) b c rest = ap (λ us. spell_list (more t us) b c rest) (sym same_trees) ∙ list_of_items (t ∷ xs) b c rest in
      ap (closed_values below c) spelled ∙
      (values_many c t xs b rest close (all_fit 1 below (more t ts) f.shaped.0 (omega arith)) (many_trees (more t ts) b f.shaped.1) e ∙ ap (λ us. Some (bare (more t us) b, rest)) same_trees)
  values_only c t rest close f e = values_other c t rest refl close f e

  -- ---- pieces

  exact_found : (x : Name) (ts : List Word) (y : Slot × List Word) → first_exact x ts ≡ Some y → (ts ≡ name x ∷ y.1) × (y.0 ≡ nothing)
  exact_found x [] y e = absurd (cc)
  exact_found x (name z ∷ ts) y e = by_test (bytes_eq x z) refl e
    where
      by_test : (b : Bool) → bytes_eq x z ≡ b → (if b then Some (nothing, ts) else None) ≡ Some y → (◌≡◌ {A = List Word} (name z ∷ ts) (name x ∷ y.1)) × (y.0 ≡ nothing)
      by_test true h k =
          let same_name : x ≡ z = (bytes_eq-Decides x z).0 h in
          let pair_is : ◌≡◌ {A = Slot × List Word} (nothing, ts) y = cc (k) in
          (ap (λ w. name w ∷ ts) (sym same_name) ∙ ap (λ p. name x ∷ p.1) pair_is, sym (ap (λ p. p.0) pair_is))
      by_test false h k = absurd (cc)
  exact_found x (w ∷ ts) y e = absurd (cc)

  kind_is_text : (k : TokenKind) (cs : List ℕ) → is_text_kind k ≡ true → IsTextKind k × MayBeLiteral k cs
  kind_is_text literal_kind.Text cs h = (tt, refl)
  kind_is_text literal_kind.Name cs h = absurd (cc)
  kind_is_text literal_kind.Number cs h = absurd (cc)
  kind_is_text literal_kind.Mark cs h = absurd (cc)

  text_is_kind : (k : TokenKind) → IsTextKind k → is_text_kind k ≡ true
  text_is_kind literal_kind.Text h = refl
  text_is_kind literal_kind.Name h = absurd h
  text_is_kind literal_kind.Number h = absurd h
  text_is_kind literal_kind.Mark h = absurd h

  pub record PieceFound (p : Piece) (ts : List Word) (s : Slot) (rest : List Word) : Type 0 where
    pub spelled : ts ≡ spell_piece p s rest
    pub good : Good p s
    pub may : EndsPiece p rest

  text_found : (ts : List Word) (y : Slot × List Word) → first_text ts ≡ Some y → PieceFound text ts y.0 y.1
  text_found [] y e = absurd (cc)
  text_found (literal t ∷ ts) y e = by_test (is_text_kind t.kind) refl e
    where
      by_test : (b : Bool) → is_text_kind t.kind ≡ b → (if b then Some (a_text t, ts) else None) ≡ Some y → PieceFound text (literal t ∷ ts) y.0 y.1
      by_test true h k =
          let pair_is : ◌≡◌ {A = Slot × List Word} (a_text t, ts) y = cc (k) in
          subst (λ p. PieceFound text (literal t ∷ ts) p.0 p.1) pair_is (record { spelled = refl; good = kind_is_text t.kind t.spelling h; may = tt })
      by_test false h k = absurd (cc)
  text_found (w ∷ ts) y e = absurd (cc)

  augment_listed : (f : Fixed) (op : Augment) → augment_of f ≡ Some op → f ≡ augment_word op
  augment_listed is.add_to op e = let o : AddTo ≡ op = cc in ap augment_word o
  augment_listed is.subtract_from op e = let o : SubtractFrom ≡ op = cc in ap augment_word o
  augment_listed is.multiply_by op e = let o : MultiplyBy ≡ op = cc in ap augment_word o
  augment_listed is.floor_by op e = let o : FloorBy ≡ op = cc in ap augment_word o
  augment_listed is.remainder_by op e = let o : RemainderBy ≡ op = cc in ap augment_word o
  augment_listed f op e = absurd (cc)

  pub name_comma : (xs : List Name) (b : Bool) → (b ≡ true → is_some xs ≡ true) → CommaBehindNames xs b
  name_comma [] true h = absurd (cc (h refl))
  name_comma [] false h = refl
  name_comma (x ∷ xs) b h = tt

  finish : (p : Piece) (s : Slot) (ts us : List Word) (y : Slot × List Word) → ts ≡ spell_piece p s us → Good p s → EndsPiece p us → Some (s, us) ≡ Some y → PieceFound p ts y.0 y.1
  finish p s ts us y e g n k =
      let pair_is : ◌≡◌ {A = Slot × List Word} (s, us) y = cc (k) in
      subst (λ q. PieceFound p ts q.0 q.1) pair_is (record { spelled = e; good = g; may = n })

  pub piece_found : (p : Piece) (ts : List Word) (y : Slot × List Word) → FinePiece p → piece below p ts ≡ Some y → PieceFound p ts y.0 y.1
  unfolding piece
  piece_found (word f) ts y fine e =
      let t = on_only_ok f (λ us. Some (nothing, us)) ts y e in
      finish (word f) nothing ts t.0 y t.1 tt tt t.2
  piece_found (exact x) ts y fine e =
      let t = exact_found x ts y e in
      finish (exact x) nothing ts y.1 y t.0 tt tt (ap (λ s. Some (s, y.1)) (sym t.1))
  piece_found any_name ts y fine e =
      let made : Name → Reader Slot = λ x us. Some (a_name x, us) in
      let b = bind_ok (first_name ts) made y e in
      let f = name_found ts b.0 b.1 in
      finish any_name (a_name b.0.0) ts b.0.1 y f.0 f.1 tt b.2
  piece_found tree ts y fine e =
      let made : Tree → Reader Slot = λ t us. Some (a_tree t, us) in
      let b = bind_ok (read room E1 ts) made y e in
      let f = read_found room E1 ts b.0 b.1 in
      finish tree (a_tree b.0.0) ts b.0.1 y f.spelled f.fits tt b.2
  piece_found (values_to c) ts y fine e =
      let made : Tree → Reader Slot = λ t us. Some (a_tree t, us) in
      let b = bind_ok (closed_values below c ts) made y e in
      let f = values_found c ts b.0 fine b.1 in
      finish (values_to c) (a_tree b.0.0) ts b.0.1 y f.spelled f.fits f.ends b.2
  piece_found (names_to f) ts y fine e =
      let made : List Name → Reader Slot = λ xs us. Some (some_names xs false, us) in
      let b = bind_ok (targets f ts) made y e in
      let n = targets_found f ts b.0 b.1 in
      finish (names_to f) (some_names b.0.0 false) ts b.0.1 y n.0 n.1 tt b.2
  piece_found parameters ts y fine e =
      let made : List Name × Bool → Reader Slot = λ a us. Some (some_names a.0 a.1, us) in
      let b = bind_ok (items first_name (by is.round_close) (length ts + 1) [] ts) made y e in
      let a = items_all first_name (by is.round_close) spell_name IsFree name_found (length ts + 1) ts b.0 b.1 in
      finish parameters (some_names b.0.0.0 b.0.0.1) ts b.0.1 y a.spelled (are_names b.0.0.0 a.good, name_comma b.0.0.0 b.0.0.1 a.has) tt b.2
  piece_found arguments ts y fine e =
      let made : List Argument × Bool → Reader Slot = λ a us. guarded (named_last a.0) (Some (some_arguments (arguments_of a.0) a.1, us)) in
      let reader = argument (read room) room in
      let b = bind_ok (items reader (by is.round_close) (length ts + 1) [] ts) made y e in
      let args = b.0.0.0 in
      let a = items_all reader (by is.round_close) spell_argument (ArgumentFits room) (argument_item (read room) room (read_found room)) (length ts + 1) ts b.0 b.1 in
      let g = guarded_ok (named_last args) (Some (some_arguments (arguments_of args) b.0.0.1, b.0.1)) y b.2 in
      let l = arguments_shaped room args a.good in
      finish arguments (some_arguments (arguments_of args) b.0.0.1) ts b.0.1 y (a.spelled ∙ sym (arguments_of_items args b.0.0.1 b.0.1))
      (l.0, named_are_last args g.0, argument_comma args b.0.0.1 a.has, l.1) tt g.1
  piece_found text ts y fine e = text_found ts y e
  piece_found augment_mark ts y fine e = elim (on_table_ok augment_of None (λ op us. Some (an_augment op, us)) ts y e) [
    | inl h ↦ finish augment_mark (an_augment h.entry) ts h.after y (h.stood ∙ ap (λ f. fixed f ∷ h.after) (augment_listed h.word h.entry h.listed)) tt tt h.taken
    | inr o ↦ absurd (cc)
  ]

  -- ---- and back

  augment_there : (op : Augment) → augment_of (augment_word op) ≡ Some op
  augment_there AddTo = refl
  augment_there SubtractFrom = refl
  augment_there MultiplyBy = refl
  augment_there FloorBy = refl
  augment_there RemainderBy = refl

  some_name : (xs : List Name) (b : Bool) → CommaBehindNames xs b → b ≡ true → is_some xs ≡ true
  some_name [] true h e = absurd (cc)
  some_name [] false h e = absurd (cc)
  some_name (x ∷ xs) b h e = refl

  bytes_refl : (x : List ℕ) → bytes_eq x x ≡ true
  bytes_refl x = (bytes_eq-Decides x x).1 refl

  pub piece_only : (p : Piece) (s : Slot) (rest : List Word) → FinePiece p → Good p s → May p rest → piece below p (spell_piece p s rest) ≡ Some (s, rest)
  unfolding piece
  piece_only (word f) nothing rest fine g m = let e = same_refl f in rw e refl
  piece_only (exact x) nothing rest fine g m = let e = bytes_refl x in rw e refl
  piece_only any_name (a_name x) rest fine g m = rw g refl
  piece_only tree (a_tree t) rest fine g m = ap (λ r. r >>= λ u us. Some (a_tree u, us)) (read_only room E1 t rest g m)
  piece_only (values_to c) (a_tree t) rest fine g m = ap (λ r. r >>= λ u us. Some (a_tree u, us)) (values_only c t rest fine g m)
  piece_only (names_to f) (some_names xs false) rest fine g m = ap (λ r. r >>= λ ys us. Some (some_names ys false, us)) (targets_only f xs rest fine g)
  piece_only parameters (some_names xs b) rest fine g m =
      let made : List Name × Bool → Reader Slot = λ a us. Some (some_names a.0 a.1, us) in
      let ts = spell_all spell_name xs b (by is.round_close) rest in
      ap (λ r. r >>= made) (all_only first_name (by is.round_close) spell_name IsFree AnyRest (name_laws (by is.round_close) (refl, refl)) xs b rest (length ts + 1) (names_good xs g.0) (some_name xs b g.1) tt (omega arith))
  piece_only arguments (some_arguments args b) rest fine g m =
      let as_items = list_arguments args in
      let same_args : arguments_of as_items ≡ args = arguments_of_list args in
      let reader = argument (read room) room in
      let made : List Argument × Bool → Reader Slot = λ a us. guarded (named_last a.0) (Some (some_arguments (arguments_of a.0) a.1, us)) in
      let c = by is.round_close in
      let ts = spell_all spell_argument as_items b c rest in
      let spelled : spell_arguments args b rest ≡ ts = ap (λ us. spell_arguments us b rest) (sym same_args) ∙ arguments_of_items as_items b rest in
      let all = all_only reader c spell_argument (ArgumentFits room) Loose (argument_laws (read room) room (read_only room)) as_items b rest (length ts + 1) (arguments_fit room args g.0 g.3) (some_argument args b g.2) tt (omega arith) in
      ap (λ ws. items reader c (length ws + 1) [] ws >>= made) spelled ∙
      (ap (λ r. r >>= made) all ∙ (ap (λ q. guarded q (Some (some_arguments (arguments_of as_items) b, rest))) (last_named args g.1) ∙ ap (λ us. Some (some_arguments us b, rest)) same_args))
  piece_only text (a_text t) rest fine g m = let e = text_is_kind t.kind g.0 in rw e refl
  piece_only augment_mark (an_augment op) rest fine g m = let e = augment_there op in rw e refl
  piece_only p s rest fine g m = absurd g

  -- ---- all pieces of a line

  -- every piece stands well before the next
  abbrev pub Fine : List Piece → Type 0
  Fine [] = Unit {0}
  Fine (tree ∷ []) = Unit {0}
  Fine (tree ∷ word f ∷ ps) = (binding f ≡ 0) × Fine (word f ∷ ps)
  Fine (tree ∷ p ∷ ps) = ⊥
  Fine (values_to at_end ∷ []) = Unit {0}
  Fine (values_to at_end ∷ p ∷ ps) = ⊥
  Fine (values_to (by f) ∷ ps) = ClosesValues (by f) × Fine ps
  Fine (p ∷ ps) = FinePiece p × Fine ps

  fine_first : (p : Piece) (ps : List Piece) → Fine (p ∷ ps) → FinePiece p × Fine ps
  fine_first tree [] h = (tt, tt)
  fine_first tree (word f ∷ ps) h = (tt, h.1)
  fine_first tree (p ∷ ps) h = absurd h
  fine_first (values_to at_end) [] h = (values_end, tt)
  fine_first (values_to at_end) (p ∷ ps) h = absurd h
  fine_first (values_to (by f)) ps h = h
  fine_first p ps h = h

  pub pieces_found : (ps : List Piece) (ts : List Word) (ss : List Slot) → Fine ps → pieces below ps ts ≡ Some ss → (ts ≡ spell_pieces ps ss) × GoodPieces ps ss
  unfolding pieces
  pieces_found [] [] ss h e = let none_left : ◌≡◌ {A = List Slot} [] ss = cc (e) in (refl, subst (GoodPieces []) none_left tt)
  pieces_found [] (w ∷ ts) ss h e = absurd (cc)
  pieces_found (p ∷ ps) ts ss h e = by_read (piece below p ts) refl (λ us rs g. pieces_found ps us rs (fine_first p ps h).1 g) e
    where
      Further : Type 0
      Further = (us : List Word) (rs : List Slot) → pieces below ps us ≡ Some rs → (us ≡ spell_pieces ps rs) × GoodPieces ps rs

      by_more : (q : Slot × List Word) (o : Option (List Slot)) → piece below p ts ≡ Some q → pieces below ps q.1 ≡ o → Further → with_slot below q.0 o ≡ Some ss → (ts ≡ spell_pieces (p ∷ ps) ss) × GoodPieces (p ∷ ps) ss
      by_more q None g k later i = absurd (cc)
      by_more q (Some rs) g k later i =
          let all : (q.0 ∷ rs) ≡ ss = cc (i) in
          let f = piece_found p ts q (fine_first p ps h).0 g in
          let l = later q.1 rs k in
          subst (λ xs. (ts ≡ spell_pieces (p ∷ ps) xs) × GoodPieces (p ∷ ps) xs) all (f.spelled ∙ ap (spell_piece p q.0) l.0, (f.good, l.1))

      by_read : (r : Read Slot) → piece below p ts ≡ r → Further → on_slot below (pieces below ps) r ≡ Some ss → (ts ≡ spell_pieces (p ∷ ps) ss) × GoodPieces (p ∷ ps) ss
      by_read None g later k = absurd (cc)
      by_read (Some q) g later k = by_more q (pieces below ps q.1) g refl later k

  may_stand : (p : Piece) (ps : List Piece) (ss : List Slot) → Fine (p ∷ ps) → GoodPieces ps ss → May p (spell_pieces ps ss)
  may_stand tree [] ss h g = omega arith
  may_stand tree (word f ∷ ps) [] h g = absurd g
  may_stand tree (word f ∷ ps) (s ∷ ss) h g = let b = h.0 in omega arith
  may_stand tree (p ∷ ps) ss h g = absurd h
  may_stand (values_to at_end) [] ss h g = refl
  may_stand (values_to at_end) (p ∷ ps) ss h g = absurd h
  may_stand (values_to (by f)) ps ss h g = tt
  may_stand p ps ss h g = tt

  pub pieces_only : (ps : List Piece) (ss : List Slot) → Fine ps → GoodPieces ps ss → pieces below ps (spell_pieces ps ss) ≡ Some ss
  unfolding pieces
  pieces_only [] [] h g = refl
  pieces_only [] (s ∷ ss) h g = absurd g
  pieces_only (p ∷ ps) [] h g = absurd g
  pieces_only (p ∷ ps) (s ∷ ss) h g =
      let f = fine_first p ps h in
      let one = piece_only p s (spell_pieces ps ss) f.0 g.0 (may_stand p ps ss h g.1) in
      ap (on_slot below (pieces below ps)) one ∙ ap (with_slot below s) (pieces_only ps ss f.1 g.1)
