-- What the code takes of an f-text is what its reader reads: items, up to the closing quotes.
use Rattle.std.proofs.Common.{◌≡◌, ℕ, ◌+◌, ◌<◌, Bool, true, false, cond, List, [], ◌∷◌, ◌++◌, length, take, drop, Option, Some, None, refl, sym, ap, subst, ◌∙◌, append_assoc, length-append, arith}
use Rattle.std.specs.Prelude.{◌==◌}
use Rattle.std.specs.List.{flat_map}
use Rattle.lexical_form.specs.Bytes.{is_quote}
use Rattle.lexical_form.specs.Cuts.{state_after}
use Rattle.lexical_form.specs.Reading.{Read}
use Rattle.lexical_form.specs.Tokens.{Piece}
use Rattle.lexical_form.specs.Texts.{Quotes, Item, GoodItem, repeated, item_spelling, side}
use Rattle.lexical_form.specs.TextReader.{lead_two, lead, behind_quotes, item_at, behind, with_items, items_at}
use Rattle.lexical_form.specs.Fields.{Field}
use Rattle.lexical_form.specs.FTexts.{FPart, IsFPart, f_part_spelling, f_part_characters, field_of, characters_piece, cut_at_field, pieces_behind}
use Rattle.lexical_form.specs.FTextReader.{f_part_at}
use Rattle.lexical_form.proofs.Basics.{is_code, some_is, not_some, if_some}
use Rattle.lexical_form.proofs.Runs.{Reads, cuts_are_read, cuts_flat}
use Rattle.lexical_form.proofs.Items.{item_reads, side_stuck}
use Rattle.lexical_form.proofs.FTextLaws.{f_parts}
use Rattle.py_lines.specs.Characters.{say, Said, item_says}
use Rattle.py_lines.specs.PiecesRead.{PiecesRead}
use Rattle.py_lines.proofs.PartLaws.{State, with_field, part_after, pieces_after, ItemCuts, PartTook, PartIs, part_is}

-- ---- the quotes before a part
one_taken : (m : ℕ) (c : ℕ) (cs : List ℕ) (b : Bool) → (c == m) ≡ b → take (cond b 1 0) (c ∷ cs) ≡ repeated (cond b 1 0) m
one_taken m c cs true e = ap (λ x. x ∷ []) (is_code c m e)
one_taken m c cs false e = refl

two_taken : (m : ℕ) (ts : List ℕ) → take (lead_two m ts) ts ≡ repeated (lead_two m ts) m
two_taken m [] = refl
two_taken m (c ∷ []) = one_taken m c [] (c == m) refl
two_taken m (c ∷ d ∷ ds) = go (c == m) (d == m) refl refl
  where
    go : (a b : Bool) → (c == m) ≡ a → (d == m) ≡ b → take (cond a (1 + cond b 1 0) 0) (c ∷ d ∷ ds) ≡ repeated (cond a (1 + cond b 1 0) 0) m
    go true true e f = ap (λ x. x ∷ d ∷ []) (is_code c m e) ∙ ap (λ y. m ∷ y ∷ []) (is_code d m f)
    go true false e f = ap (λ x. x ∷ []) (is_code c m e)
    go false b e f = refl

pub lead_taken : (q : Quotes) (ts : List ℕ) → take (lead q ts) ts ≡ repeated (lead q ts) q.mark
lead_taken q ts = go q.three
  where
    go : (b : Bool) → take (cond b (lead_two q.mark ts) 0) ts ≡ repeated (cond b (lead_two q.mark ts) 0) q.mark
    go true = two_taken q.mark ts
    go false = refl

-- ---- an item, and perhaps further bytes that stand for themselves
record Took (q : Quotes) (s : State) (ts : List ℕ) (t : State) (more : List ℕ) : Type 0 where
  first : Item FPart
  mid : List ℕ
  read : item_at f_part_at q ts ≡ Some (first, mid)
  others : List (Item FPart)
  cuts : ItemCuts q mid others more
  state : t ≡ state_after (pieces_after q) (pieces_after q s first) others

item_took : (q : Quotes) (s : State) (ts : List ℕ) (t : State) (more : List ℕ) → is_quote q.mark ≡ true → ◌≡◌ {A = Said} (Some (t, more)) (item_says q s ts) → Took q s ts t more
item_took q s ts t more k e =
    let p : PartTook q (say s (take (lead q ts) ts)) (drop (lead q ts) ts) t more =
    subst (λ (o : Said). PartIs q (say s (take (lead q ts) ts)) (drop (lead q ts) ts) o) (sym e) (part_is q (say s (take (lead q ts) ts)) (drop (lead q ts) ts) k) in
    record {
      first = record { before = lead q ts; part = PartTook.first p };
      mid = PartTook.mid p;
      read = ap (behind_quotes (lead q ts)) (PartTook.read p);
      others = PartTook.others p;
      cuts = PartTook.cuts p;
      state = PartTook.state p ∙ ap (λ (xs : List ℕ). state_after (pieces_after q) (part_after q (say s xs) (PartTook.first p)) (PartTook.others p)) (lead_taken q ts);
    }

item_none : (q : Quotes) (s : State) (ts : List ℕ) → is_quote q.mark ≡ true → ◌≡◌ {A = Said} None (item_says q s ts) → item_at f_part_at q ts ≡ None
item_none q s ts k e =
    let p : f_part_at q (drop (lead q ts) ts) ≡ None =
    subst (λ (o : Said). PartIs q (say s (take (lead q ts) ts)) (drop (lead q ts) ts) o) (sym e) (part_is q (say s (take (lead q ts) ts)) (drop (lead q ts) ts) k) in
    ap (behind_quotes (lead q ts)) p

-- ---- the items so far
abbrev pub PiecesReached : Quotes → List ℕ → State → List ℕ → Type 0
PiecesReached q ts s rest = (is : List (Item FPart)) × ItemCuts q ts is rest × ◌≡◌ {A = State} s (state_after (pieces_after q) ([], []) is)

pub pieces_start : (q : Quotes) (ts : List ℕ) → PiecesReached q ts ([], []) ts
pieces_start q ts = ([], refl, refl)

join_cuts : (q : Quotes) (ts : List ℕ) (is : List (Item FPart)) (rest : List ℕ) (js : List (Item FPart)) (more : List ℕ) → ItemCuts q ts is rest → ItemCuts q rest js more → ItemCuts q ts (is ++ js) more
join_cuts q ts [] rest js more c d = subst (λ (xs : List ℕ). ItemCuts q xs js more) (sym c) d
join_cuts q ts (i ∷ is) rest js more c d = (c.0, c.1, c.2, join_cuts q c.0 is rest js more c.3 d)

join_state : (q : Quotes) (s : State) (is js : List (Item FPart)) → ◌≡◌ {A = State} (state_after (pieces_after q) s (is ++ js)) (state_after (pieces_after q) (state_after (pieces_after q) s is) js)
join_state q s [] js = refl
join_state q s (i ∷ is) js = join_state q (pieces_after q s i) is js

abbrev spell : Quotes → Item FPart → List ℕ
spell q = item_spelling f_part_spelling q

abbrev Fits : Quotes → Unit {0} → Item FPart → List ℕ → Type 0
Fits q s i more = GoodItem q (IsFPart q) i

abbrev same : Unit {0} → Item FPart → Unit {0}
same s i = s

abbrev at : Quotes → Unit {0} → List ℕ → Read (Item FPart)
at q s = item_at f_part_at q

reads : (q : Quotes) → is_quote q.mark ≡ true → Reads (spell q) (Fits q) (at q)
reads q k = item_reads q f_part_spelling (IsFPart q) f_part_at (f_parts q k)

pub record PiecesStepped (q : Quotes) (ts rest : List ℕ) (t : State) (more : List ℕ) : Type 0 where
  pub reached : PiecesReached q ts t more
  pub shorter : length more < length rest

pub pieces_stepped : (q : Quotes) (ts : List ℕ) (s : State) (rest : List ℕ) (t : State) (more : List ℕ) → is_quote q.mark ≡ true → PiecesReached q ts s rest
    → ◌≡◌ {A = Said} (Some (t, more)) (item_says q s rest) → PiecesStepped q ts rest t more
pieces_stepped q ts s rest t more k h e =
    let w = item_took q s rest t more k e in
    let first = Took.first w in
    let f = (reads q k).found tt rest (Took.first w) (Took.mid w) (Took.read w) in
    let some = (reads q k).some tt (Took.first w) (Took.mid w) f.0 in
    let flat = cuts_flat (spell q) (Fits q) same tt (Took.mid w) (Took.others w) more (Took.cuts w) in
    let l = ap length f.1 ∙ length-append (spell q (Took.first w)) (Took.mid w) in
    let m = ap length flat ∙ length-append (flat_map (spell q) (Took.others w)) more in
    let one : ItemCuts q rest (Took.first w ∷ Took.others w) more = (Took.mid w, f.0, f.1, Took.cuts w) in
    let state : t ≡ state_after (pieces_after q) s (Took.first w ∷ Took.others w) = Took.state w in
    record {
      reached = (
        h.0 ++ (Took.first w ∷ Took.others w),
        join_cuts q ts h.0 rest (Took.first w ∷ Took.others w) more h.1 one,
        state ∙ (ap (λ (x : State). state_after (pieces_after q) x (Took.first w ∷ Took.others w)) h.2 ∙ sym (join_state q ([], []) h.0 (Took.first w ∷ Took.others w))),
      );
      shorter = omega (arith, l, m, some);
    }

-- ---- the end
pub behind_front : (qs ts more : List ℕ) → behind qs ts ≡ Some more → ts ≡ qs ++ more
behind_front [] ts more e = some_is ts more e
behind_front (q ∷ qs) [] more e = not_some more e
behind_front (q ∷ qs) (c ∷ cs) more e =
    let h = if_some {A = List ℕ} (c == q) (behind qs cs) more e in
    ap (λ x. x ∷ cs) (is_code c q h.0) ∙ ap (λ xs. q ∷ xs) (behind_front qs cs more h.1)

items_read : (q : Quotes) (ts : List ℕ) (is : List (Item FPart)) (rest : List ℕ) → is_quote q.mark ≡ true → ItemCuts q ts is rest → item_at f_part_at q rest ≡ None
    → items_at f_part_at q ts ≡ with_items is (behind (side q) rest)
items_read q ts is rest k c stuck =
    let r = cuts_are_read (spell q) (Fits q) same (at q) (reads q k) (length ts) tt ts is rest c stuck (omega arith) in
    ap (λ (r : List (Item FPart) × List ℕ). with_items r.0 (behind (side q) r.1)) r

pub pieces_failed : (q : Quotes) (ts : List ℕ) (s : State) (rest : List ℕ) → is_quote q.mark ≡ true → PiecesReached q ts s rest → behind (side q) rest ≡ None
    → ◌≡◌ {A = Said} None (item_says q s rest) → items_at f_part_at q ts ≡ None
pieces_failed q ts s rest k h open_still e = items_read q ts h.0 rest k h.1 (item_none q s rest k e) ∙ ap (with_items h.0) open_still

-- the pieces that are done, and the rest, are all pieces
one_item : (q : Quotes) (done : List Piece) (front : List ℕ) (o : Option Field) (is : List (Item FPart))
    → done ++ cut_at_field front (pieces_behind q is) o ≡ (with_field done front o).0 ++ pieces_behind q is (with_field done front o).1
one_item q done front None is = refl
one_item q done front (Some f) is = simp append_assoc

pieces_are : (q : Quotes) (s : State) (is : List (Item FPart))
    → s.0 ++ pieces_behind q is s.1 ≡ (state_after (pieces_after q) s is).0 ++ characters_piece (state_after (pieces_after q) s is).1
pieces_are q s [] = refl
pieces_are q s (i ∷ is) =
    one_item q s.0 (s.1 ++ repeated i.before q.mark ++ f_part_characters q i.part) (field_of i.part) is ∙ pieces_are q (pieces_after q s i) is

pub pieces_closed : (q : Quotes) (ts : List ℕ) (s : State) (rest more : List ℕ) → is_quote q.mark ≡ true → PiecesReached q ts s rest → behind (side q) rest ≡ Some more → PiecesRead q ts s more
pieces_closed q ts s rest more k h e =
    let stuck : item_at f_part_at q rest ≡ None = ap (item_at f_part_at q) (behind_front (side q) rest more e) ∙ side_stuck q f_part_spelling (IsFPart q) f_part_at (f_parts q k) more in
    record {
      items = h.0;
      read = items_read q ts h.0 rest k h.1 stuck ∙ ap (with_items h.0) e;
      pieces = ap (λ (x : State). x.0 ++ characters_piece x.1) h.2 ∙ sym (pieces_are q ([], []) h.0);
    }
