-- Items between quotes are read exactly as they are spelled.
use Rattle.std.proofs.Common.{◌≡◌, ℕ, zero, suc, ◌+◌, ◌≤◌, ◌<◌, Bool, true, false, cond, List, [], ◌∷◌, ◌++◌, length, drop, Option, Some, None, refl, sym, ap, subst, ◌∙◌, append_assoc, arith}
use Rattle.std.specs.Prelude.{not, ◌==◌}
use Rattle.std.specs.List.{flat_map}
use Rattle.std.proofs.lemmas.Bool.{eq-eqb}
use Rattle.lexical_form.specs.Reading.{Read, read_all}
use Rattle.lexical_form.specs.Cuts.{Cuts}
use Rattle.lexical_form.specs.Bytes.{starts, starts_two}
use Rattle.lexical_form.specs.Texts.{Quotes, Item, GoodItem, AreItems, most_before, repeated, item_spelling, side, is_before_third}
use Rattle.lexical_form.specs.TextReader.{lead_one, lead_two, lead, behind_quotes, item_at, behind, with_items, items_at, opening, behind_opening}
use Rattle.lexical_form.proofs.Basics.{is_code, and_left, and_right, not_true, read_is, some_is, if_some, not_some}
use Rattle.lexical_form.proofs.Runs.{Reads, cuts_are_read, read_is_cut}

-- `at` reads a part exactly where one stands, parts don't begin with the quote, and the quote begins none
pub record PartReads {P : Type 0} (q : Quotes) (spell : P → List ℕ) (Good : P → Type 0) (at : List ℕ → Read P) : Type 0 where
  pub found : (ts : List ℕ) (p : P) (more : List ℕ) → at ts ≡ Some (p, more) → Good p × (ts ≡ spell p ++ more)
  pub only : (p : P) (more : List ℕ) → Good p → at (spell p ++ more) ≡ Some (p, more)
  pub apart : (p : P) → Good p → starts (λ c. not (c == q.mark)) (spell p) ≡ true
  pub closes : (rest : List ℕ) → at (q.mark ∷ rest) ≡ None

itself : (m : ℕ) → (m == m) ≡ true
itself m = eq-eqb m m refl

lead_one_is : (m : ℕ) (ts : List ℕ) → starts (λ c. c == m) ts ≡ false → lead_one m ts ≡ 0
lead_one_is m [] e = refl
lead_one_is m (c ∷ cs) e = rw e refl

lead_two_is : (m n : ℕ) (ts : List ℕ) → n ≤ 2 → starts (λ c. c == m) ts ≡ false → lead_two m (repeated n m ++ ts) ≡ n
lead_two_is m zero [] l e = refl
lead_two_is m zero (c ∷ cs) l e = rw e refl
lead_two_is m (suc zero) ts l e = rw (itself m) (rw (lead_one_is m ts e) refl)
lead_two_is m (suc (suc zero)) ts l e = rw (itself m) refl
lead_two_is m (suc (suc (suc n))) ts l e = absurd (omega (arith, l))

drop_repeated : (m n : ℕ) (ts : List ℕ) → drop n (repeated n m ++ ts) ≡ ts
drop_repeated m zero ts = refl
drop_repeated m (suc n) ts = drop_repeated m n ts

lead_is : (q : Quotes) (b : Bool) → q.three ≡ b → (n : ℕ) (ts : List ℕ) → n ≤ cond b 2 0 → starts (λ c. c == q.mark) ts ≡ false → cond b (lead_two q.mark (repeated n q.mark ++ ts)) 0 ≡ n
lead_is q true t n ts l e = lead_two_is q.mark n ts l e
lead_is q false t zero ts l e = refl
lead_is q false t (suc n) ts l e = absurd (omega (arith, l))

lead_one_front : (m : ℕ) (ts : List ℕ) → (ts ≡ repeated (lead_one m ts) m ++ drop (lead_one m ts) ts) × (lead_one m ts ≤ 1)
lead_one_front m [] = (refl, omega arith)
lead_one_front m (c ∷ cs) = go (c == m) refl
  where
    go : (b : Bool) → (c == m) ≡ b → ((c ∷ cs) ≡ repeated (cond b 1 0) m ++ drop (cond b 1 0) (c ∷ cs)) × (cond b 1 0 ≤ 1)
    go true e = (ap (λ x. x ∷ cs) (is_code c m e), omega arith)
    go false e = (refl, omega arith)

lead_two_front : (m : ℕ) (ts : List ℕ) → (ts ≡ repeated (lead_two m ts) m ++ drop (lead_two m ts) ts) × (lead_two m ts ≤ 2)
lead_two_front m [] = (refl, omega arith)
lead_two_front m (c ∷ cs) = go (c == m) refl (lead_one m cs) (lead_one_front m cs)
  where
    go : (b : Bool) → (c == m) ≡ b → (n : ℕ) → (cs ≡ repeated n m ++ drop n cs) × (n ≤ 1) → ((c ∷ cs) ≡ repeated (cond b (1 + n) 0) m ++ drop (cond b (1 + n) 0) (c ∷ cs)) × (cond b (1 + n) 0 ≤ 2)
    go true e zero f = (ap (λ x. x ∷ cs) (is_code c m e), omega arith)
    go true e (suc zero) f = (ap (λ x. x ∷ cs) (is_code c m e) ∙ ap (λ xs. m ∷ xs) f.0, omega arith)
    go true e (suc (suc n)) f = absurd (omega (arith, f.1))
    go false e n f = (refl, omega arith)

lead_front : (q : Quotes) (ts : List ℕ) → (ts ≡ repeated (lead q ts) q.mark ++ drop (lead q ts) ts) × (lead q ts ≤ most_before q)
lead_front q ts = go q.three
  where
    go : (b : Bool) → (ts ≡ repeated (cond b (lead_two q.mark ts) 0) q.mark ++ drop (cond b (lead_two q.mark ts) 0) ts) × (cond b (lead_two q.mark ts) 0 ≤ cond b 2 0)
    go true = lead_two_front q.mark ts
    go false = (refl, omega arith)

-- behind a byte that is no quote
unlike : (m : ℕ) (ts more : List ℕ) → starts (λ c. not (c == m)) ts ≡ true → starts (λ c. c == m) (ts ++ more) ≡ false
unlike m [] more h = let none : false ≡ true = h in absurd cc
unlike m (c ∷ cs) more h = not_true (c == m) h

some_front : (m n : ℕ) (ts : List ℕ) → starts (λ c. not (c == m)) ts ≡ true → 0 < length (repeated n m ++ ts)
some_front m zero [] h = let none : false ≡ true = h in absurd cc
some_front m zero (c ∷ cs) h = omega arith
some_front m (suc n) ts h = omega arith

behind_is : (qs rest : List ℕ) → behind qs (qs ++ rest) ≡ Some rest
behind_is [] rest = refl
behind_is (q ∷ qs) rest = rw (itself q) (behind_is qs rest)

behind_found : (qs ts rest : List ℕ) → behind qs ts ≡ Some rest → ts ≡ qs ++ rest
behind_found [] ts rest e = some_is ts rest e
behind_found (q ∷ qs) [] rest e = not_some rest e
behind_found (q ∷ qs) (c ∷ cs) rest e =
    let h = if_some (c == q) (behind qs cs) rest e in
    ap (λ x. x ∷ cs) (is_code c q h.0) ∙ ap (λ xs. q ∷ xs) (behind_found qs cs rest h.1)

module _ {P : Type 0} (q : Quotes) (spell : P → List ℕ) (Good : P → Type 0) (at : Quotes → List ℕ → Read P) (parts : PartReads q spell Good (at q)) where
  found_behind : (ts : List ℕ) (n : ℕ) (r : Read P) (i : Item P) (more : List ℕ) → lead q ts ≡ n → at q (drop n ts) ≡ r → behind_quotes n r ≡ Some (i, more)
      → GoodItem q Good i × (ts ≡ item_spelling spell q i ++ more)
  found_behind ts n None i more l e f = not_some (i, more) f
  found_behind ts n (Some p) i more l e f =
      let g = parts.found (drop n ts) p.0 p.1 e in
      let front = lead_front q ts in
      let there : ts ≡ repeated n q.mark ++ drop n ts = subst (λ k. ts ≡ repeated k q.mark ++ drop k ts) l front.0 in
      let bound : n ≤ most_before q = subst (λ k. k ≤ most_before q) l front.1 in
      let same = read_is {A = Item P} (record { before = n; part = p.0 }) i p.1 more f in
      let here : ts ≡ (repeated n q.mark ++ spell p.0) ++ p.1 = there ∙ (ap (λ xs. repeated n q.mark ++ xs) g.1 ∙ sym (append_assoc (repeated n q.mark) (spell p.0) p.1)) in
      subst (λ (j : Item P). GoodItem q Good j × (ts ≡ item_spelling spell q j ++ more)) same.0 ((bound, g.0), subst (λ xs. ts ≡ (repeated n q.mark ++ spell p.0) ++ xs) same.1 here)

  item_only : (i : Item P) (more : List ℕ) → GoodItem q Good i → item_at at q (item_spelling spell q i ++ more) ≡ Some (i, more)
  item_only i more g =
      let ts = repeated i.before q.mark ++ (spell i.part ++ more) in
      let flat : item_spelling spell q i ++ more ≡ repeated i.before q.mark ++ (spell i.part ++ more) = append_assoc (repeated i.before q.mark) (spell i.part) more in
      let l : lead q (repeated i.before q.mark ++ (spell i.part ++ more)) ≡ i.before = lead_is q q.three refl i.before (spell i.part ++ more) g.0 (unlike q.mark (spell i.part) more (parts.apart i.part g.1)) in
      let d : drop i.before (repeated i.before q.mark ++ (spell i.part ++ more)) ≡ spell i.part ++ more = drop_repeated q.mark i.before (spell i.part ++ more) in
      ap (item_at at q) flat ∙ (ap (λ n. behind_quotes n (at q (drop n (repeated i.before q.mark ++ (spell i.part ++ more))))) l
      ∙ (ap (λ xs. behind_quotes i.before (at q xs)) d ∙ ap (behind_quotes i.before) (parts.only i.part more g.1)))

  pub item_reads : Reads (item_spelling spell q) (λ (s : Unit {0}) (i : Item P) (more : List ℕ). GoodItem q Good i) (λ (s : Unit {0}). item_at at q)
  item_reads = record {
    found = λ s ts i more e. found_behind ts (lead q ts) (at q (drop (lead q ts) ts)) i more refl refl e;
    only = λ s i more g. item_only i more g;
    some = λ s i more g. some_front q.mark i.before (spell i.part) (parts.apart i.part g.1);
  }

  abbrev Pieces : List ℕ → List (Item P) → List ℕ → Type 0
  Pieces = Cuts (item_spelling spell q) (λ (s : Unit {0}) (i : Item P) (more : List ℕ). GoodItem q Good i) (λ (s : Unit {0}) (i : Item P). s) tt

  cuts_of : (is : List (Item P)) (rest : List ℕ) → AreItems q Good is → Pieces (flat_map (item_spelling spell q) is ++ rest) is rest
  cuts_of [] rest g = refl
  cuts_of (i ∷ is) rest g =
      (flat_map (item_spelling spell q) is ++ rest, g.0, append_assoc (item_spelling spell q i) (flat_map (item_spelling spell q) is) rest, cuts_of is rest g.1)

  items_of : (ts : List ℕ) (is : List (Item P)) (rest : List ℕ) → Pieces ts is rest → AreItems q Good is × (ts ≡ flat_map (item_spelling spell q) is ++ rest)
  items_of ts [] rest c = (tt, c)
  items_of ts (i ∷ is) rest c =
      let further = items_of c.0 is rest c.3 in
      ((c.1, further.0), c.2 ∙ (ap (λ xs. item_spelling spell q i ++ xs) further.1 ∙ sym (append_assoc (item_spelling spell q i) (flat_map (item_spelling spell q) is) rest)))

  stuck_at : (b : Bool) (rest : List ℕ) → behind_quotes (cond b (lead_two q.mark (cond b (q.mark ∷ q.mark ∷ q.mark ∷ []) (q.mark ∷ []) ++ rest)) 0)
      (at q (drop (cond b (lead_two q.mark (cond b (q.mark ∷ q.mark ∷ q.mark ∷ []) (q.mark ∷ []) ++ rest)) 0) (cond b (q.mark ∷ q.mark ∷ q.mark ∷ []) (q.mark ∷ []) ++ rest))) ≡ None
  stuck_at true rest = rw (itself q.mark) (ap (behind_quotes 2) (parts.closes rest))
  stuck_at false rest = ap (behind_quotes 0) (parts.closes rest)

  -- the closing quotes are no item
  pub side_stuck : (rest : List ℕ) → item_at at q (side q ++ rest) ≡ None
  side_stuck rest = stuck_at q.three rest

  pub items_only : (is : List (Item P)) (rest : List ℕ) → AreItems q Good is → items_at at q (flat_map (item_spelling spell q) is ++ (side q ++ rest)) ≡ Some (is, rest)
  items_only is rest g =
      let ts = flat_map (item_spelling spell q) is ++ (side q ++ rest) in
      let r = cuts_are_read (item_spelling spell q) (λ (s : Unit {0}) (i : Item P) (more : List ℕ). GoodItem q Good i) (λ (s : Unit {0}) (i : Item P). s) (λ (s : Unit {0}). item_at at q)
      item_reads (length (flat_map (item_spelling spell q) is ++ (side q ++ rest))) tt (flat_map (item_spelling spell q) is ++ (side q ++ rest)) is (side q ++ rest) (cuts_of is (side q ++ rest) g) (side_stuck rest) (omega arith) in
      ap (λ (r : List (Item P) × List ℕ). with_items r.0 (behind (side q) r.1)) r ∙ ap (with_items is) (behind_is (side q) rest)

  closed_items : (r : List (Item P) × List ℕ) (b : Option (List ℕ)) (ts : List ℕ) (is : List (Item P)) (rest : List ℕ) → Pieces ts r.0 r.1 → behind (side q) r.1 ≡ b → with_items r.0 b ≡ Some (is, rest)
      → AreItems q Good is × (ts ≡ flat_map (item_spelling spell q) is ++ (side q ++ rest))
  closed_items r None ts is rest c e f = not_some (is, rest) f
  closed_items r (Some more) ts is rest c e f =
      let same = read_is {A = List (Item P)} r.0 is more rest f in
      let g = items_of ts r.0 r.1 c in
      let tail = behind_found (side q) r.1 more e in
      let whole : ts ≡ flat_map (item_spelling spell q) r.0 ++ (side q ++ more) = g.1 ∙ ap (λ xs. flat_map (item_spelling spell q) r.0 ++ xs) tail in
      subst (λ (js : List (Item P)). AreItems q Good js × (ts ≡ flat_map (item_spelling spell q) js ++ (side q ++ rest))) same.0
      (g.0, subst (λ (xs : List ℕ). ts ≡ flat_map (item_spelling spell q) r.0 ++ (side q ++ xs)) same.1 whole)

  pub items_found : (ts : List ℕ) (is : List (Item P)) (rest : List ℕ) → items_at at q ts ≡ Some (is, rest) → AreItems q Good is × (ts ≡ flat_map (item_spelling spell q) is ++ (side q ++ rest))
  items_found ts is rest e =
      let c = read_is_cut (item_spelling spell q) (λ (s : Unit {0}) (i : Item P) (more : List ℕ). GoodItem q Good i) (λ (s : Unit {0}) (i : Item P). s) (λ (s : Unit {0}). item_at at q) item_reads (length ts) tt ts in
      let r = read_all (λ (s : Unit {0}). item_at at q) (λ (s : Unit {0}) (i : Item P). s) tt ts in
      closed_items r (behind (side q) r.1) ts is rest c refl e

-- Opening quotes.
abbrev as_opened : ℕ → Bool → Bool → Quotes
as_opened m three raw = record { mark = m; three = three; raw = raw }

not_two : (m : ℕ) (ts : List ℕ) → starts (λ c. c == m) ts ≡ false → starts_two m ts ≡ false
not_two m [] h = refl
not_two m (c ∷ []) h = refl
not_two m (c ∷ d ∷ ds) h = rw h refl

two_front : (m : ℕ) (ts : List ℕ) → starts_two m ts ≡ true → ts ≡ m ∷ m ∷ drop 2 ts
two_front m [] h = let none : false ≡ true = h in absurd cc
two_front m (c ∷ []) h = let none : false ≡ true = h in absurd cc
two_front m (c ∷ d ∷ ds) h =
    let first = is_code c m (and_left (c == m) (d == m) h) in
    let second = is_code d m (and_right (c == m) (d == m) h) in
    ap (λ x. x ∷ d ∷ ds) first ∙ ap (λ x. m ∷ x ∷ ds) second

unlike_front : (m n : ℕ) (ts more : List ℕ) → n ≤ 0 → starts (λ c. not (c == m)) ts ≡ true → starts (λ c. c == m) ((repeated n m ++ ts) ++ more) ≡ false
unlike_front m zero ts more l h = unlike m ts more h
unlike_front m (suc n) ts more l h = absurd (omega (arith, l))

one_quote : {P : Type 0} (m : ℕ) (raw : Bool) (spell : P → List ℕ) (Good : P → Type 0) → ((p : P) → Good p → starts (λ c. not (c == m)) (spell p) ≡ true)
    → (is : List (Item P)) (rest : List ℕ) → AreItems (record { mark = m; three = false; raw = raw }) Good is → is_before_third (record { mark = m; three = false; raw = raw }) is rest ≡ false
    → starts_two m (flat_map (item_spelling spell (record { mark = m; three = false; raw = raw })) is ++ (m ∷ rest)) ≡ false
one_quote m raw spell Good apart [] [] g h = refl
one_quote m raw spell Good apart [] (d ∷ ds) g h = rw (itself m) h
one_quote m raw spell Good apart (i ∷ is) rest g h =
    let front = repeated i.before m ++ spell i.part in
    let tail = flat_map (item_spelling spell (record { mark = m; three = false; raw = raw })) is in
    let flat : (front ++ tail) ++ (m ∷ rest) ≡ front ++ (tail ++ (m ∷ rest)) = append_assoc front tail (m ∷ rest) in
    ap (starts_two m) flat ∙ not_two m (front ++ (tail ++ (m ∷ rest))) (unlike_front m i.before (spell i.part) (tail ++ (m ∷ rest)) g.0.0 (apart i.part g.0.1))

-- behind the quotes that open: the quotes that they are, and what is between them
pub record Opened {P : Type 0} (q : Quotes) (spell : P → List ℕ) (is : List (Item P)) (rest : List ℕ) : Type 0 where
  pub more : List ℕ
  pub front : side q ++ (flat_map (item_spelling spell q) is ++ (side q ++ rest)) ≡ q.mark ∷ more
  pub same : opening q.raw q.mark more ≡ q
  pub inside : behind_opening q more ≡ flat_map (item_spelling spell q) is ++ (side q ++ rest)

opened_as : {P : Type 0} (m : ℕ) (three raw : Bool) (spell : P → List ℕ) (Good : P → Type 0) → ((p : P) → Good p → starts (λ c. not (c == m)) (spell p) ≡ true)
    → (is : List (Item P)) (rest : List ℕ) → AreItems (record { mark = m; three = three; raw = raw }) Good is → is_before_third (record { mark = m; three = three; raw = raw }) is rest ≡ false
    → Opened (record { mark = m; three = three; raw = raw }) spell is rest
opened_as m true raw spell Good apart is rest g h = record {
  more = m ∷ m ∷ (flat_map (item_spelling spell (record { mark = m; three = true; raw = raw })) is ++ (m ∷ m ∷ m ∷ rest));
  front = refl;
  same = rw (itself m) refl;
  inside = refl;
}
opened_as m false raw spell Good apart is rest g h = record {
  more = flat_map (item_spelling spell (record { mark = m; three = false; raw = raw })) is ++ (m ∷ rest);
  front = refl;
  same = ap (λ b. as_opened m b raw) (one_quote m raw spell Good apart is rest g h);
  inside = refl;
}

pub opened : {P : Type 0} (q : Quotes) (spell : P → List ℕ) (Good : P → Type 0) → ((p : P) → Good p → starts (λ c. not (c == q.mark)) (spell p) ≡ true)
    → (is : List (Item P)) (rest : List ℕ) → AreItems q Good is → is_before_third q is rest ≡ false → Opened q spell is rest
opened q spell Good apart is rest g h = opened_as q.mark q.three q.raw spell Good apart is rest g h

-- what was found behind them
pub record Enclosed {P : Type 0} (q : Quotes) (spell : P → List ℕ) (is : List (Item P)) (rest : List ℕ) (ts : List ℕ) : Type 0 where
  pub whole : ts ≡ side q ++ (flat_map (item_spelling spell q) is ++ (side q ++ rest))
  pub apart : is_before_third q is rest ≡ false

enclosed_as : {P : Type 0} (m : ℕ) (three raw : Bool) (spell : P → List ℕ) (is : List (Item P)) (rest cs : List ℕ) → starts_two m cs ≡ three
    → cond three (drop 2 cs) cs ≡ flat_map (item_spelling spell (as_opened m three raw)) is ++ (side (as_opened m three raw) ++ rest) → Enclosed (as_opened m three raw) spell is rest (m ∷ cs)
enclosed_as m true raw spell is rest cs t e = record { whole = ap (λ xs. m ∷ xs) (two_front m cs t ∙ ap (λ xs. m ∷ m ∷ xs) e); apart = refl }
enclosed_as m false raw spell [] rest cs t e = record { whole = ap (λ xs. m ∷ xs) e; apart = third rest (sym (ap (starts_two m) e) ∙ t) }
  where
    third : (ds : List ℕ) → starts_two m (m ∷ ds) ≡ false → starts (λ c. c == m) ds ≡ false
    third [] h = refl
    third (d ∷ ds) h = rw (itself m) at h
enclosed_as m false raw spell (i ∷ is) rest cs t e = record { whole = ap (λ xs. m ∷ xs) e; apart = refl }

pub enclosed : {P : Type 0} (raw : Bool) (m : ℕ) (cs : List ℕ) (spell : P → List ℕ) (is : List (Item P)) (rest : List ℕ)
    → behind_opening (opening raw m cs) cs ≡ flat_map (item_spelling spell (opening raw m cs)) is ++ (side (opening raw m cs) ++ rest) → Enclosed (opening raw m cs) spell is rest (m ∷ cs)
enclosed raw m cs spell is rest e = enclosed_as m (starts_two m cs) raw spell is rest cs refl e
