-- What the code takes of a text is what its reader reads.
use Rattle.std.proofs.Common.{◌≡◌, ℕ, ◌<◌, Bool, true, false, cond, List, [], ◌∷◌, ◌++◌, length, take, drop, Option, Some, None, refl, sym, ap, subst, ◌∙◌, append_assoc, length-append, arith}
use Rattle.std.specs.Prelude.{not, ◌==◌, ◌&&◌, ◌||◌, map}
use Rattle.std.specs.List.{list_all, flat_map}
use Rattle.std.proofs.lemmas.Grind.{flat_map-append}
use Rattle.std.proofs.lemmas.Bool.Decides.{nat_tests}
use Rattle.lexical_form.specs.Bytes.{is_quote, is_brace}
use Rattle.lexical_form.specs.Cuts.{Cuts}
use Rattle.lexical_form.specs.Reading.{Read, span, cons_if}
use Rattle.lexical_form.specs.Texts.{Quotes, Part, plain, Item, GoodItem, is_plain, repeated, part_spelling, item_spelling, side}
use Rattle.lexical_form.specs.TextReader.{escape_at, part_at, lead, behind_quotes, item_at, behind, with_items, items_at}
use Rattle.lexical_form.specs.Meaning.{part_meaning, item_meaning}
use Rattle.lexical_form.proofs.Basics.{and_left, and_right}
use Rattle.lexical_form.proofs.Spans.{span_runs}
use Rattle.lexical_form.proofs.Runs.{Reads, cuts_are_read}
use Rattle.lexical_form.proofs.Items.{item_reads, side_stuck}
use Rattle.lexical_form.proofs.TextLaws.{IsPart, text_parts}
use Rattle.py_lines.specs.Characters.{is_run_byte, escape_says, say, Said, said, run_said, text_part_says, text_item_says}
use Rattle.py_lines.specs.TextsSaid.{TextRead}
use Rattle.py_lines.proofs.PartLaws.{State, EscapeTook, EscapeIs, escape_is, code_is}
use Rattle.py_lines.proofs.ItemLaws.{lead_taken, behind_front}

-- ---- a part, and perhaps further bytes that stand for themselves
record TextTook (q : Quotes) (s : State) (ts : List ℕ) (t : State) (more : List ℕ) : Type 0 where
  first : Part
  mid : List ℕ
  read : part_at q ts ≡ Some (first, mid)
  run : List ℕ
  each : list_all (is_run_byte q) run ≡ true
  rest : mid ≡ run ++ more
  state : t ≡ say s (part_meaning q first ++ run)

abbrev TextPartIs : Quotes → State → List ℕ → Said → Type 0
TextPartIs q s ts None = part_at q ts ≡ None
TextPartIs q s ts (Some r) = TextTook q s ts r.0 r.1

abbrev plain_or : Quotes → ℕ → List ℕ → Read Part
plain_or q c cs = cond {A = Read Part} (is_plain q c) (Some (plain c, cs)) None

or_true : (a : Bool) → (a || true) ≡ true
or_true true = refl
or_true false = refl

brace_plain : (q : Quotes) (c : ℕ) → is_quote q.mark ≡ true → is_brace c ≡ true → is_plain q c ≡ true
brace_plain q c k h =
    let m : (c == q.mark) ≡ false = grind (arith, nat_tests) in
    let s : (c == 92) ≡ false = grind (arith, nat_tests) in
    let e : (c == 10) ≡ false = grind (arith, nat_tests) in
    rw m (rw s (rw e (rw (or_true q.three) refl)))

brace_read : (q : Quotes) (c : ℕ) (cs : List ℕ) → is_quote q.mark ≡ true → is_brace c ≡ true → part_at q (c ∷ cs) ≡ Some (plain c, cs)
brace_read q c cs k h =
    let s : (c == 92) ≡ false = grind (arith, nat_tests) in
    ap (λ b. cond {A = Read Part} b (escape_at q cs) (plain_or q c cs)) s ∙ ap (λ b. cond {A = Read Part} b (Some (plain c, cs)) None) (brace_plain q c k h)

slashed_text : (q : Quotes) (s : State) (cs : List ℕ) (o : Option (List ℕ × List ℕ)) → EscapeIs q cs o → TextPartIs q s (92 ∷ cs) (said s o)
slashed_text q s cs None h = h
slashed_text q s cs (Some r) h = record {
  first = EscapeTook.part h;
  mid = EscapeTook.mid h;
  read = EscapeTook.read h;
  run = EscapeTook.run h;
  each = EscapeTook.each h;
  rest = EscapeTook.rest h;
  state = ap (say s) (EscapeTook.says h);
}

run_text : (q : Quotes) (s : State) (c : ℕ) (cs : List ℕ) (b : Bool) → is_run_byte q c ≡ b → part_at q (c ∷ cs) ≡ cond {A = Read Part} b (Some (plain c, cs)) None
    → TextPartIs q s (c ∷ cs) (run_said s (cons_if b c (span (is_run_byte q) cs) (c ∷ cs)))
run_text q s c cs false h e = e
run_text q s c cs true h e =
    let r = span_runs (is_run_byte q) cs in
    record { first = plain c; mid = cs; read = e; run = (span (is_run_byte q) cs).0; each = r.each; rest = r.front; state = refl }

text_part_is : (q : Quotes) (s : State) (ts : List ℕ) → is_quote q.mark ≡ true → TextPartIs q s ts (text_part_says q s ts)
text_part_is q s [] k = refl
text_part_is q s (c ∷ cs) k = go (is_brace c) refl
  where
    unbraced : (a b : Bool) → b ≡ false → (a && not b) ≡ a
    unbraced true b e = rw e refl
    unbraced false b e = refl

    alone : is_brace c ≡ false → (c == 92) ≡ false → part_at q (c ∷ cs) ≡ cond {A = Read Part} (is_run_byte q c) (Some (plain c, cs)) None
    alone h g =
        ap (λ b. cond {A = Read Part} b (escape_at q cs) (plain_or q c cs)) g
        ∙ ap (λ b. cond {A = Read Part} b (Some (plain c, cs)) None) (sym (unbraced (is_plain q c) (is_brace c) h))

    other : (b : Bool) → (c == 92) ≡ b → is_brace c ≡ false → TextPartIs q s (c ∷ cs) (cond {A = Said} b (said s (escape_says q cs)) (run_said s (span (is_run_byte q) (c ∷ cs))))
    other true g h = subst (λ x. TextPartIs q s (x ∷ cs) (said s (escape_says q cs))) (code_is c g) (slashed_text q s cs (escape_says q cs) (escape_is q cs k))
    other false g h = run_text q s c cs (is_run_byte q c) refl (alone h g)

    go : (b : Bool) → is_brace c ≡ b → TextPartIs q s (c ∷ cs) (cond {A = Said} b (Some (say s (c ∷ []), cs)) (cond {A = Said} (c == 92) (said s (escape_says q cs)) (run_said s (span (is_run_byte q) (c ∷ cs)))))
    go true h = record { first = plain c; mid = cs; read = brace_read q c cs k h; run = []; each = refl; rest = refl; state = refl }
    go false h = other (c == 92) refl h

-- ---- items
abbrev bare : ℕ → Item Part
bare c = record { before = 0; part = plain c }

abbrev spell : Quotes → Item Part → List ℕ
spell q = item_spelling part_spelling q

abbrev Fits : Quotes → Unit {0} → Item Part → List ℕ → Type 0
Fits q s i more = GoodItem q (IsPart q) i

abbrev same : Unit {0} → Item Part → Unit {0}
same s i = s

abbrev at : Quotes → Unit {0} → List ℕ → Read (Item Part)
at q s = item_at part_at q

reads : (q : Quotes) → is_quote q.mark ≡ true → Reads (spell q) (Fits q) (at q)
reads q k = item_reads q part_spelling (IsPart q) part_at (text_parts q k)

abbrev pub TextCuts : Quotes → List ℕ → List (Item Part) → List ℕ → Type 0
TextCuts q ts is rest = Cuts (spell q) (Fits q) same tt ts is rest

abbrev meaning : Quotes → List (Item Part) → List ℕ
meaning q is = flat_map (item_meaning part_meaning q) is

bare_cuts : (q : Quotes) (xs rest : List ℕ) → list_all (is_run_byte q) xs ≡ true → TextCuts q (xs ++ rest) (map bare xs) rest
bare_cuts q [] rest h = refl
bare_cuts q (x ∷ xs) rest h =
    (xs ++ rest, (omega arith, and_left (is_plain q x) (not (is_brace x)) (and_left (is_run_byte q x) (list_all (is_run_byte q) xs) h)), refl, bare_cuts q xs rest (and_right (is_run_byte q x) (list_all (is_run_byte q) xs) h))

bare_says : (q : Quotes) (xs : List ℕ) → meaning q (map bare xs) ≡ xs
bare_says q [] = refl
bare_says q (x ∷ xs) = ap (λ ys. x ∷ ys) (bare_says q xs)

abbrev pub TextReached : Quotes → List ℕ → State → List ℕ → Type 0
TextReached q ts s rest = (is : List (Item Part)) × TextCuts q ts is rest × ◌≡◌ {A = State} s ([], meaning q is)

pub text_start : (q : Quotes) (ts : List ℕ) → TextReached q ts ([], []) ts
text_start q ts = ([], refl, refl)

join_cuts : (q : Quotes) (ts : List ℕ) (is : List (Item Part)) (rest : List ℕ) (js : List (Item Part)) (more : List ℕ) → TextCuts q ts is rest → TextCuts q rest js more → TextCuts q ts (is ++ js) more
join_cuts q ts [] rest js more c d = subst (λ (xs : List ℕ). TextCuts q xs js more) (sym c) d
join_cuts q ts (i ∷ is) rest js more c d = (c.0, c.1, c.2, join_cuts q c.0 is rest js more c.3 d)

pub record TextStepped (q : Quotes) (ts rest : List ℕ) (t : State) (more : List ℕ) : Type 0 where
  pub reached : TextReached q ts t more
  pub shorter : length more < length rest

said_more : (front marks quotes part run : List ℕ) → marks ≡ quotes → (front ++ marks) ++ (part ++ run) ≡ front ++ ((quotes ++ part) ++ run)
said_more front marks quotes part run e = ap (λ xs. (front ++ xs) ++ (part ++ run)) e ∙ simp append_assoc

pub text_stepped : (q : Quotes) (ts : List ℕ) (s : State) (rest : List ℕ) (t : State) (more : List ℕ) → is_quote q.mark ≡ true → TextReached q ts s rest
    → ◌≡◌ {A = Said} (Some (t, more)) (text_item_says q s rest) → TextStepped q ts rest t more
text_stepped q ts s rest t more k h e =
    let n = lead q rest in
    let p : TextTook q (say s (take (lead q rest) rest)) (drop (lead q rest) rest) t more =
    subst (λ (o : Said). TextPartIs q (say s (take (lead q rest) rest)) (drop (lead q rest) rest) o) (sym e) (text_part_is q (say s (take (lead q rest) rest)) (drop (lead q rest) rest) k) in
    let i : Item Part = record { before = lead q rest; part = TextTook.first p } in
    let read : item_at part_at q rest ≡ Some (record { before = lead q rest; part = TextTook.first p }, TextTook.mid p) = ap (behind_quotes (lead q rest)) (TextTook.read p) in
    let f = (reads q k).found tt rest (record { before = lead q rest; part = TextTook.first p }) (TextTook.mid p) read in
    let some = (reads q k).some tt (record { before = lead q rest; part = TextTook.first p }) (TextTook.mid p) f.0 in
    let l = ap length f.1 ∙ length-append (spell q (record { before = lead q rest; part = TextTook.first p })) (TextTook.mid p) in
    let m = ap length (TextTook.rest p) ∙ length-append (TextTook.run p) more in
    let others = map bare (TextTook.run p) in
    let cuts : TextCuts q (TextTook.mid p) (map bare (TextTook.run p)) more = subst (λ (xs : List ℕ). TextCuts q xs (map bare (TextTook.run p)) more) (sym (TextTook.rest p)) (bare_cuts q (TextTook.run p) more (TextTook.each p)) in
    let one : TextCuts q rest (record { before = lead q rest; part = TextTook.first p } ∷ map bare (TextTook.run p)) more = (TextTook.mid p, f.0, f.1, cuts) in
    let pm = part_meaning q (TextTook.first p) in
    let all : meaning q h.0 ++ ((repeated (lead q rest) q.mark ++ part_meaning q (TextTook.first p)) ++ TextTook.run p) ≡ meaning q (h.0 ++ (record { before = lead q rest; part = TextTook.first p } ∷ map bare (TextTook.run p))) =
    sym (flat_map-append (item_meaning part_meaning q) h.0 (record { before = lead q rest; part = TextTook.first p } ∷ map bare (TextTook.run p))
    ∙ ap (λ xs. meaning q h.0 ++ ((repeated (lead q rest) q.mark ++ part_meaning q (TextTook.first p)) ++ xs)) (bare_says q (TextTook.run p))) in
    record {
      reached = (
        h.0 ++ (record { before = lead q rest; part = TextTook.first p } ∷ map bare (TextTook.run p)),
        join_cuts q ts h.0 rest (record { before = lead q rest; part = TextTook.first p } ∷ map bare (TextTook.run p)) more h.1 one,
        TextTook.state p
            ∙ (ap (λ (x : State). say (say x (take (lead q rest) rest)) (part_meaning q (TextTook.first p) ++ TextTook.run p)) h.2
            ∙ ap (λ (xs : List ℕ). ([], xs)) (said_more (meaning q h.0) (take (lead q rest) rest) (repeated (lead q rest) q.mark) (part_meaning q (TextTook.first p)) (TextTook.run p) (lead_taken q rest) ∙ all)),
      );
      shorter = omega (arith, l, m, some);
    }

text_none : (q : Quotes) (s : State) (ts : List ℕ) → is_quote q.mark ≡ true → ◌≡◌ {A = Said} None (text_item_says q s ts) → item_at part_at q ts ≡ None
text_none q s ts k e =
    let p : part_at q (drop (lead q ts) ts) ≡ None =
    subst (λ (o : Said). TextPartIs q (say s (take (lead q ts) ts)) (drop (lead q ts) ts) o) (sym e) (text_part_is q (say s (take (lead q ts) ts)) (drop (lead q ts) ts) k) in
    ap (behind_quotes (lead q ts)) p

items_read : (q : Quotes) (ts : List ℕ) (is : List (Item Part)) (rest : List ℕ) → is_quote q.mark ≡ true → TextCuts q ts is rest → item_at part_at q rest ≡ None
    → items_at part_at q ts ≡ with_items is (behind (side q) rest)
items_read q ts is rest k c stuck =
    let r = cuts_are_read (spell q) (Fits q) same (at q) (reads q k) (length ts) tt ts is rest c stuck (omega arith) in
    ap (λ (r : List (Item Part) × List ℕ). with_items r.0 (behind (side q) r.1)) r

pub text_failed : (q : Quotes) (ts : List ℕ) (s : State) (rest : List ℕ) → is_quote q.mark ≡ true → TextReached q ts s rest → behind (side q) rest ≡ None
    → ◌≡◌ {A = Said} None (text_item_says q s rest) → items_at part_at q ts ≡ None
text_failed q ts s rest k h open_still e = items_read q ts h.0 rest k h.1 (text_none q s rest k e) ∙ ap (with_items h.0) open_still

pub text_closed : (q : Quotes) (ts : List ℕ) (s : State) (rest more : List ℕ) → is_quote q.mark ≡ true → TextReached q ts s rest → behind (side q) rest ≡ Some more → TextRead q ts s.1 more
text_closed q ts s rest more k h e =
    let stuck : item_at part_at q rest ≡ None = ap (item_at part_at q) (behind_front (side q) rest more e) ∙ side_stuck q part_spelling (IsPart q) part_at (text_parts q k) more in
    record { items = h.0; read = items_read q ts h.0 rest k h.1 stuck ∙ ap (with_items h.0) e; says_is = ap (λ (x : State). x.1) h.2 }
