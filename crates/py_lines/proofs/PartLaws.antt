-- What the code takes of an f-text is what its reader reads: parts.
use Rattle.std.proofs.Common.{◌≡◌, ℕ, Bool, true, false, cond, List, [], ◌∷◌, ◌++◌, length, take, drop, Option, Some, None, refl, sym, ap, subst, ◌∙◌, append_assoc, append-nil, arith}
use Rattle.std.specs.Prelude.{not, ◌==◌, ◌&&◌, ◌||◌, nat_le, map}
use Rattle.std.specs.List.{list_all}
use Rattle.std.proofs.lemmas.Bool.Decides.{nat_tests}
use Rattle.py_tree.specs.Names.{is_digit}
use Rattle.lexical_form.specs.Bytes.{is_quote, is_brace, starts}
use Rattle.lexical_form.specs.Cuts.{Cuts, state_after}
use Rattle.lexical_form.specs.Reading.{Read, span, cons_if}
use Rattle.lexical_form.specs.Tokens.{Piece}
use Rattle.lexical_form.specs.Texts.{Quotes, Part, plain, escape, Item, GoodItem, is_plain, is_meant, hex_digits, further, repeated, item_spelling}
use Rattle.lexical_form.specs.TextReader.{escape_at}
use Rattle.lexical_form.specs.Meaning.{meant, meant_byte, part_meaning}
use Rattle.lexical_form.specs.Fields.{Field}
use Rattle.lexical_form.specs.FieldReader.{field_at}
use Rattle.lexical_form.specs.FTexts.{FPart, of_text, brace, a_field, IsFPart, slash_if, f_part_spelling, f_part_characters, field_of, field_piece, characters_piece}
use Rattle.lexical_form.specs.FTextReader.{some_field, braced, some_part, f_part_at}
use Rattle.lexical_form.proofs.Basics.{and_left, and_right}
use Rattle.lexical_form.proofs.Spans.{span_runs}
use Rattle.py_lexer.proofs.EndLaws.{same_length}
use Rattle.py_lines.specs.FieldEnds.{piece_read}
use Rattle.py_lines.specs.Characters.{is_run_byte, meant_says, raw_says, wide_says, escape_says, say, Said, said, field_said, braced_says, slashed_says, run_said, part_says}

abbrev pub State : Type 0
State = List Piece × List ℕ

-- ---- the pieces behind a part and behind an item
abbrev pub with_field : List Piece → List ℕ → Option Field → State
with_field done front None = (done, front)
with_field done front (Some f) = (done ++ (characters_piece front ++ field_piece f ∷ []), [])

abbrev pub part_after : Quotes → State → FPart → State
part_after q s p = with_field s.0 (s.1 ++ f_part_characters q p) (field_of p)

abbrev pub pieces_after : Quotes → State → Item FPart → State
pieces_after q s i = with_field s.0 (s.1 ++ repeated i.before q.mark ++ f_part_characters q i.part) (field_of i.part)

abbrev pub ItemCuts : Quotes → List ℕ → List (Item FPart) → List ℕ → Type 0
ItemCuts q ts is rest = Cuts (item_spelling f_part_spelling q) (λ (s : Unit {0}) (i : Item FPart) (more : List ℕ). GoodItem q (IsFPart q) i) (λ (s : Unit {0}) (i : Item FPart). s) tt ts is rest

-- ---- runs of bytes that stand for themselves
abbrev pub itself : ℕ → Item FPart
itself c = record { before = 0; part = of_text (plain c) }

run_cuts : (q : Quotes) (xs rest : List ℕ) → list_all (is_run_byte q) xs ≡ true → ItemCuts q (xs ++ rest) (map itself xs) rest
run_cuts q [] rest h = refl
run_cuts q (x ∷ xs) rest h = (xs ++ rest, (omega arith, and_left (is_run_byte q x) (list_all (is_run_byte q) xs) h), refl, run_cuts q xs rest (and_right (is_run_byte q x) (list_all (is_run_byte q) xs) h))

run_state : (q : Quotes) (s : State) (xs : List ℕ) → ◌≡◌ {A = State} (state_after (pieces_after q) s (map itself xs)) (say s xs)
run_state q s [] = ap (λ (ys : List ℕ). (s.0, ys)) (sym (append-nil s.1))
run_state q s (x ∷ xs) =
    run_state q (s.0, (s.1 ++ []) ++ (x ∷ [])) xs
    ∙ ap (λ (ys : List ℕ). (s.0, ys)) (ap (λ zs. (zs ++ (x ∷ [])) ++ xs) (append-nil s.1) ∙ append_assoc s.1 (x ∷ []) xs)

pub say_twice : (s : State) (xs ys : List ℕ) → ◌≡◌ {A = State} (say (say s xs) ys) (say s (xs ++ ys))
say_twice s xs ys = ap (λ (zs : List ℕ). (s.0, zs)) (append_assoc s.1 xs ys)

say_nothing : (s : State) → ◌≡◌ {A = State} (say s []) s
say_nothing s = ap (λ (zs : List ℕ). (s.0, zs)) (append-nil s.1)

-- a run behind a first byte or escape
record Run (q : Quotes) (cs : List ℕ) (r : List ℕ × List ℕ) : Type 0 where
  items : List (Item FPart)
  cuts : ItemCuts q cs items r.1
  says : (s : State) → ◌≡◌ {A = State} (state_after (pieces_after q) s items) (say s r.0)

run_of : (q : Quotes) (cs : List ℕ) → Run q cs (span (is_run_byte q) cs)
run_of q cs =
    let r = span_runs (is_run_byte q) cs in
    let s = span (is_run_byte q) cs in
    record {
      items = map itself s.0;
      cuts = subst (λ ts. ItemCuts q ts (map itself s.0) s.1) (sym r.front) (run_cuts q s.0 s.1 r.each);
      says = λ t. run_state q t s.0;
    }

-- ---- what was taken is a part, and perhaps further bytes that stand for themselves
pub record PartTook (q : Quotes) (s : State) (ts : List ℕ) (t : State) (more : List ℕ) : Type 0 where
  pub first : FPart
  pub mid : List ℕ
  pub read : f_part_at q ts ≡ Some (first, mid)
  pub others : List (Item FPart)
  pub cuts : ItemCuts q mid others more
  pub state : t ≡ state_after (pieces_after q) (part_after q s first) others

abbrev pub PartIs : Quotes → State → List ℕ → Said → Type 0
PartIs q s ts None = f_part_at q ts ≡ None
PartIs q s ts (Some r) = PartTook q s ts r.0 r.1

-- ---- braces and fields
abbrev BracedIs : Quotes → State → Read FPart → Said → Type 0
BracedIs q s x None = x ≡ None
BracedIs q s x (Some r) = (p : FPart) × (x ≡ Some (p, r.1)) × ◌≡◌ {A = State} r.0 (part_after q s p)

braced_is : (q : Quotes) (s : State) (slash : Bool) (ts : List ℕ) → BracedIs q s (braced q slash ts) (braced_says q (say s (slash_if slash)) ts)
braced_is q s slash [] = refl
braced_is q s slash (c ∷ cs) = go (starts (λ d. d == c) cs) (c == 123)
  where
    within : (r : Read Field) → BracedIs q s (some_field slash r) (field_said (say s (slash_if slash)) (piece_read r))
    within None = refl
    within (Some f) = (a_field slash f.0, refl, refl)

    go : (a b : Bool) → BracedIs q s (cond {A = Read FPart} a (Some (brace slash c, drop 1 cs)) (cond {A = Read FPart} b (some_field slash (field_at q cs)) None))
        (cond {A = Said} a (Some (say (say s (slash_if slash)) (c ∷ []), drop 1 cs)) (cond {A = Said} b (field_said (say s (slash_if slash)) (piece_read (field_at q cs))) None))
    go true b = (brace slash c, refl, say_twice s (slash_if slash) (c ∷ []))
    go false true = within (field_at q cs)
    go false false = refl

braced_part : (q : Quotes) (s : State) (ts : List ℕ) (x : Read FPart) (o : Said) → f_part_at q ts ≡ x → BracedIs q s x o → PartIs q s ts o
braced_part q s ts x None e b = e ∙ b
braced_part q s ts x (Some r) e b = record { first = b.0; mid = r.1; read = e ∙ b.1; others = []; cuts = refl; state = b.2 }

-- ---- escapes
pub record EscapeTook (q : Quotes) (cs chars more : List ℕ) : Type 0 where
  pub part : Part
  pub mid : List ℕ
  pub read : escape_at q cs ≡ Some (part, mid)
  pub run : List ℕ
  pub each : list_all (is_run_byte q) run ≡ true
  pub rest : mid ≡ run ++ more
  pub says : chars ≡ part_meaning q part ++ run

abbrev pub EscapeIs : Quotes → List ℕ → Option (List ℕ × List ℕ) → Type 0
EscapeIs q cs None = escape_at q cs ≡ None
EscapeIs q cs (Some r) = EscapeTook q cs r.0 r.1

one_escape : (q : Quotes) (cs e chars more : List ℕ) → escape_at q cs ≡ Some (escape e, more) → part_meaning q (escape e) ≡ chars → EscapeTook q cs chars more
one_escape q cs e chars more h m = record {
  part = escape e;
  mid = more;
  read = h;
  run = [];
  each = refl;
  rest = refl;
  says = sym m ∙ sym (append-nil (part_meaning q (escape e)));
}

-- `escape_at` by what it asks
abbrev at_n : ℕ → List ℕ → ℕ → Bool → Bool → Read Part
at_n c cs n may ok = cond {A = Read Part} ((length (take n cs) == n) && may && ok) (Some (escape (c ∷ take n cs), drop n cs)) None

no_digits : (c : ℕ) → nat_le 128 c ≡ true → hex_digits c ≡ 0
no_digits c h =
    let x : (c == 120) ≡ false = grind (arith, nat_tests) in
    let u : (c == 117) ≡ false = grind (arith, nat_tests) in
    let w : (c == 85) ≡ false = grind (arith, nat_tests) in
    rw x (rw u (rw w refl))

wide_meant : (c : ℕ) → nat_le 128 c ≡ true → is_meant c [] ≡ true
wide_meant c h =
    let k = no_digits c h in
    let d : is_digit c ≡ false = grind (arith, nat_tests) in
    let n : (c == 78) ≡ false = grind (arith, nat_tests) in
    rw k (rw d (rw n refl))

wide_byte : (c : ℕ) → nat_le 128 c ≡ true → meant_byte c ≡ 92 ∷ c ∷ []
wide_byte c h =
    let a1 : (c == 110) ≡ false = grind (arith, nat_tests) in
    let a2 : (c == 114) ≡ false = grind (arith, nat_tests) in
    let a3 : (c == 116) ≡ false = grind (arith, nat_tests) in
    let a4 : (c == 97) ≡ false = grind (arith, nat_tests) in
    let a5 : (c == 98) ≡ false = grind (arith, nat_tests) in
    let a6 : (c == 102) ≡ false = grind (arith, nat_tests) in
    let a7 : (c == 118) ≡ false = grind (arith, nat_tests) in
    let a8 : (c == 92) ≡ false = grind (arith, nat_tests) in
    let a9 : (c == 39) ≡ false = grind (arith, nat_tests) in
    let b1 : (c == 34) ≡ false = grind (arith, nat_tests) in
    let b2 : (c == 10) ≡ false = grind (arith, nat_tests) in
    rw a1 (rw a2 (rw a3 (rw a4 (rw a5 (rw a6 (rw a7 (rw a8 (rw a9 (rw b1 (rw b2 refl))))))))))

wide_further : (q : Quotes) (c : ℕ) → nat_le 128 c ≡ true → further q c ≡ 0
wide_further q c h = go q.raw
  where
    go : (b : Bool) → cond b 0 (hex_digits c) ≡ 0
    go true = refl
    go false = no_digits c h

or_true : (a : Bool) → (a || true) ≡ true
or_true true = refl
or_true false = refl

wide_read : (q : Quotes) (c : ℕ) (cs : List ℕ) → nat_le 128 c ≡ true → escape_at q (c ∷ cs) ≡ Some (escape (c ∷ []), cs)
wide_read q c cs h =
    let no_end : (c == 10) ≡ false = grind (arith, nat_tests) in
    ap (λ n. at_n c cs n (q.three || not (c == 10)) (q.raw || is_meant c (take n cs))) (wide_further q c h)
    ∙ (ap (λ b. at_n c cs 0 (q.three || not b) (q.raw || is_meant c [])) no_end
    ∙ (ap (λ b. at_n c cs 0 b (q.raw || is_meant c [])) (or_true q.three)
    ∙ (ap (λ b. at_n c cs 0 true (q.raw || b)) (wide_meant c h)
    ∙ ap (at_n c cs 0 true) (or_true q.raw))))

wide_meaning : (q : Quotes) (c : ℕ) → nat_le 128 c ≡ true → part_meaning q (escape (c ∷ [])) ≡ 92 ∷ c ∷ []
wide_meaning q c h = go q.raw
  where
    go : (b : Bool) → cond {A = List ℕ} b (92 ∷ c ∷ []) (meant (c ∷ [])) ≡ 92 ∷ c ∷ []
    go true = refl
    go false = rw (no_digits c h) (wide_byte c h)

wide_run : (q : Quotes) (c : ℕ) → is_quote q.mark ≡ true → nat_le 128 c ≡ true → is_run_byte q c ≡ true
wide_run q c k h =
    let m : (c == q.mark) ≡ false = grind (arith, nat_tests) in
    let s : (c == 92) ≡ false = grind (arith, nat_tests) in
    let e : (c == 10) ≡ false = grind (arith, nat_tests) in
    let b : is_brace c ≡ false = grind (arith, nat_tests) in
    rw m (rw s (rw e (rw b (rw (or_true q.three) refl))))

wide_is : (q : Quotes) (c : ℕ) (cs : List ℕ) → is_quote q.mark ≡ true → nat_le 128 c ≡ true → EscapeIs q (c ∷ cs) (wide_says (span (is_run_byte q) (c ∷ cs)))
wide_is q c cs k h =
    let r = span_runs (is_run_byte q) cs in
    let whole : ◌≡◌ {A = List ℕ × List ℕ} (cons_if true c (span (is_run_byte q) cs) (c ∷ cs)) (span (is_run_byte q) (c ∷ cs)) =
    ap (λ b. cons_if b c (span (is_run_byte q) cs) (c ∷ cs)) (sym (wide_run q c k h)) in
    let took : EscapeTook q (c ∷ cs) (92 ∷ c ∷ (span (is_run_byte q) cs).0) (span (is_run_byte q) cs).1 = record {
      part = escape (c ∷ []);
      mid = cs;
      read = wide_read q c cs h;
      run = (span (is_run_byte q) cs).0;
      each = r.each;
      rest = r.front;
      says = ap (λ (xs : List ℕ). xs ++ (span (is_run_byte q) cs).0) (sym (wide_meaning q c h));
    } in
    subst (λ (x : List ℕ × List ℕ). EscapeIs q (c ∷ cs) (wide_says x)) whole took

with_digits : (q : Quotes) (c : ℕ) (cs e chars more : List ℕ) (a m : Bool) → escape_at q (c ∷ cs) ≡ cond {A = Read Part} (a && true && m) (Some (escape e, more)) None → part_meaning q (escape e) ≡ chars
    → EscapeIs q (c ∷ cs) (cond {A = Option (List ℕ × List ℕ)} (a && m) (Some (chars, more)) None)
with_digits q c cs e chars more true true h k = one_escape q (c ∷ cs) e chars more h k
with_digits q c cs e chars more true false h k = h
with_digits q c cs e chars more false m h k = h

narrow_is : (q : Quotes) (c : ℕ) (cs : List ℕ) (raw may : Bool) → q.raw ≡ raw → (q.three || not (c == 10)) ≡ may
    → EscapeIs q (c ∷ cs) (cond {A = Option (List ℕ × List ℕ)} may (cond {A = Option (List ℕ × List ℕ)} raw (Some (92 ∷ c ∷ [], cs)) (meant_says c cs)) None)
narrow_is q c cs raw false e f =
    ap (λ b. at_n c cs (further q c) b (q.raw || is_meant c (take (further q c) cs))) f ∙ never (length (take (further q c) cs) == further q c) (q.raw || is_meant c (take (further q c) cs))
  where
    never : (a b : Bool) → cond {A = Read Part} (a && false && b) (Some (escape (c ∷ take (further q c) cs), drop (further q c) cs)) None ≡ None
    never true b = refl
    never false b = refl
narrow_is q c cs true true e f =
    one_escape q (c ∷ cs) (c ∷ []) (92 ∷ c ∷ []) cs
    (ap (λ b. at_n c cs (further q c) b (q.raw || is_meant c (take (further q c) cs))) f
    ∙ ap (λ r. at_n c cs (cond r 0 (hex_digits c)) true (r || is_meant c (take (cond r 0 (hex_digits c)) cs))) e)
    (ap (λ r. cond {A = List ℕ} r (92 ∷ c ∷ []) (meant (c ∷ []))) e)
narrow_is q c cs false true e f =
    let k = hex_digits c in
    with_digits q c cs (c ∷ take (hex_digits c) cs) (meant (c ∷ take (hex_digits c) cs)) (drop (hex_digits c) cs) (nat_le (hex_digits c) (length cs)) (is_meant c (take (hex_digits c) cs))
    (ap (λ b. at_n c cs (further q c) b (q.raw || is_meant c (take (further q c) cs))) f
    ∙ (ap (λ r. at_n c cs (cond r 0 (hex_digits c)) true (r || is_meant c (take (cond r 0 (hex_digits c)) cs))) e
    ∙ ap (λ b. cond {A = Read Part} (b && true && is_meant c (take (hex_digits c) cs)) (Some (escape (c ∷ take (hex_digits c) cs), drop (hex_digits c) cs)) None) (same_length (hex_digits c) cs)))
    (ap (λ r. cond {A = List ℕ} r (92 ∷ c ∷ take (hex_digits c) cs) (meant (c ∷ take (hex_digits c) cs))) e)

pub escape_is : (q : Quotes) (ts : List ℕ) → is_quote q.mark ≡ true → EscapeIs q ts (escape_says q ts)
escape_is q [] k = refl
escape_is q (c ∷ cs) k = go (nat_le 128 c) refl
  where
    go : (b : Bool) → nat_le 128 c ≡ b → EscapeIs q (c ∷ cs) (cond {A = Option (List ℕ × List ℕ)} b (wide_says (span (is_run_byte q) (c ∷ cs))) (cond {A = Option (List ℕ × List ℕ)} (q.three || not (c == 10)) (raw_says q c cs) None))
    go true h = wide_is q c cs k h
    go false h = narrow_is q c cs q.raw (q.three || not (c == 10)) refl refl

escape_part : (q : Quotes) (s : State) (cs : List ℕ) (o : Option (List ℕ × List ℕ)) → EscapeIs q cs o → f_part_at q (92 ∷ cs) ≡ some_part (escape_at q cs) → PartIs q s (92 ∷ cs) (said s o)
escape_part q s cs None h e = e ∙ ap some_part h
escape_part q s cs (Some r) h e = record {
  first = of_text (EscapeTook.part h);
  mid = EscapeTook.mid h;
  read = e ∙ ap some_part (EscapeTook.read h);
  others = map itself (EscapeTook.run h);
  cuts = subst (λ (xs : List ℕ). ItemCuts q xs (map itself (EscapeTook.run h)) r.1) (sym (EscapeTook.rest h)) (run_cuts q (EscapeTook.run h) r.1 (EscapeTook.each h));
  state =
      ap (say s) (EscapeTook.says h)
      ∙ (sym (say_twice s (part_meaning q (EscapeTook.part h)) (EscapeTook.run h)) ∙ sym (run_state q (say s (part_meaning q (EscapeTook.part h))) (EscapeTook.run h)));
}

-- ---- any part
slashed_is : (q : Quotes) (s : State) (cs : List ℕ) → is_quote q.mark ≡ true → PartIs q s (92 ∷ cs) (slashed_says q s cs)
slashed_is q s cs k = go (starts is_brace cs) refl
  where
    go : (b : Bool) → starts is_brace cs ≡ b → PartIs q s (92 ∷ cs) (cond {A = Said} b (braced_says q (say s (92 ∷ [])) cs) (said s (escape_says q cs)))
    go true h = braced_part q s (92 ∷ cs) (braced q true cs) (braced_says q (say s (92 ∷ [])) cs) (ap (λ b. cond {A = Read FPart} b (braced q true cs) (some_part (escape_at q cs))) h) (braced_is q s true cs)
    go false h = escape_part q s cs (escape_says q cs) (escape_is q cs k) (ap (λ b. cond {A = Read FPart} b (braced q true cs) (some_part (escape_at q cs))) h)

run_is : (q : Quotes) (s : State) (c : ℕ) (cs : List ℕ) (b : Bool) → is_run_byte q c ≡ b → f_part_at q (c ∷ cs) ≡ cond {A = Read FPart} b (Some (of_text (plain c), cs)) None
    → PartIs q s (c ∷ cs) (run_said s (cons_if b c (span (is_run_byte q) cs) (c ∷ cs)))
run_is q s c cs false h e = e
run_is q s c cs true h e =
    let r = run_of q cs in
    record {
      first = of_text (plain c);
      mid = cs;
      read = e;
      others = Run.items r;
      cuts = Run.cuts r;
      state = sym (Run.says r (say s (c ∷ [])) ∙ say_twice s (c ∷ []) (span (is_run_byte q) cs).0);
    }

abbrev last : Quotes → ℕ → List ℕ → Read FPart
last q c cs = cond {A = Read FPart} (is_plain q c) (Some (of_text (plain c), cs)) None

abbrev slash_or : Quotes → ℕ → List ℕ → Bool → Read FPart
slash_or q c cs b = cond {A = Read FPart} b (cond {A = Read FPart} (starts is_brace cs) (braced q true cs) (some_part (escape_at q cs))) (last q c cs)

pub code_is : (c : ℕ) → (c == 92) ≡ true → 92 ≡ c
code_is c h = grind (arith, nat_tests)

pub part_is : (q : Quotes) (s : State) (ts : List ℕ) → is_quote q.mark ≡ true → PartIs q s ts (part_says q s ts)
part_is q s [] k = refl
part_is q s (c ∷ cs) k = go (is_brace c) refl
  where
    alone : is_brace c ≡ false → (c == 92) ≡ false → f_part_at q (c ∷ cs) ≡ cond {A = Read FPart} (is_run_byte q c) (Some (of_text (plain c), cs)) None
    alone h g =
        ap (λ b. cond {A = Read FPart} b (braced q false (c ∷ cs)) (slash_or q c cs (c == 92))) h
        ∙ (ap (slash_or q c cs) g ∙ ap (λ b. cond {A = Read FPart} b (Some (of_text (plain c), cs)) None) (sym (unbraced (is_plain q c) (is_brace c) h)))
      where
        unbraced : (a b : Bool) → b ≡ false → (a && not b) ≡ a
        unbraced true b e = rw e refl
        unbraced false b e = refl

    other : (b : Bool) → (c == 92) ≡ b → is_brace c ≡ false → PartIs q s (c ∷ cs) (cond {A = Said} b (slashed_says q s cs) (run_said s (span (is_run_byte q) (c ∷ cs))))
    other true g h = subst (λ x. PartIs q s (x ∷ cs) (slashed_says q s cs)) (code_is c g) (slashed_is q s cs k)
    other false g h = run_is q s c cs (is_run_byte q c) refl (alone h g)

    go : (b : Bool) → is_brace c ≡ b → PartIs q s (c ∷ cs) (cond {A = Said} b (braced_says q s (c ∷ cs)) (cond {A = Said} (c == 92) (slashed_says q s cs) (run_said s (span (is_run_byte q) (c ∷ cs)))))
    go true h =
        braced_part q s (c ∷ cs) (braced q false (c ∷ cs)) (braced_says q s (c ∷ cs)) (ap (λ b. cond {A = Read FPart} b (braced q false (c ∷ cs)) (slash_or q c cs (c == 92))) h)
        (subst (λ (x : State). BracedIs q s (braced q false (c ∷ cs)) (braced_says q x (c ∷ cs))) (say_nothing s) (braced_is q s false (c ∷ cs)))
    go false h = other (c == 92) refl h
