-- Texts are read exactly as they are spelled.
use Rattle.std.proofs.Common.{◌≡◌, ℕ, Bool, true, false, cond, IsTrue, List, [], ◌∷◌, ◌++◌, length, take, drop, Some, None, refl, sym, ap, subst, ◌∙◌, append_assoc, arith}
use Rattle.std.specs.Prelude.{not, ◌==◌, ◌&&◌, ◌||◌, nat_le}
use Rattle.std.specs.List.{flat_map, list_all}
use Rattle.std.proofs.lemmas.Bool.{eq-eqb}
use Rattle.std.proofs.lemmas.Bool.Decides.{nat_tests}
use Rattle.std.proofs.lemmas.List.{take-append-drop}
use Rattle.std.proofs.Math.Seq.{take-append_seam, drop-append_seam}
use Rattle.lexical_form.specs.Bytes.{is_quote, starts}
use Rattle.lexical_form.specs.Reading.{Read}
use Rattle.lexical_form.specs.Texts.{Quotes, GoodItem, AreItems, Part, plain, escape, Item, Text, is_plain, further, is_meant, is_escape, is_part, is_item, part_spelling, item_spelling, most_before, side, is_text_prefix, is_text, text_spelling, is_before_third}
use Rattle.lexical_form.specs.TextReader.{escape_at, part_at, items_at, opening, behind_opening}
use Rattle.lexical_form.specs.PlainReader.{text_at, text_of}
use Rattle.lexical_form.proofs.Basics.{is_code, and_left, and_right, both, not_true, if_some, read_is, not_some}
use Rattle.lexical_form.proofs.Items.{PartReads, items_only, items_found, opened, enclosed}

pub not_slash : (m : ℕ) → is_quote m ≡ true → (92 == m) ≡ false
not_slash m h = grind (arith, nat_tests)

pub slash_not : (m : ℕ) → is_quote m ≡ true → (m == 92) ≡ false
slash_not m h = grind (arith, nat_tests)

pub itself : (m : ℕ) → (m == m) ≡ true
itself m = eq-eqb m m refl

abbrev pub IsPart : Quotes → Part → Type 0
IsPart q p = IsTrue (is_part q p)

pub record PartFound (q : Quotes) (ts : List ℕ) (p : Part) (more : List ℕ) : Type 0 where
  pub is : is_part q p ≡ true
  pub front : ts ≡ part_spelling p ++ more

pub escape_found : (q : Quotes) (cs : List ℕ) (p : Part) (more : List ℕ) → escape_at q cs ≡ Some (p, more) → PartFound q (92 ∷ cs) p more
escape_found q [] p more e = not_some (p, more) e
escape_found q (c ∷ cs) p more e =
    let h = if_some {A = Part × List ℕ} (is_escape q (c ∷ take (further q c) cs)) (Some (escape (c ∷ take (further q c) cs), drop (further q c) cs)) (p, more) e in
    let same = read_is {A = Part} (escape (c ∷ take (further q c) cs)) p (drop (further q c) cs) more h.1 in
    let front : (92 ∷ c ∷ cs) ≡ 92 ∷ c ∷ (take (further q c) cs ++ drop (further q c) cs) = ap (λ xs. 92 ∷ c ∷ xs) (sym (take-append-drop (further q c) cs)) in
    subst (λ (x : Part). PartFound q (92 ∷ c ∷ cs) x more) same.0
    (record { is = h.0; front = front ∙ ap (λ xs. 92 ∷ c ∷ (take (further q c) cs ++ xs)) same.1 })

plain_found : (q : Quotes) (c : ℕ) (cs : List ℕ) (p : Part) (more : List ℕ) → cond {A = Read Part} (is_plain q c) (Some (plain c, cs)) None ≡ Some (p, more) → PartFound q (c ∷ cs) p more
plain_found q c cs p more e =
    let h = if_some {A = Part × List ℕ} (is_plain q c) (Some (plain c, cs)) (p, more) e in
    let same = read_is {A = Part} (plain c) p cs more h.1 in
    subst (λ (x : Part). PartFound q (c ∷ cs) x more) same.0 (record { is = h.0; front = ap (λ xs. c ∷ xs) same.1 })

part_found : (q : Quotes) (ts : List ℕ) (p : Part) (more : List ℕ) → part_at q ts ≡ Some (p, more) → PartFound q ts p more
part_found q [] p more e = not_some (p, more) e
part_found q (c ∷ cs) p more e = go (c == 92) refl e
  where
    go : (b : Bool) → (c == 92) ≡ b → cond b (escape_at q cs) (cond {A = Read Part} (is_plain q c) (Some (plain c, cs)) None) ≡ Some (p, more) → PartFound q (c ∷ cs) p more
    go true k f = subst (λ x. PartFound q (x ∷ cs) p more) (sym (is_code c 92 k)) (escape_found q cs p more f)
    go false k f = plain_found q c cs p more f

pub escape_only : (q : Quotes) (cs more : List ℕ) → is_escape q cs ≡ true → escape_at q (cs ++ more) ≡ Some (escape cs, more)
escape_only q [] more h = let none : false ≡ true = h in absurd cc
escape_only q (c ∷ cs) more h =
    let l : length cs ≡ further q c = is_code (length cs) (further q c) (and_left (length cs == further q c) (q.three || not (c == 10)) (and_left ((length cs == further q c) && (q.three || not (c == 10))) (q.raw || is_meant c cs) h)) in
    let t : take (further q c) (cs ++ more) ≡ cs = ap (λ n. take n (cs ++ more)) (sym l) ∙ take-append_seam cs more in
    let d : drop (further q c) (cs ++ more) ≡ more = ap (λ n. drop n (cs ++ more)) (sym l) ∙ drop-append_seam cs more in
    ap (λ xs. cond {A = Read Part} (is_escape q (c ∷ xs)) (Some (escape (c ∷ xs), drop (further q c) (cs ++ more))) None) t
    ∙ (ap (λ xs. cond {A = Read Part} (is_escape q (c ∷ cs)) (Some (escape (c ∷ cs), xs)) None) d ∙ ap (λ b. cond {A = Read Part} b (Some (escape (c ∷ cs), more)) None) h)

pub plain_no_slash : (q : Quotes) (c : ℕ) → is_plain q c ≡ true → (c == 92) ≡ false
plain_no_slash q c h =
    not_true (c == 92) (and_right (not (c == q.mark)) (not (c == 92)) (and_left (not (c == q.mark) && not (c == 92)) (q.three || not (c == 10)) h))

part_only : (q : Quotes) (p : Part) (more : List ℕ) → is_part q p ≡ true → part_at q (part_spelling p ++ more) ≡ Some (p, more)
part_only q (plain c) more h =
    ap (λ b. cond b (escape_at q more) (cond {A = Read Part} (is_plain q c) (Some (plain c, more)) None)) (plain_no_slash q c h)
    ∙ ap (λ b. cond {A = Read Part} b (Some (plain c, more)) None) h
part_only q (escape cs) more h = escape_only q cs more h

pub part_apart : (q : Quotes) (p : Part) → is_quote q.mark ≡ true → is_part q p ≡ true → starts (λ c. not (c == q.mark)) (part_spelling p) ≡ true
part_apart q (plain c) k h = and_left (not (c == q.mark)) (not (c == 92)) (and_left (not (c == q.mark) && not (c == 92)) (q.three || not (c == 10)) h)
part_apart q (escape cs) k h = rw (not_slash q.mark k) refl

part_closes : (q : Quotes) (rest : List ℕ) → is_quote q.mark ≡ true → part_at q (q.mark ∷ rest) ≡ None
part_closes q rest k = rw (slash_not q.mark k) (rw (itself q.mark) refl)

pub text_parts : (q : Quotes) → is_quote q.mark ≡ true → PartReads q part_spelling (IsPart q) (part_at q)
text_parts q k = record {
  found = λ ts p more e. let f = part_found q ts p more e in (f.is, f.front);
  only = λ p more h. part_only q p more h;
  apart = λ p h. part_apart q p k h;
  closes = λ rest. part_closes q rest k;
}

-- items, as a test and as a fact
one_good : (q : Quotes) (i : Item Part) → is_item is_part q i ≡ true → GoodItem q (IsPart q) i
one_good q i h =
    let l : nat_le i.before (most_before q) ≡ true = and_left (nat_le i.before (most_before q)) (is_part q i.part) h in
    (grind (arith, nat_tests), and_right (nat_le i.before (most_before q)) (is_part q i.part) h)

pub are_good : (q : Quotes) (is : List (Item Part)) → list_all (is_item is_part q) is ≡ true → AreItems q (IsPart q) is
are_good q [] h = tt
are_good q (i ∷ is) h =
    (one_good q i (and_left (is_item is_part q i) (list_all (is_item is_part q) is) h), are_good q is (and_right (is_item is_part q i) (list_all (is_item is_part q) is) h))

good_one : (q : Quotes) (i : Item Part) → GoodItem q (IsPart q) i → is_item is_part q i ≡ true
good_one q i g = both (nat_le i.before (most_before q)) (is_part q i.part) (let l = g.0 in grind (arith, nat_tests)) g.1

pub good_are : (q : Quotes) (is : List (Item Part)) → AreItems q (IsPart q) is → list_all (is_item is_part q) is ≡ true
good_are q [] g = refl
good_are q (i ∷ is) g = both (is_item is_part q i) (list_all (is_item is_part q) is) (good_one q i g.0) (good_are q is g.1)

-- what comes behind a text's prefix
abbrev pub text_body : Text → List ℕ → List ℕ
text_body t rest = side t.quotes ++ (flat_map (item_spelling part_spelling t.quotes) t.items ++ (side t.quotes ++ rest))

pub text_flat : (t : Text) (rest : List ℕ) → text_spelling t ++ rest ≡ t.prefix ++ text_body t rest
text_flat t rest = simp append_assoc

pub quote_of : (t : Text) → is_text t ≡ true → is_quote t.quotes.mark ≡ true
quote_of t h = and_right (is_text_prefix t.prefix t.quotes.raw) (is_quote t.quotes.mark) (and_left (is_text_prefix t.prefix t.quotes.raw && is_quote t.quotes.mark) (list_all (is_item is_part t.quotes) t.items) h)

abbrev behind_mark : List ℕ → List ℕ → Quotes → Read (List ℕ)
behind_mark prefix more q = text_of prefix q (items_at part_at q (behind_opening q more))

pub text_only : (t : Text) (rest : List ℕ) → is_text t ≡ true → is_before_third t.quotes t.items rest ≡ false → text_at t.prefix t.quotes.raw (text_body t rest) ≡ Some (text_spelling t, rest)
text_only t rest h third =
    let q = t.quotes in
    let k : is_quote t.quotes.mark ≡ true = quote_of t h in
    let g = are_good t.quotes t.items (and_right (is_text_prefix t.prefix t.quotes.raw && is_quote t.quotes.mark) (list_all (is_item is_part t.quotes) t.items) h) in
    let parts = text_parts t.quotes k in
    let o = opened t.quotes part_spelling (IsPart t.quotes) parts.apart t.items rest g third in
    let items = items_only t.quotes part_spelling (IsPart t.quotes) part_at parts t.items rest g in
    ap (text_at t.prefix t.quotes.raw) o.front
    ∙ (ap (λ b. cond b (behind_mark t.prefix o.more (opening t.quotes.raw t.quotes.mark o.more)) None) k
    ∙ (ap (behind_mark t.prefix o.more) o.same
    ∙ (ap (λ xs. text_of t.prefix t.quotes (items_at part_at t.quotes xs)) o.inside
    ∙ ap (text_of t.prefix t.quotes) items)))

pub record TextFound (prefix : List ℕ) (ts cs rest : List ℕ) : Type 0 where
  pub text : Text
  pub is : is_text text ≡ true
  pub spelled : cs ≡ text_spelling text
  pub front : prefix ++ ts ≡ cs ++ rest
  pub apart : is_before_third text.quotes text.items rest ≡ false

items_text : (prefix : List ℕ) (raw : Bool) (m : ℕ) (ds : List ℕ) (r : Read (List (Item Part))) (cs rest : List ℕ) → is_text_prefix prefix raw ≡ true → is_quote m ≡ true
    → items_at part_at (opening raw m ds) (behind_opening (opening raw m ds) ds) ≡ r → text_of prefix (opening raw m ds) r ≡ Some (cs, rest) → TextFound prefix (m ∷ ds) cs rest
items_text prefix raw m ds None cs rest p k e f = not_some (cs, rest) f
items_text prefix raw m ds (Some r) cs rest p k e f =
    let q = opening raw m ds in
    let found = items_found (opening raw m ds) part_spelling (IsPart (opening raw m ds)) part_at (text_parts (opening raw m ds) k) (behind_opening (opening raw m ds) ds) r.0 r.1 e in
    let w = enclosed raw m ds part_spelling r.0 r.1 found.1 in
    let t : Text = record { prefix = prefix; quotes = opening raw m ds; items = r.0 } in
    let same = read_is {A = List ℕ} (text_spelling (record { prefix = prefix; quotes = opening raw m ds; items = r.0 })) cs r.1 rest f in
    subst (λ (xs : List ℕ). TextFound prefix (m ∷ ds) cs xs) same.1 (record {
      text = t;
      is = both (is_text_prefix prefix raw && is_quote m) (list_all (is_item is_part (opening raw m ds)) r.0) (both (is_text_prefix prefix raw) (is_quote m) p k) (good_are (opening raw m ds) r.0 found.0);
      spelled = sym same.0;
      front = ap (λ xs. prefix ++ xs) w.whole ∙ (sym (text_flat (record { prefix = prefix; quotes = opening raw m ds; items = r.0 }) r.1) ∙ ap (λ xs. xs ++ r.1) same.0);
      apart = w.apart;
    })

pub text_found : (prefix : List ℕ) (raw : Bool) (ts cs rest : List ℕ) → is_text_prefix prefix raw ≡ true → text_at prefix raw ts ≡ Some (cs, rest) → TextFound prefix ts cs rest
text_found prefix raw [] cs rest p e = not_some (cs, rest) e
text_found prefix raw (m ∷ ds) cs rest p e =
    let h = if_some {A = List ℕ × List ℕ} (is_quote m) (behind_mark prefix ds (opening raw m ds)) (cs, rest) e in
    items_text prefix raw m ds (items_at part_at (opening raw m ds) (behind_opening (opening raw m ds) ds)) cs rest p h.0 refl h.1
