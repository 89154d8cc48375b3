-- f-texts are read exactly as they are spelled.
use Rattle.std.proofs.Common.{◌≡◌, ℕ, Bool, true, false, cond, List, [], ◌∷◌, ◌++◌, drop, Some, None, refl, sym, ap, subst, ◌∙◌, append_assoc, arith}
use Rattle.std.specs.Prelude.{not, ◌==◌, ◌&&◌}
use Rattle.std.specs.List.{flat_map}
use Rattle.std.proofs.lemmas.Bool.Decides.{nat_tests}
use Rattle.py_tree.specs.Names.{is_among}
use Rattle.lexical_form.specs.Bytes.{is_quote, is_brace, starts}
use Rattle.lexical_form.specs.Reading.{Read}
use Rattle.lexical_form.specs.Tokens as tokens
use Rattle.lexical_form.specs.Tokens.{Token, pieces_of}
use Rattle.lexical_form.specs.Texts.{Quotes, Part, plain, escape, Item, is_part, part_spelling, is_plain, is_escape, item_spelling, side, is_before_third}
use Rattle.lexical_form.specs.TextReader.{escape_at, items_at, opening, behind_opening}
use Rattle.lexical_form.specs.Plain.{f_text_prefixes}
use Rattle.lexical_form.specs.Fields.{Field, IsField, field_text, field_tail, field_item_spelling}
use Rattle.lexical_form.specs.FieldReader.{field_at}
use Rattle.lexical_form.specs.FTexts.{FPart, of_text, brace, a_field, FText, is_unbraced, IsFPart, slash_if, f_part_spelling, has_r, same_bool, IsFText, f_text_spelling, f_text_pieces}
use Rattle.lexical_form.specs.FTextReader.{some_field, braced, some_part, f_part_at, f_text_of, f_text_at}
use Rattle.lexical_form.proofs.Basics.{is_code, and_left, and_right, both, not_true, not_false, if_some, read_is, not_some}
use Rattle.lexical_form.proofs.Items.{PartReads, items_only, items_found, opened, enclosed}
use Rattle.lexical_form.proofs.TextLaws.{escape_found, escape_only, plain_no_slash, part_apart, not_slash, slash_not, itself}
use Rattle.lexical_form.proofs.FieldLaws.{field_tests, field_only, field_found, Headed, field_tail_headed}

append_headed : (xs ys : List ℕ) → Headed ys → Headed (xs ++ ys)
append_headed [] ys h = h
append_headed (x ∷ xs) ys h = record { first = x; others = xs ++ ys; is = refl }

starts_headed : (p : ℕ → Bool) (xs more : List ℕ) → Headed xs → starts p (xs ++ more) ≡ starts p xs
starts_headed p xs more h = ap (λ ys. starts p (ys ++ more)) h.is ∙ ap (starts p) (sym h.is)

text_headed : (f : Field) → Headed (field_text f)
text_headed f = append_headed (flat_map field_item_spelling f.items) (field_tail f) (field_tail_headed f)

pub record FPartFound (q : Quotes) (ts : List ℕ) (p : FPart) (more : List ℕ) : Type 0 where
  pub is : IsFPart q p
  pub front : ts ≡ f_part_spelling p ++ more

second_is : (c : ℕ) (cs : List ℕ) → starts (λ d. d == c) cs ≡ true → cs ≡ c ∷ drop 1 cs
second_is c [] h = let none : false ≡ true = h in absurd cc
second_is c (d ∷ ds) h = ap (λ x. x ∷ ds) (is_code d c h)

slashed : (slash : Bool) (xs more : List ℕ) → slash_if slash ++ (xs ++ more) ≡ (slash_if slash ++ xs) ++ more
slashed slash xs more = sym (append_assoc (slash_if slash) xs more)

braced_found : (q : Quotes) (slash : Bool) (ts : List ℕ) (p : FPart) (more : List ℕ) → starts is_brace ts ≡ true → braced q slash ts ≡ Some (p, more) → FPartFound q (slash_if slash ++ ts) p more
braced_found q slash [] p more b e = not_some (p, more) e
braced_found q slash (c ∷ cs) p more b e = go (starts (λ d. d == c) cs) refl e
  where
    within : (r : Read Field) → field_at q cs ≡ r → c ≡ 123 → some_field slash r ≡ Some (p, more) → FPartFound q (slash_if slash ++ (c ∷ cs)) p more
    within None k n f = not_some (p, more) f
    within (Some r) k n f =
        let same = read_is {A = FPart} (a_field slash r.0) p r.1 more f in
        let g = field_found q cs r.0 r.1 k in
        subst (λ (x : FPart). FPartFound q (slash_if slash ++ (c ∷ cs)) x more) same.0
        (record { is = g.is; front = ap (λ x. slash_if slash ++ (x ∷ cs)) n ∙ (ap (λ xs. slash_if slash ++ (123 ∷ xs)) (g.front ∙ ap (λ xs. field_text r.0 ++ xs) same.1) ∙ slashed slash (123 ∷ field_text r.0) more) })

    go : (x : Bool) → starts (λ d. d == c) cs ≡ x → cond {A = Read FPart} x (Some (brace slash c, drop 1 cs)) (cond {A = Read FPart} (c == 123) (some_field slash (field_at q cs)) None) ≡ Some (p, more) → FPartFound q (slash_if slash ++ (c ∷ cs)) p more
    go true k f =
        let same = read_is {A = FPart} (brace slash c) p (drop 1 cs) more f in
        subst (λ (x : FPart). FPartFound q (slash_if slash ++ (c ∷ cs)) x more) same.0
        (record { is = b; front = ap (λ xs. slash_if slash ++ (c ∷ xs)) (second_is c cs k ∙ ap (λ xs. c ∷ xs) same.1) ∙ slashed slash (c ∷ c ∷ []) more })
    go false k f =
        let h = if_some {A = FPart × List ℕ} (c == 123) (some_field slash (field_at q cs)) (p, more) f in
        within (field_at q cs) refl (is_code c 123 h.0) h.1

first_of_escape : (q : Quotes) (e more cs : List ℕ) → is_escape q e ≡ true → (92 ∷ cs) ≡ 92 ∷ (e ++ more) → starts is_brace cs ≡ false → starts is_brace e ≡ false
first_of_escape q [] more cs h k b = refl
first_of_escape q (d ∷ ds) more cs h k b = let tail : cs ≡ d ∷ (ds ++ more) = cc in sym (ap (starts is_brace) tail) ∙ b

unbraced_part : (q : Quotes) (p : Part) (cs more : List ℕ) → is_part q p ≡ true → (92 ∷ cs) ≡ part_spelling p ++ more → starts is_brace cs ≡ false → is_unbraced p ≡ true
unbraced_part q (plain c) cs more h k b = let first : c ≡ 92 = cc in rw first refl
unbraced_part q (escape e) cs more h k b = not_false (starts is_brace e) (first_of_escape q e more cs h k b)

escape_part : (q : Quotes) (cs : List ℕ) (r : Read Part) (p : FPart) (more : List ℕ) → escape_at q cs ≡ r → starts is_brace cs ≡ false → some_part r ≡ Some (p, more) → FPartFound q (92 ∷ cs) p more
escape_part q cs None p more e b f = not_some (p, more) f
escape_part q cs (Some r) p more e b f =
    let same = read_is {A = FPart} (of_text r.0) p r.1 more f in
    let g = escape_found q cs r.0 r.1 e in
    subst (λ (x : FPart). FPartFound q (92 ∷ cs) x more) same.0
    (record { is = both (is_part q r.0) (is_unbraced r.0) g.is (unbraced_part q r.0 cs r.1 g.is g.front b); front = g.front ∙ ap (λ xs. part_spelling r.0 ++ xs) same.1 })

f_part_found : (q : Quotes) (ts : List ℕ) (p : FPart) (more : List ℕ) → f_part_at q ts ≡ Some (p, more) → FPartFound q ts p more
f_part_found q [] p more e = not_some (p, more) e
f_part_found q (c ∷ cs) p more e = go (is_brace c) refl e
  where
    behind : (x : Bool) → starts is_brace cs ≡ x → cond {A = Read FPart} x (braced q true cs) (some_part (escape_at q cs)) ≡ Some (p, more) → FPartFound q (92 ∷ cs) p more
    behind true k f = braced_found q true cs p more k f
    behind false k f = escape_part q cs (escape_at q cs) p more refl k f

    other : (x : Bool) → (c == 92) ≡ x → is_brace c ≡ false → cond {A = Read FPart} x (cond {A = Read FPart} (starts is_brace cs) (braced q true cs) (some_part (escape_at q cs))) (cond {A = Read FPart} (is_plain q c) (Some (of_text (plain c), cs)) None) ≡ Some (p, more) → FPartFound q (c ∷ cs) p more
    other true k b f = subst (λ x. FPartFound q (x ∷ cs) p more) (sym (is_code c 92 k)) (behind (starts is_brace cs) refl f)
    other false k b f =
        let h = if_some {A = FPart × List ℕ} (is_plain q c) (Some (of_text (plain c), cs)) (p, more) f in
        let same = read_is {A = FPart} (of_text (plain c)) p cs more h.1 in
        subst (λ (x : FPart). FPartFound q (c ∷ cs) x more) same.0 (record { is = both (is_plain q c) (not (is_brace c)) h.0 (not_false (is_brace c) b); front = ap (λ xs. c ∷ xs) same.1 })

    go : (x : Bool) → is_brace c ≡ x → cond {A = Read FPart} x (braced q false (c ∷ cs)) (cond {A = Read FPart} (c == 92) (cond {A = Read FPart} (starts is_brace cs) (braced q true cs) (some_part (escape_at q cs))) (cond {A = Read FPart} (is_plain q c) (Some (of_text (plain c), cs)) None)) ≡ Some (p, more) → FPartFound q (c ∷ cs) p more
    go true k f = braced_found q false (c ∷ cs) p more k f
    go false k f = other (c == 92) refl k f

-- only
slash_front : (q : Quotes) (ts : List ℕ) → starts is_brace ts ≡ true → f_part_at q (92 ∷ ts) ≡ braced q true ts
slash_front q ts h = ap (λ b. cond {A = Read FPart} b (braced q true ts) (some_part (escape_at q ts))) h

braced_twice : (q : Quotes) (slash : Bool) (c : ℕ) (more : List ℕ) → braced q slash (c ∷ c ∷ more) ≡ Some (brace slash c, more)
braced_twice q slash c more = ap (λ b. cond {A = Read FPart} b (Some (brace slash c, more)) (cond {A = Read FPart} (c == 123) (some_field slash (field_at q (c ∷ more))) None)) (itself c)

braced_field : (q : Quotes) (slash : Bool) (f : Field) (more : List ℕ) → IsField q f → braced q slash (123 ∷ (field_text f ++ more)) ≡ Some (a_field slash f, more)
braced_field q slash f more h =
    let t = field_tests q f h.0 in
    let apart : starts (λ d. d == 123) (field_text f ++ more) ≡ false = starts_headed (λ d. d == 123) (field_text f) more (text_headed f) ∙ t.apart in
    ap (λ b. cond {A = Read FPart} b (Some (brace slash 123, drop 1 (field_text f ++ more))) (some_field slash (field_at q (field_text f ++ more)))) apart
    ∙ ap (some_field slash) (field_only q f more h)

escape_unbraced : (q : Quotes) (e more : List ℕ) → is_escape q e ≡ true → starts is_brace e ≡ false → starts is_brace (e ++ more) ≡ false
escape_unbraced q [] more h b = let none : false ≡ true = h in absurd cc
escape_unbraced q (c ∷ cs) more h b = b

f_part_only : (q : Quotes) (p : FPart) (more : List ℕ) → IsFPart q p → f_part_at q (f_part_spelling p ++ more) ≡ Some (p, more)
f_part_only q (of_text (plain c)) more h =
    let is = and_left (is_plain q c) (not (is_brace c)) h in
    let no_brace = not_true (is_brace c) (and_right (is_plain q c) (not (is_brace c)) h) in
    let last = cond {A = Read FPart} (is_plain q c) (Some (of_text (plain c), more)) None in
    let middle = cond {A = Read FPart} (starts is_brace more) (braced q true more) (some_part (escape_at q more)) in
    ap (λ b. cond {A = Read FPart} b (braced q false (c ∷ more)) (cond {A = Read FPart} (c == 92) middle last)) no_brace
    ∙ (ap (λ b. cond {A = Read FPart} b middle last) (plain_no_slash q c is)
    ∙ ap (λ b. cond {A = Read FPart} b (Some (of_text (plain c), more)) None) is)
f_part_only q (of_text (escape e)) more h =
    let is = and_left (is_escape q e) (not (starts is_brace e)) h in
    let no_brace = not_true (starts is_brace e) (and_right (is_escape q e) (not (starts is_brace e)) h) in
    ap (λ b. cond {A = Read FPart} b (braced q true (e ++ more)) (some_part (escape_at q (e ++ more)))) (escape_unbraced q e more is no_brace)
    ∙ ap some_part (escape_only q e more is)
f_part_only q (brace false c) more h =
    ap (λ b. cond {A = Read FPart} b (braced q false (c ∷ c ∷ more)) (cond {A = Read FPart} (c == 92) (cond {A = Read FPart} (starts is_brace (c ∷ more)) (braced q true (c ∷ more)) (some_part (escape_at q (c ∷ more)))) (cond {A = Read FPart} (is_plain q c) (Some (of_text (plain c), c ∷ more)) None))) h
    ∙ braced_twice q false c more
f_part_only q (brace true c) more h = slash_front q (c ∷ c ∷ more) h ∙ braced_twice q true c more
f_part_only q (a_field false f) more h = braced_field q false f more h
f_part_only q (a_field true f) more h = slash_front q (123 ∷ (field_text f ++ more)) refl ∙ braced_field q true f more h

brace_no_quote : (c m : ℕ) → is_brace c ≡ true → is_quote m ≡ true → (c == m) ≡ false
brace_no_quote c m h k = grind (arith, nat_tests)

f_part_apart : (q : Quotes) (p : FPart) → is_quote q.mark ≡ true → IsFPart q p → starts (λ c. not (c == q.mark)) (f_part_spelling p) ≡ true
f_part_apart q (of_text p) k h = part_apart q p k (and_left (is_part q p) (is_unbraced p) h)
f_part_apart q (brace false c) k h = not_false (c == q.mark) (brace_no_quote c q.mark h k)
f_part_apart q (brace true c) k h = not_false (92 == q.mark) (not_slash q.mark k)
f_part_apart q (a_field false f) k h = not_false (123 == q.mark) (brace_no_quote 123 q.mark refl k)
f_part_apart q (a_field true f) k h = not_false (92 == q.mark) (not_slash q.mark k)

quote_no_brace : (m : ℕ) → is_quote m ≡ true → is_brace m ≡ false
quote_no_brace m h = grind (arith, nat_tests)

f_part_closes : (q : Quotes) (rest : List ℕ) → is_quote q.mark ≡ true → f_part_at q (q.mark ∷ rest) ≡ None
f_part_closes q rest k = rw (quote_no_brace q.mark k) (rw (slash_not q.mark k) (rw (itself q.mark) refl))

pub f_parts : (q : Quotes) → is_quote q.mark ≡ true → PartReads q f_part_spelling (IsFPart q) (f_part_at q)
f_parts q k = record {
  found = λ ts p more e. let f = f_part_found q ts p more e in (f.is, f.front);
  only = λ p more h. f_part_only q p more h;
  apart = λ p h. f_part_apart q p k h;
  closes = λ rest. f_part_closes q rest k;
}

-- f-texts whole
abbrev pub f_body : FText → List ℕ → List ℕ
f_body t rest = side t.quotes ++ (flat_map (item_spelling f_part_spelling t.quotes) t.items ++ (side t.quotes ++ rest))

pub f_text_flat : (t : FText) (rest : List ℕ) → f_text_spelling t ++ rest ≡ t.prefix ++ f_body t rest
f_text_flat t rest = simp append_assoc

abbrev pub f_token : FText → Token
f_token t = tokens.token (tokens.f_text (pieces_of (f_text_pieces t))) (f_text_spelling t)

abbrev Tests : FText → Bool
Tests t = is_among t.prefix f_text_prefixes && same_bool t.quotes.raw (has_r t.prefix) && is_quote t.quotes.mark

pub f_quote_of : (t : FText) → IsFText t → is_quote t.quotes.mark ≡ true
f_quote_of t h = and_right (is_among t.prefix f_text_prefixes && same_bool t.quotes.raw (has_r t.prefix)) (is_quote t.quotes.mark) h.0

pub f_prefix_of : (t : FText) → IsFText t → is_among t.prefix f_text_prefixes ≡ true
f_prefix_of t h = and_left (is_among t.prefix f_text_prefixes) (same_bool t.quotes.raw (has_r t.prefix)) (and_left (is_among t.prefix f_text_prefixes && same_bool t.quotes.raw (has_r t.prefix)) (is_quote t.quotes.mark) h.0)

bool_is : (a b : Bool) → same_bool a b ≡ true → b ≡ a
bool_is true b h = h
bool_is false b h = not_true b h

f_raw_of : (t : FText) → IsFText t → has_r t.prefix ≡ t.quotes.raw
f_raw_of t h = bool_is t.quotes.raw (has_r t.prefix) (and_right (is_among t.prefix f_text_prefixes) (same_bool t.quotes.raw (has_r t.prefix)) (and_left (is_among t.prefix f_text_prefixes && same_bool t.quotes.raw (has_r t.prefix)) (is_quote t.quotes.mark) h.0))

abbrev f_behind : List ℕ → List ℕ → Quotes → Read Token
f_behind prefix more q = f_text_of prefix q (items_at f_part_at q (behind_opening q more))

pub f_text_only : (t : FText) (rest : List ℕ) → IsFText t → is_before_third t.quotes t.items rest ≡ false → f_text_at t.prefix (f_body t rest) ≡ Some (f_token t, rest)
f_text_only t rest h third =
    let k = f_quote_of t h in
    let parts = f_parts t.quotes k in
    let o = opened t.quotes f_part_spelling (IsFPart t.quotes) parts.apart t.items rest h.1 third in
    let items = items_only t.quotes f_part_spelling (IsFPart t.quotes) f_part_at parts t.items rest h.1 in
    ap (f_text_at t.prefix) o.front
    ∙ (ap (λ b. f_behind t.prefix o.more (opening b t.quotes.mark o.more)) (f_raw_of t h)
    ∙ (ap (f_behind t.prefix o.more) o.same
    ∙ (ap (λ xs. f_text_of t.prefix t.quotes (items_at f_part_at t.quotes xs)) o.inside
    ∙ ap (f_text_of t.prefix t.quotes) items)))

pub record FTextFound (prefix : List ℕ) (ts : List ℕ) (t : Token) (rest : List ℕ) : Type 0 where
  pub text : FText
  pub is : IsFText text
  pub same : t ≡ f_token text
  pub front : prefix ++ ts ≡ f_text_spelling text ++ rest
  pub apart : is_before_third text.quotes text.items rest ≡ false

same_itself : (a : Bool) → same_bool a a ≡ true
same_itself true = refl
same_itself false = refl

f_items_text : (prefix : List ℕ) (m : ℕ) (ds : List ℕ) (r : Read (List (Item FPart))) (t : Token) (rest : List ℕ) → is_among prefix f_text_prefixes ≡ true → is_quote m ≡ true
    → items_at f_part_at (opening (has_r prefix) m ds) (behind_opening (opening (has_r prefix) m ds) ds) ≡ r → f_text_of prefix (opening (has_r prefix) m ds) r ≡ Some (t, rest) → FTextFound prefix (m ∷ ds) t rest
f_items_text prefix m ds None t rest p k e f = not_some (t, rest) f
f_items_text prefix m ds (Some r) t rest p k e f =
    let q = opening (has_r prefix) m ds in
    let found = items_found (opening (has_r prefix) m ds) f_part_spelling (IsFPart (opening (has_r prefix) m ds)) f_part_at (f_parts (opening (has_r prefix) m ds) k) (behind_opening (opening (has_r prefix) m ds) ds) r.0 r.1 e in
    let w = enclosed (has_r prefix) m ds f_part_spelling r.0 r.1 found.1 in
    let x : FText = record { prefix = prefix; quotes = opening (has_r prefix) m ds; items = r.0 } in
    let same = read_is {A = Token} (f_token (record { prefix = prefix; quotes = opening (has_r prefix) m ds; items = r.0 })) t r.1 rest f in
    subst (λ (xs : List ℕ). FTextFound prefix (m ∷ ds) t xs) same.1 (record {
      text = x;
      is = (both (is_among prefix f_text_prefixes && same_bool (has_r prefix) (has_r prefix)) (is_quote m) (both (is_among prefix f_text_prefixes) (same_bool (has_r prefix) (has_r prefix)) p (same_itself (has_r prefix))) k, found.0);
      same = sym same.0;
      front = ap (λ xs. prefix ++ xs) w.whole ∙ sym (f_text_flat (record { prefix = prefix; quotes = opening (has_r prefix) m ds; items = r.0 }) r.1);
      apart = w.apart;
    })

pub f_text_found : (prefix ts : List ℕ) (t : Token) (rest : List ℕ) → is_among prefix f_text_prefixes ≡ true → starts is_quote ts ≡ true → f_text_at prefix ts ≡ Some (t, rest) → FTextFound prefix ts t rest
f_text_found prefix [] t rest p k e = not_some (t, rest) e
f_text_found prefix (m ∷ ds) t rest p k e = f_items_text prefix m ds (items_at f_part_at (opening (has_r prefix) m ds) (behind_opening (opening (has_r prefix) m ds) ds)) t rest p k refl e
