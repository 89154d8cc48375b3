-- Tokens that hold no other tokens: what may stand at the front is what is read there.
use Rattle.std.proofs.Common.{◌≡◌, ℕ, Bool, true, false, cond, List, [], ◌∷◌, ◌++◌, Some, None, refl, sym, ap, subst, ◌∙◌, arith}
use Rattle.std.specs.Prelude.{not, ◌==◌, ◌&&◌, ◌||◌, nat_lt, ◌^◌}
use Rattle.std.specs.List.{flat_map, list_all}
use Rattle.std.proofs.lemmas.Bool.Decides.{nat_tests}
use Rattle.py_tree.specs.Names.{is_digit, begins_name, continues_name, is_spelled_name, is_among}
use Rattle.lexical_form.specs.Bytes.{is_quote, starts}
use Rattle.lexical_form.specs.Reading.{Read, span}
use Rattle.lexical_form.specs.Marks.{is_mark}
use Rattle.lexical_form.specs.MarkReader.{mark_at}
use Rattle.lexical_form.specs.Numbers.{number_of, are_digits, is_number}
use Rattle.lexical_form.specs.Texts.{Quotes, Text, side, text_prefixes, is_text_prefix, is_text, text_spelling, is_before_third, is_item, is_part, item_spelling, part_spelling}
use Rattle.lexical_form.specs.Plain.{PlainKind, name, number, text, mark, Plain, f_text_prefixes, is_prefix, can_be_name, CanStandAs}
use Rattle.lexical_form.specs.PlainReader.{as_plain, text_at, before_quote, by_word, next_plain}
use Rattle.lexical_form.proofs.Basics.{is_code, and_left, and_right, both, not_true, not_false, if_some, unless_some, read_is, not_some}
use Rattle.lexical_form.proofs.Among.{among_all}
use Rattle.lexical_form.proofs.Spans.{Runs, span_runs, span_is}
use Rattle.lexical_form.proofs.MarkLaws.{extends, begins_mark, mark_begins, mark_only, mark_found, longest_not_extended}
use Rattle.lexical_form.proofs.TextLaws.{text_body, text_flat, quote_of, text_only, text_found}

abbrev pub plain : PlainKind → List ℕ → Plain
plain k cs = record { kind = k; spelling = cs }

and_false : (a b : Bool) → (a && b) ≡ false → b ≡ true → a ≡ false
and_false true b h e = let none : true ≡ false = sym e ∙ h in absurd cc
and_false false b h e = refl

or_left : (a b : Bool) → (a || b) ≡ false → a ≡ false
or_left true b h = let none : true ≡ false = h in absurd cc
or_left false b h = refl

or_right : (a b : Bool) → (a || b) ≡ false → b ≡ false
or_right true b h = let none : true ≡ false = h in absurd cc
or_right false b h = h

nor : (a b : Bool) → b ≡ false → (a && b) ≡ false
nor true b h = h
nor false b h = refl

-- names
begins_no_number : (c : ℕ) → begins_name c ≡ true → is_digit c ≡ false
begins_no_number c h = grind (arith, nat_tests)

begins_goes_on : (c : ℕ) → begins_name c ≡ true → continues_name c ≡ true
begins_goes_on c h = rw h refl

digit_goes_on : (c : ℕ) → is_digit c ≡ true → continues_name c ≡ true
digit_goes_on c h = grind (arith, nat_tests)

name_as_quote : (cs rest : List ℕ) (b : Bool) → starts is_quote rest ≡ b → (is_prefix cs && starts is_quote rest) ≡ false
    → cond b (before_quote cs rest) (Some (plain name cs, rest)) ≡ Some (plain name cs, rest)
name_as_quote cs rest false e h = refl
name_as_quote cs rest true e h =
    let none : is_prefix cs ≡ false = and_false (is_prefix cs) (starts is_quote rest) h e in
    ap (λ b. cond {A = Read Plain} b (as_plain text (text_at cs true rest)) (cond {A = Read Plain} (is_among cs f_text_prefixes) None (Some (plain name cs, rest)))) (or_left (is_among cs text_prefixes) (is_among cs f_text_prefixes) none)
    ∙ ap (λ b. cond {A = Read Plain} b None (Some (plain name cs, rest))) (or_right (is_among cs text_prefixes) (is_among cs f_text_prefixes) none)

name_only : (cs rest : List ℕ) → can_be_name cs rest ≡ true → next_plain (cs ++ rest) ≡ Some (plain name cs, rest)
name_only [] rest h = let none : false ≡ true = h in absurd cc
name_only (c ∷ cs) rest h =
    let spelled = and_left (is_spelled_name (c ∷ cs)) (not (starts continues_name rest)) (and_left (is_spelled_name (c ∷ cs) && not (starts continues_name rest)) (not (is_prefix (c ∷ cs) && starts is_quote rest)) h) in
    let stops = not_true (starts continues_name rest) (and_right (is_spelled_name (c ∷ cs)) (not (starts continues_name rest)) (and_left (is_spelled_name (c ∷ cs) && not (starts continues_name rest)) (not (is_prefix (c ∷ cs) && starts is_quote rest)) h)) in
    let free = not_true (is_prefix (c ∷ cs) && starts is_quote rest) (and_right (is_spelled_name (c ∷ cs) && not (starts continues_name rest)) (not (is_prefix (c ∷ cs) && starts is_quote rest)) h) in
    let first = and_left (begins_name c) (list_all continues_name cs) spelled in
    let run = span_is continues_name (c ∷ cs) rest (both (continues_name c) (list_all continues_name cs) (begins_goes_on c first) (and_right (begins_name c) (list_all continues_name cs) spelled)) stops in
    ap (λ (s : List ℕ × List ℕ). by_word s.0 s.1) run
    ∙ (ap (λ b. cond {A = Read Plain} b (cond {A = Read Plain} (is_number (c ∷ cs)) (Some (plain number (c ∷ cs), rest)) None) (cond {A = Read Plain} (starts is_quote rest) (before_quote (c ∷ cs) rest) (Some (plain name (c ∷ cs), rest)))) (begins_no_number c first)
    ∙ name_as_quote (c ∷ cs) rest (starts is_quote rest) refl free)

-- numbers
digit_more : (b : Bool) (c : ℕ) (cs : List ℕ) (d : Bool) → is_digit c ≡ d → cond d (are_digits true cs) ((c == 95) && b && are_digits false cs) ≡ true
    → ((e : Bool) → are_digits e cs ≡ true → list_all continues_name cs ≡ true) → (continues_name c && list_all continues_name cs) ≡ true
digit_more b c cs true e k further = both (continues_name c) (list_all continues_name cs) (digit_goes_on c e) (further true k)
digit_more b c cs false e k further =
    let under = is_code c 95 (and_left (c == 95) b (and_left ((c == 95) && b) (are_digits false cs) k)) in
    both (continues_name c) (list_all continues_name cs) (ap continues_name under) (further false (and_right ((c == 95) && b) (are_digits false cs) k))

digits_go_on : (b : Bool) (cs : List ℕ) → are_digits b cs ≡ true → list_all continues_name cs ≡ true
digits_go_on b [] h = refl
digits_go_on b (c ∷ cs) h = digit_more b c cs (is_digit c) refl h (λ d k. digits_go_on d cs k)

first_digit : (c : ℕ) (cs : List ℕ) (d : Bool) → is_digit c ≡ d → cond d (are_digits true cs) ((c == 95) && false && are_digits false cs) ≡ true → is_digit c ≡ true
first_digit c cs true e k = e
first_digit c cs false e k =
    let none : false ≡ true = and_right (c == 95) false (and_left ((c == 95) && false) (are_digits false cs) k) in absurd cc

pub record Digits (cs : List ℕ) : Type 0 where
  pub first : starts is_digit cs ≡ true
  pub go_on : list_all continues_name cs ≡ true

pub number_digits : (cs : List ℕ) → is_number cs ≡ true → Digits cs
number_digits [] h = let none : false ≡ true = h in absurd cc
number_digits (c ∷ []) h = record { first = h; go_on = both (continues_name c) true (digit_goes_on c h) refl }
number_digits (c ∷ d ∷ ds) h =
    let all = and_left (are_digits false (c ∷ d ∷ ds)) (not (c == 48)) (and_left (are_digits false (c ∷ d ∷ ds) && not (c == 48)) (nat_lt (number_of (c ∷ d ∷ ds)) (2 ^ 127)) h) in
    record { first = first_digit c (d ∷ ds) (is_digit c) refl all; go_on = digits_go_on false (c ∷ d ∷ ds) all }

number_only : (cs rest : List ℕ) → (is_number cs && not (starts continues_name rest)) ≡ true → next_plain (cs ++ rest) ≡ Some (plain number cs, rest)
number_only [] rest h = let none : false ≡ true = h in absurd cc
number_only (c ∷ cs) rest h =
    let is = and_left (is_number (c ∷ cs)) (not (starts continues_name rest)) h in
    let stops = not_true (starts continues_name rest) (and_right (is_number (c ∷ cs)) (not (starts continues_name rest)) h) in
    let d = number_digits (c ∷ cs) is in
    ap (λ (s : List ℕ × List ℕ). by_word s.0 s.1) (span_is continues_name (c ∷ cs) rest d.go_on stops)
    ∙ (ap (λ b. cond {A = Read Plain} b (cond {A = Read Plain} (is_number (c ∷ cs)) (Some (plain number (c ∷ cs), rest)) None) (cond {A = Read Plain} (starts is_quote rest) (before_quote (c ∷ cs) rest) (Some (plain name (c ∷ cs), rest)))) d.first
    ∙ ap (λ b. cond {A = Read Plain} b (Some (plain number (c ∷ cs), rest)) None) is)

-- texts
pub side_start : (p : ℕ → Bool) (q : Quotes) (rest : List ℕ) → starts p (side q ++ rest) ≡ p q.mark
side_start p q rest = go q.three
  where
    go : (b : Bool) → starts p (cond b (q.mark ∷ q.mark ∷ q.mark ∷ []) (q.mark ∷ []) ++ rest) ≡ p q.mark
    go true = refl
    go false = refl

pub quote_stops : (m : ℕ) → is_quote m ≡ true → continues_name m ≡ false
quote_stops m h = grind (arith, nat_tests)

-- the prefix `cs` and the quotes behind it
prefixed : (cs : List ℕ) (raw : Bool) (body : List ℕ) (m : ℕ) → is_text_prefix cs raw ≡ true → starts continues_name body ≡ false → starts is_quote body ≡ true
    → next_plain (cs ++ body) ≡ as_plain text (text_at cs raw body)
prefixed [] raw body m p stops q =
    let plain_text : raw ≡ false = not_true raw p in
    ap (λ (s : List ℕ × List ℕ). by_word s.0 s.1) (span_is continues_name [] body refl stops)
    ∙ (ap (λ b. cond {A = Read Plain} b (as_plain text (text_at [] false body)) (as_plain mark (mark_at body))) q ∙ ap (λ b. as_plain text (text_at [] b body)) (sym plain_text))
prefixed (c ∷ cs) raw body m p stops q =
    let is_raw = and_left raw (is_among (c ∷ cs) text_prefixes) p in
    let among = and_right raw (is_among (c ∷ cs) text_prefixes) p in
    let letters = among_all (list_all continues_name) (c ∷ cs) text_prefixes refl among in
    let no_digit : is_digit c ≡ false = not_true (is_digit c) (among_all (starts (λ d. not (is_digit d))) (c ∷ cs) text_prefixes refl among) in
    ap (λ (s : List ℕ × List ℕ). by_word s.0 s.1) (span_is continues_name (c ∷ cs) body letters stops)
    ∙ (ap (λ b. cond {A = Read Plain} b (cond {A = Read Plain} (is_number (c ∷ cs)) (Some (plain number (c ∷ cs), body)) None) (cond {A = Read Plain} (starts is_quote body) (before_quote (c ∷ cs) body) (Some (plain name (c ∷ cs), body)))) no_digit
    ∙ (ap (λ b. cond {A = Read Plain} b (before_quote (c ∷ cs) body) (Some (plain name (c ∷ cs), body))) q
    ∙ (ap (λ b. cond {A = Read Plain} b (as_plain text (text_at (c ∷ cs) true body)) (cond {A = Read Plain} (is_among (c ∷ cs) f_text_prefixes) None (Some (plain name (c ∷ cs), body)))) among
    ∙ ap (λ b. as_plain text (text_at (c ∷ cs) b body)) (sym is_raw))))

text_here : (t : Text) (cs rest : List ℕ) → is_text t ≡ true → cs ≡ text_spelling t → is_before_third t.quotes t.items rest ≡ false → next_plain (cs ++ rest) ≡ Some (plain text cs, rest)
text_here t cs rest h e third =
    let q = t.quotes in
    let p = and_left (is_text_prefix t.prefix t.quotes.raw) (is_quote t.quotes.mark) (and_left (is_text_prefix t.prefix t.quotes.raw && is_quote t.quotes.mark) (list_all (is_item is_part t.quotes) t.items) h) in
    let k = quote_of t h in
    let start = λ (test : ℕ → Bool). side_start test t.quotes (flat_map (item_spelling part_spelling t.quotes) t.items ++ (side t.quotes ++ rest)) in
    ap next_plain (ap (λ xs. xs ++ rest) e ∙ text_flat t rest)
    ∙ (prefixed t.prefix t.quotes.raw (text_body t rest) t.quotes.mark p (start continues_name ∙ quote_stops t.quotes.mark k) (start is_quote ∙ k)
    ∙ (ap (as_plain text) (text_only t rest h third) ∙ ap (λ xs. Some (plain text xs, rest)) (sym e)))

-- marks
mark_here : (cs rest : List ℕ) → is_mark cs ≡ true → extends cs rest ≡ false → next_plain (cs ++ rest) ≡ Some (plain mark cs, rest)
mark_here [] rest h e = let none : false ≡ true = h in absurd cc
mark_here (c ∷ cs) rest h e =
    let b : begins_mark c ≡ true = mark_begins (c ∷ cs) h in
    let stops : continues_name c ≡ false = grind (arith, nat_tests) in
    let no_quote : is_quote c ≡ false = grind (arith, nat_tests) in
    ap (λ (s : List ℕ × List ℕ). by_word s.0 s.1) (span_is continues_name [] (c ∷ (cs ++ rest)) refl stops)
    ∙ (ap (λ b. cond {A = Read Plain} b (as_plain text (text_at [] false (c ∷ (cs ++ rest)))) (as_plain mark (mark_at (c ∷ (cs ++ rest))))) no_quote
    ∙ ap (as_plain mark) (mark_only (c ∷ cs) rest h e))

-- A token of this kind, directly before this text: as `CanStandAs`; and a mark that the text doesn't make longer.
abbrev pub LocalAs : PlainKind → List ℕ → List ℕ → Type 0
LocalAs name cs rest = CanStandAs name cs rest
LocalAs number cs rest = CanStandAs number cs rest
LocalAs text cs rest = CanStandAs text cs rest
LocalAs mark cs rest = (is_mark cs ≡ true) × (extends cs rest ≡ false)

pub plain_only : (k : PlainKind) (cs rest : List ℕ) → LocalAs k cs rest → next_plain (cs ++ rest) ≡ Some (plain k cs, rest)
plain_only name cs rest h = name_only cs rest h
plain_only number cs rest h = number_only cs rest h
plain_only text cs rest h = text_here h.0 cs rest h.1 h.2 (not_true (is_before_third (Text.quotes h.0) (Text.items h.0) rest) h.3)
plain_only mark cs rest h = mark_here cs rest h.0 h.1

-- what is read
pub record PlainFound (ts : List ℕ) (t : Plain) (rest : List ℕ) : Type 0 where
  pub stands : LocalAs t.kind t.spelling rest
  pub front : ts ≡ t.spelling ++ rest

text_read : (prefix : List ℕ) (raw : Bool) (body : List ℕ) (r : Read (List ℕ)) (t : Plain) (rest : List ℕ) → is_text_prefix prefix raw ≡ true → text_at prefix raw body ≡ r
    → as_plain text r ≡ Some (t, rest) → PlainFound (prefix ++ body) t rest
text_read prefix raw body None t rest p e f = not_some (t, rest) f
text_read prefix raw body (Some r) t rest p e f =
    let same = read_is {A = Plain} (plain text r.0) t r.1 rest f in
    let g = text_found prefix raw body r.0 r.1 p e in
    let is : is_text g.text ≡ true = g.is in
    subst (λ (x : Plain). PlainFound (prefix ++ body) x rest) same.0
    (subst (λ (xs : List ℕ). PlainFound (prefix ++ body) (plain text r.0) xs) same.1
    (record { stands = (g.text, g.is, g.spelled, not_false (is_before_third g.text.quotes g.text.items r.1) g.apart); front = g.front }))

mark_read : (ts : List ℕ) (r : Read (List ℕ)) (t : Plain) (rest : List ℕ) → mark_at ts ≡ r → as_plain mark r ≡ Some (t, rest) → PlainFound ts t rest
mark_read ts None t rest e f = not_some (t, rest) f
mark_read ts (Some r) t rest e f =
    let same = read_is {A = Plain} (plain mark r.0) t r.1 rest f in
    let g = mark_found ts r.0 r.1 e in
    subst (λ (x : Plain). PlainFound ts x rest) same.0
    (subst (λ (xs : List ℕ). PlainFound ts (plain mark r.0) xs) same.1 (record { stands = (g.is, longest_not_extended ts r.0 r.1 g); front = g.front }))

this_is : (ts : List ℕ) (k : PlainKind) (cs rest : List ℕ) (t : Plain) (after : List ℕ) → ◌≡◌ {A = Read Plain} (Some (plain k cs, rest)) (Some (t, after)) → LocalAs k cs rest → ts ≡ cs ++ rest → PlainFound ts t after
this_is ts k cs rest t after e h front =
    let same = read_is {A = Plain} (plain k cs) t rest after e in
    subst (λ (x : Plain). PlainFound ts x after) same.0 (subst (λ (xs : List ℕ). PlainFound ts (plain k cs) xs) same.1 (record { stands = h; front = front }))

name_read : (c : ℕ) (cs rest : List ℕ) → is_digit c ≡ false → list_all continues_name (c ∷ cs) ≡ true → starts continues_name rest ≡ false → (is_prefix (c ∷ cs) && starts is_quote rest) ≡ false
    → LocalAs name (c ∷ cs) rest
name_read c cs rest d each stops free =
    let goes : continues_name c ≡ true = and_left (continues_name c) (list_all continues_name cs) each in
    let first : begins_name c ≡ true = begins c (begins_name c) refl goes d in
    both (is_spelled_name (c ∷ cs) && not (starts continues_name rest)) (not (is_prefix (c ∷ cs) && starts is_quote rest))
    (both (is_spelled_name (c ∷ cs)) (not (starts continues_name rest)) (both (begins_name c) (list_all continues_name cs) first (and_right (continues_name c) (list_all continues_name cs) each)) (not_false (starts continues_name rest) stops))
    (not_false (is_prefix (c ∷ cs) && starts is_quote rest) free)
  where
    begins : (c : ℕ) (b : Bool) → begins_name c ≡ b → continues_name c ≡ true → is_digit c ≡ false → begins_name c ≡ true
    begins c true e h d = e
    begins c false e h d = absurd (let both_ways : (begins_name c || is_digit c) ≡ true = h in let none : false ≡ true = sym d ∙ (ap (λ b. b || is_digit c) (sym e) ∙ both_ways) in cc)

word_read : (c : ℕ) (cs rest : List ℕ) (t : Plain) (after : List ℕ) → list_all continues_name (c ∷ cs) ≡ true → starts continues_name rest ≡ false → by_word (c ∷ cs) rest ≡ Some (t, after) → PlainFound ((c ∷ cs) ++ rest) t after
word_read c cs rest t after each stops e = digit (is_digit c) refl e
  where
    raw_text : (b : Bool) → is_among (c ∷ cs) text_prefixes ≡ b → is_digit c ≡ false → starts is_quote rest ≡ true
        → cond {A = Read Plain} b (as_plain text (text_at (c ∷ cs) true rest)) (cond {A = Read Plain} (is_among (c ∷ cs) f_text_prefixes) None (Some (plain name (c ∷ cs), rest))) ≡ Some (t, after) → PlainFound ((c ∷ cs) ++ rest) t after
    raw_text true k d q f = text_read (c ∷ cs) true rest (text_at (c ∷ cs) true rest) t after k refl f
    raw_text false k d q f =
        let h = unless_some {A = Plain × List ℕ} (is_among (c ∷ cs) f_text_prefixes) (Some (plain name (c ∷ cs), rest)) (t, after) f in
        let none : is_prefix (c ∷ cs) ≡ false = ap (λ b. b || is_among (c ∷ cs) f_text_prefixes) k ∙ h.0 in
        this_is ((c ∷ cs) ++ rest) name (c ∷ cs) rest t after h.1 (name_read c cs rest d each stops (ap (λ b. b && starts is_quote rest) none)) refl

    quoted : (b : Bool) → starts is_quote rest ≡ b → is_digit c ≡ false → cond {A = Read Plain} b (before_quote (c ∷ cs) rest) (Some (plain name (c ∷ cs), rest)) ≡ Some (t, after) → PlainFound ((c ∷ cs) ++ rest) t after
    quoted true k d f = raw_text (is_among (c ∷ cs) text_prefixes) refl d k f
    quoted false k d f = this_is ((c ∷ cs) ++ rest) name (c ∷ cs) rest t after f (name_read c cs rest d each stops (nor (is_prefix (c ∷ cs)) (starts is_quote rest) k)) refl

    digit : (b : Bool) → is_digit c ≡ b → cond {A = Read Plain} b (cond {A = Read Plain} (is_number (c ∷ cs)) (Some (plain number (c ∷ cs), rest)) None) (cond {A = Read Plain} (starts is_quote rest) (before_quote (c ∷ cs) rest) (Some (plain name (c ∷ cs), rest))) ≡ Some (t, after)
        → PlainFound ((c ∷ cs) ++ rest) t after
    digit true k f =
        let h = if_some {A = Plain × List ℕ} (is_number (c ∷ cs)) (Some (plain number (c ∷ cs), rest)) (t, after) f in
        this_is ((c ∷ cs) ++ rest) number (c ∷ cs) rest t after h.1 (both (is_number (c ∷ cs)) (not (starts continues_name rest)) h.0 (not_false (starts continues_name rest) stops)) refl
    digit false k f = quoted (starts is_quote rest) refl k f

other_read : (rest : List ℕ) (t : Plain) (after : List ℕ) (b : Bool) → starts is_quote rest ≡ b → cond {A = Read Plain} b (as_plain text (text_at [] false rest)) (as_plain mark (mark_at rest)) ≡ Some (t, after) → PlainFound rest t after
other_read rest t after true k e = text_read [] false rest (text_at [] false rest) t after refl refl e
other_read rest t after false k e = mark_read rest (mark_at rest) t after refl e

split_read : (ts : List ℕ) (s : List ℕ × List ℕ) (t : Plain) (after : List ℕ) (front : List ℕ) → s.0 ≡ front → Runs continues_name ts s → by_word s.0 s.1 ≡ Some (t, after) → PlainFound ts t after
split_read ts s t after [] is r e =
    let same : ts ≡ s.1 = r.front ∙ ap (λ xs. xs ++ s.1) is in
    subst (λ xs. PlainFound xs t after) (sym same) (other_read s.1 t after (starts is_quote s.1) refl (ap (λ xs. by_word xs s.1) (sym is) ∙ e))
split_read ts s t after (c ∷ cs) is r e =
    let same : ts ≡ (c ∷ cs) ++ s.1 = r.front ∙ ap (λ xs. xs ++ s.1) is in
    subst (λ xs. PlainFound xs t after) (sym same) (word_read c cs s.1 t after (ap (list_all continues_name) (sym is) ∙ r.each) r.stops (ap (λ xs. by_word xs s.1) (sym is) ∙ e))

pub plain_found : (ts : List ℕ) (t : Plain) (rest : List ℕ) → next_plain ts ≡ Some (t, rest) → PlainFound ts t rest
plain_found ts t rest e = split_read ts (span continues_name ts) t rest (span continues_name ts).0 refl (span_runs continues_name ts) e
