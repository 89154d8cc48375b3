-- The token that `next` gives is the longest at the front, and where it gives none no token begins.
use Rattle.std.proofs.Common.{◌≡◌, ℕ, ◌≤◌, Bool, true, false, cond, List, [], ◌∷◌, ◌++◌, length, Some, None, refl, sym, ap, subst, ◌∙◌, arith}
use Rattle.std.specs.Prelude.{not, ◌&&◌}
use Rattle.std.specs.List.{list_all, flat_map}
use Rattle.py_tree.specs.Names.{is_digit, continues_name, is_among}
use Rattle.lexical_form.specs.Bytes.{is_quote, starts}
use Rattle.lexical_form.specs.Reading.{Read, span}
use Rattle.lexical_form.specs.Numbers.{is_number}
use Rattle.lexical_form.specs.Tokens.{Token, token, name, number, text, f_text, mark, Pieces, spelling}
use Rattle.lexical_form.specs.Texts.{side, item_spelling, text_prefixes, is_before_third}
use Rattle.lexical_form.specs.Plain as plains
use Rattle.lexical_form.specs.Plain.{PlainKind, Plain, CanStandAs, LongestPlain, f_text_prefixes}
use Rattle.lexical_form.specs.PlainReader.{as_plain, text_at, before_quote, by_word, next_plain}
use Rattle.lexical_form.specs.FTexts.{FText, IsFText, f_part_spelling, f_text_spelling, token_of}
use Rattle.lexical_form.specs.FTextReader.{f_text_at}
use Rattle.lexical_form.specs.Longest.{Stands, Longest, NoToken}
use Rattle.lexical_form.specs.TokenReader.{some_plain, by_prefix, next}
use Rattle.lexical_form.proofs.Basics.{and_left, and_right, both, not_true, not_false, read_is, not_some}
use Rattle.lexical_form.proofs.Among.{among_all}
use Rattle.lexical_form.proofs.Spans.{span_runs, span_is}
use Rattle.lexical_form.proofs.PlainLaws.{plain, side_start, quote_stops}
use Rattle.lexical_form.proofs.PlainLongest.{no_longer, read_longest, none_stands, longest_read}
use Rattle.lexical_form.proofs.FTextLaws.{f_body, f_text_flat, f_token, f_quote_of, f_prefix_of, f_text_only, FTextFound, f_text_found}

-- at the prefix of an f-text and a quote no other token is read
no_plain : (word rest : List ℕ) → (is_among word f_text_prefixes && starts is_quote rest) ≡ true → by_word word rest ≡ None
no_plain [] rest h = let none : false ≡ true = and_left (is_among [] f_text_prefixes) (starts is_quote rest) h in absurd cc
no_plain (c ∷ cs) rest h =
    let among = and_left (is_among (c ∷ cs) f_text_prefixes) (starts is_quote rest) h in
    let quote = and_right (is_among (c ∷ cs) f_text_prefixes) (starts is_quote rest) h in
    let no_digit : is_digit c ≡ false = not_true (is_digit c) (among_all (starts (λ d. not (is_digit d))) (c ∷ cs) f_text_prefixes refl among) in
    let no_text : is_among (c ∷ cs) text_prefixes ≡ false = not_true (is_among (c ∷ cs) text_prefixes) (among_all (λ x. not (is_among x text_prefixes)) (c ∷ cs) f_text_prefixes refl among) in
    ap (λ b. cond {A = Read Plain} b (cond {A = Read Plain} (is_number (c ∷ cs)) (Some (plain plains.number (c ∷ cs), rest)) None) (cond {A = Read Plain} (starts is_quote rest) (before_quote (c ∷ cs) rest) (Some (plain plains.name (c ∷ cs), rest)))) no_digit
    ∙ (ap (λ b. cond {A = Read Plain} b (before_quote (c ∷ cs) rest) (Some (plain plains.name (c ∷ cs), rest))) quote
    ∙ (ap (λ b. cond {A = Read Plain} b (as_plain plains.text (text_at (c ∷ cs) true rest)) (cond {A = Read Plain} (is_among (c ∷ cs) f_text_prefixes) None (Some (plain plains.name (c ∷ cs), rest)))) no_text
    ∙ ap (λ b. cond {A = Read Plain} b None (Some (plain plains.name (c ∷ cs), rest))) among))

-- a token that holds no other
pub plain_next : (ts : List ℕ) (t : Plain) (rest : List ℕ) → next_plain ts ≡ Some (t, rest) → next ts ≡ Some (token_of t, rest)
plain_next ts t rest e = go (is_among (span continues_name ts).0 f_text_prefixes && starts is_quote (span continues_name ts).1) refl
  where
    go : (b : Bool) → (is_among (span continues_name ts).0 f_text_prefixes && starts is_quote (span continues_name ts).1) ≡ b → next ts ≡ Some (token_of t, rest)
    go true k = not_some (t, rest) (sym (no_plain (span continues_name ts).0 (span continues_name ts).1 k) ∙ e)
    go false k = ap (λ b. cond {A = Read Token} b (f_text_at (span continues_name ts).0 (span continues_name ts).1) (some_plain (next_plain ts))) k ∙ ap some_plain e

-- an f-text
pub f_next : (t : FText) (cs rest : List ℕ) → IsFText t → cs ≡ f_text_spelling t → is_before_third t.quotes t.items rest ≡ false → next (cs ++ rest) ≡ Some (f_token t, rest)
f_next t cs rest h e third =
    let k = f_quote_of t h in
    let among = f_prefix_of t h in
    let letters = among_all (list_all continues_name) t.prefix f_text_prefixes refl among in
    let start = λ (test : ℕ → Bool). side_start test t.quotes (flat_map (item_spelling f_part_spelling t.quotes) t.items ++ (side t.quotes ++ rest)) in
    let run = span_is continues_name t.prefix (f_body t rest) letters (start continues_name ∙ quote_stops t.quotes.mark k) in
    let yes : (is_among t.prefix f_text_prefixes && starts is_quote (f_body t rest)) ≡ true = both (is_among t.prefix f_text_prefixes) (starts is_quote (f_body t rest)) among (start is_quote ∙ k) in
    ap next (ap (λ xs. xs ++ rest) e ∙ f_text_flat t rest)
    ∙ (ap (λ (s : List ℕ × List ℕ). by_prefix s.0 s.1 (t.prefix ++ f_body t rest)) run
    ∙ (ap (λ b. cond {A = Read Token} b (f_text_at t.prefix (f_body t rest)) (some_plain (next_plain (t.prefix ++ f_body t rest)))) yes
    ∙ f_text_only t rest h third))

pub record NextFound (ts : List ℕ) (t : Token) (rest : List ℕ) : Type 0 where
  pub stands : Stands t rest
  pub front : ts ≡ spelling t ++ rest

stands_as : (k : PlainKind) (cs rest : List ℕ) → CanStandAs k cs rest → Stands (token_of (plain k cs)) rest
stands_as plains.name cs rest h = h
stands_as plains.number cs rest h = h
stands_as plains.text cs rest h = h
stands_as plains.mark cs rest h = h

plain_read : (ts : List ℕ) (r : Read Plain) (t : Token) (rest : List ℕ) → next_plain ts ≡ r → some_plain r ≡ Some (t, rest) → NextFound ts t rest
plain_read ts None t rest e f = not_some (t, rest) f
plain_read ts (Some p) t rest e f =
    let same = read_is {A = Token} (token_of p.0) t p.1 rest f in
    let l = read_longest ts p.0 p.1 e in
    subst (λ (x : Token). NextFound ts x rest) same.0
    (subst (λ (xs : List ℕ). NextFound ts (token_of p.0) xs) same.1 (record { stands = stands_as (Plain.kind p.0) (Plain.spelling p.0) p.1 l.stands; front = l.spelled }))

f_text_read : (ts prefix body : List ℕ) (t : Token) (rest : List ℕ) → ts ≡ prefix ++ body → FTextFound prefix body t rest → NextFound ts t rest
f_text_read ts prefix body t rest e f =
    subst (λ (x : Token). NextFound ts x rest) (sym f.same)
    (record { stands = (f.text, f.is, refl, refl, not_false (is_before_third f.text.quotes f.text.items rest) f.apart); front = e ∙ f.front })

pub next_found : (ts : List ℕ) (t : Token) (rest : List ℕ) → next ts ≡ Some (t, rest) → NextFound ts t rest
next_found ts t rest e = go (is_among (span continues_name ts).0 f_text_prefixes && starts is_quote (span continues_name ts).1) refl e
  where
    go : (b : Bool) → (is_among (span continues_name ts).0 f_text_prefixes && starts is_quote (span continues_name ts).1) ≡ b
        → cond {A = Read Token} b (f_text_at (span continues_name ts).0 (span continues_name ts).1) (some_plain (next_plain ts)) ≡ Some (t, rest) → NextFound ts t rest
    go true k f =
        let w = (span continues_name ts).0 in
        let b = (span continues_name ts).1 in
        let r = span_runs continues_name ts in
        f_text_read ts (span continues_name ts).0 (span continues_name ts).1 t rest r.front
        (f_text_found (span continues_name ts).0 (span continues_name ts).1 t rest (and_left (is_among (span continues_name ts).0 f_text_prefixes) (starts is_quote (span continues_name ts).1) k) (and_right (is_among (span continues_name ts).0 f_text_prefixes) (starts is_quote (span continues_name ts).1) k) f)
    go false k f = plain_read ts (next_plain ts) t rest refl f

-- no token at the front is longer than the one that is read
shorter_plain : (ts : List ℕ) (r : Read Plain) (t : Token) (rest : List ℕ) (k : PlainKind) (cs after : List ℕ) → next_plain ts ≡ r → next ts ≡ Some (t, rest) → CanStandAs k cs after → ts ≡ cs ++ after → length cs ≤ length (spelling t)
shorter_plain ts None t rest k cs after n e h f = absurd (none_stands ts n k cs after h f)
shorter_plain ts (Some p) t rest k cs after n e h f =
    let same = read_is {A = Token} (token_of p.0) t p.1 rest (sym (plain_next ts p.0 p.1 n) ∙ e) in
    subst (λ (x : Token). length cs ≤ length (spelling x)) same.0 (no_longer ts p.0 p.1 n k cs after h f)

pub no_longer_token : (ts : List ℕ) (t : Token) (rest : List ℕ) → next ts ≡ Some (t, rest) → (u : Token) (after : List ℕ) → Stands u after → ts ≡ spelling u ++ after → length (spelling u) ≤ length (spelling t)
no_longer_token ts t rest e (token name cs) after h f = shorter_plain ts (next_plain ts) t rest plains.name cs after refl e h f
no_longer_token ts t rest e (token number cs) after h f = shorter_plain ts (next_plain ts) t rest plains.number cs after refl e h f
no_longer_token ts t rest e (token text cs) after h f = shorter_plain ts (next_plain ts) t rest plains.text cs after refl e h f
no_longer_token ts t rest e (token mark cs) after h f = shorter_plain ts (next_plain ts) t rest plains.mark cs after refl e h f
no_longer_token ts t rest e (token (f_text ps) cs) after h f =
    let there : next ts ≡ Some (f_token h.0, after) = ap next f ∙ f_next h.0 cs after h.1 h.2 (not_true (is_before_third (FText.quotes h.0) (FText.items h.0) after) h.4) in
    let same = read_is {A = Token} t (f_token h.0) rest after (sym e ∙ there) in
    let n : length (spelling t) ≡ length cs = ap (λ (x : Token). length (spelling x)) same.0 ∙ ap length (sym h.2) in
    omega arith

-- a longest token, or none
abbrev pub Decided : List ℕ → Read Token → Type 0
Decided ts None = NoToken ts
Decided ts (Some p) = Longest ts p.0 p.1

never_plain : (ts : List ℕ) → next ts ≡ None → (r : Read Plain) → next_plain ts ≡ r → (k : PlainKind) (cs after : List ℕ) → CanStandAs k cs after → ts ≡ cs ++ after → ⊥
never_plain ts e None n k cs after h f = none_stands ts n k cs after h f
never_plain ts e (Some p) n k cs after h f = not_some (token_of p.0, p.1) (sym e ∙ plain_next ts p.0 p.1 n)

pub no_token : (ts : List ℕ) → next ts ≡ None → NoToken ts
no_token ts e (token name cs) after h f = never_plain ts e (next_plain ts) refl plains.name cs after h f
no_token ts e (token number cs) after h f = never_plain ts e (next_plain ts) refl plains.number cs after h f
no_token ts e (token text cs) after h f = never_plain ts e (next_plain ts) refl plains.text cs after h f
no_token ts e (token mark cs) after h f = never_plain ts e (next_plain ts) refl plains.mark cs after h f
no_token ts e (token (f_text ps) cs) after h f =
    not_some (f_token h.0, after) (sym e ∙ (ap next f ∙ f_next h.0 cs after h.1 h.2 (not_true (is_before_third (FText.quotes h.0) (FText.items h.0) after) h.4)))

decided : (ts : List ℕ) (r : Read Token) → next ts ≡ r → Decided ts r
decided ts None e = no_token ts e
decided ts (Some p) e =
    let f = next_found ts p.0 p.1 e in record { stands = f.stands; spelled = f.front; longest = no_longer_token ts p.0 p.1 e }

-- the token that `next` gives is the longest one; where it gives none, no token begins
pub next_decides : (ts : List ℕ) → Decided ts (next ts)
next_decides ts = decided ts (next ts) refl

pub next_longest : (ts : List ℕ) (t : Token) (rest : List ℕ) → next ts ≡ Some (t, rest) → Longest ts t rest
next_longest ts t rest e = decided ts (Some (t, rest)) e

-- and a longest one is what `next` gives
as_plain_longest : (ts : List ℕ) (k : PlainKind) (cs rest : List ℕ) → CanStandAs k cs rest → ts ≡ cs ++ rest
    → ((u : Token) (after : List ℕ) → Stands u after → ts ≡ spelling u ++ after → length (spelling u) ≤ length cs) → LongestPlain ts (plain k cs) rest
as_plain_longest ts k cs rest h e l = record { stands = h; spelled = e; longest = λ u after g f. l (token_of u) after (stands_as u.kind u.spelling after g) f }

pub longest_next : (ts : List ℕ) (t : Token) (rest : List ℕ) → Longest ts t rest → next ts ≡ Some (t, rest)
longest_next ts (token name cs) rest l = plain_next ts (plain plains.name cs) rest (longest_read ts (plain plains.name cs) rest (as_plain_longest ts plains.name cs rest l.stands l.spelled l.longest))
longest_next ts (token number cs) rest l = plain_next ts (plain plains.number cs) rest (longest_read ts (plain plains.number cs) rest (as_plain_longest ts plains.number cs rest l.stands l.spelled l.longest))
longest_next ts (token text cs) rest l = plain_next ts (plain plains.text cs) rest (longest_read ts (plain plains.text cs) rest (as_plain_longest ts plains.text cs rest l.stands l.spelled l.longest))
longest_next ts (token mark cs) rest l = plain_next ts (plain plains.mark cs) rest (longest_read ts (plain plains.mark cs) rest (as_plain_longest ts plains.mark cs rest l.stands l.spelled l.longest))
longest_next ts (token (f_text ps) cs) rest l =
    let h = l.stands in
    ap next l.spelled ∙ (f_next h.0 cs rest h.1 h.2 (not_true (is_before_third (FText.quotes h.0) (FText.items h.0) rest) h.4)
    ∙ (ap (λ (x : Pieces). Some (token (f_text x) (f_text_spelling h.0), rest)) (sym h.3) ∙ ap (λ (x : List ℕ). Some (token (f_text ps) x, rest)) (sym h.2)))
