-- Of the tokens that hold no other tokens, the one that is read is the longest.
use Rattle.std.proofs.Common.{◌≡◌, ℕ, ◌≤◌, Bool, true, false, cond, List, [], ◌∷◌, ◌++◌, length, Some, None, refl, sym, ap, subst, ◌∙◌, append_assoc, length-append, arith}
use Rattle.std.specs.Prelude.{not, ◌==◌, ◌&&◌}
use Rattle.std.specs.List.{list_all, flat_map}
use Rattle.std.proofs.lemmas.Bool.Decides.{nat_tests}
use Rattle.py_tree.specs.Names.{is_digit, begins_name, continues_name, is_spelled_name, is_among}
use Rattle.lexical_form.specs.Bytes.{is_quote, starts}
use Rattle.lexical_form.specs.Reading.{Read}
use Rattle.lexical_form.specs.Marks.{is_mark}
use Rattle.lexical_form.specs.MarkReader.{mark_at}
use Rattle.lexical_form.specs.Numbers.{is_number}
use Rattle.lexical_form.specs.Texts.{Quotes, Text, side, item_spelling, part_spelling, text_prefixes, is_text_prefix, is_text, text_spelling, is_item, is_part}
use Rattle.lexical_form.specs.Plain.{PlainKind, name, number, text, mark, Plain, is_prefix, CanStandAs, LongestPlain}
use Rattle.lexical_form.specs.PlainReader.{as_plain, text_at, by_word, next_plain}
use Rattle.lexical_form.proofs.Basics.{and_left, and_right, read_is, not_some}
use Rattle.lexical_form.proofs.Among.{among_all}
use Rattle.lexical_form.proofs.Spans.{span_is}
use Rattle.lexical_form.proofs.MarkLaws.{extends, begins_mark, mark_begins, mark_decides, Found as MarkDecided, mark_found}
use Rattle.lexical_form.proofs.TextLaws.{quote_of}
use Rattle.lexical_form.proofs.PlainLaws.{plain, LocalAs, plain_only, plain_found, side_start, number_digits}

pub local_stands : (k : PlainKind) (cs rest : List ℕ) → LocalAs k cs rest → CanStandAs k cs rest
local_stands name cs rest h = h
local_stands number cs rest h = h
local_stands text cs rest h = h
local_stands mark cs rest h = h.0

-- where a mark begins, a mark is read
pub mark_first : (u after : List ℕ) → is_mark u ≡ true → next_plain (u ++ after) ≡ as_plain mark (mark_at (u ++ after))
mark_first [] after h = let none : false ≡ true = h in absurd cc
mark_first (c ∷ cs) after h =
    let b : begins_mark c ≡ true = mark_begins (c ∷ cs) h in
    let stops : continues_name c ≡ false = grind (arith, nat_tests) in
    let no_quote : is_quote c ≡ false = grind (arith, nat_tests) in
    ap (λ (s : List ℕ × List ℕ). by_word s.0 s.1) (span_is continues_name [] (c ∷ (cs ++ after)) refl stops)
    ∙ ap (λ b. cond {A = Read Plain} b (as_plain text (text_at [] false (c ∷ (cs ++ after)))) (as_plain mark (mark_at (c ∷ (cs ++ after))))) no_quote

mark_longest : (ts u after : List ℕ) (r : Read (List ℕ)) (t : Plain) (rest : List ℕ) → is_mark u ≡ true → ts ≡ u ++ after → mark_at ts ≡ r → as_plain mark r ≡ Some (t, rest) → length u ≤ length t.spelling
mark_longest ts u after None t rest h e f g = not_some (t, rest) g
mark_longest ts u after (Some r) t rest h e f g =
    let same = read_is {A = Plain} (plain mark r.0) t r.1 rest g in
    let found = mark_found ts r.0 r.1 f in
    subst (λ (x : Plain). length u ≤ length x.spelling) same.0 (found.longest u after h e)

same_read : (ts : List ℕ) (t : Plain) (rest : List ℕ) (k : PlainKind) (cs after : List ℕ) → next_plain ts ≡ Some (t, rest) → LocalAs k cs after → ts ≡ cs ++ after → length cs ≤ length t.spelling
same_read ts t rest k cs after e h f =
    let there : next_plain ts ≡ Some (plain k cs, after) = ap next_plain f ∙ plain_only k cs after h in
    let same = read_is {A = Plain} t (plain k cs) rest after (sym e ∙ there) in
    let n : length t.spelling ≡ length cs = ap (λ (x : Plain). length x.spelling) same.0 in
    omega arith

pub no_longer : (ts : List ℕ) (t : Plain) (rest : List ℕ) → next_plain ts ≡ Some (t, rest) → (k : PlainKind) (cs after : List ℕ) → CanStandAs k cs after → ts ≡ cs ++ after → length cs ≤ length t.spelling
no_longer ts t rest e name cs after h f = same_read ts t rest name cs after e h f
no_longer ts t rest e number cs after h f = same_read ts t rest number cs after e h f
no_longer ts t rest e text cs after h f = same_read ts t rest text cs after e h f
no_longer ts t rest e mark cs after h f =
    let there : next_plain ts ≡ as_plain mark (mark_at ts) = ap next_plain f ∙ (mark_first cs after h ∙ ap (λ xs. as_plain mark (mark_at xs)) (sym f)) in
    mark_longest ts cs after (mark_at ts) t rest h f refl (sym there ∙ e)

pub read_longest : (ts : List ℕ) (t : Plain) (rest : List ℕ) → next_plain ts ≡ Some (t, rest) → LongestPlain ts t rest
read_longest ts t rest e =
    let f = plain_found ts t rest e in
    record { stands = local_stands t.kind t.spelling rest f.stands; spelled = f.front; longest = λ u after h g. no_longer ts t rest e u.kind u.spelling after h g }

-- where nothing is read, none may stand
pub none_stands : (ts : List ℕ) → next_plain ts ≡ None → (k : PlainKind) (cs after : List ℕ) → CanStandAs k cs after → ts ≡ cs ++ after → ⊥
none_stands ts e name cs after h f = not_some (plain name cs, after) (sym e ∙ (ap next_plain f ∙ plain_only name cs after h))
none_stands ts e number cs after h f = not_some (plain number cs, after) (sym e ∙ (ap next_plain f ∙ plain_only number cs after h))
none_stands ts e text cs after h f = not_some (plain text cs, after) (sym e ∙ (ap next_plain f ∙ plain_only text cs after h))
none_stands ts e mark cs after h f = go (mark_at ts) refl
  where
    go : (r : Read (List ℕ)) → mark_at ts ≡ r → ⊥
    go None k = let never : (u rest : List ℕ) → is_mark u ≡ true → ts ≡ u ++ rest → ⊥ = subst (λ r. MarkDecided ts r) k (mark_decides ts) in never cs after h f
    go (Some r) k =
        let there : next_plain ts ≡ as_plain mark (mark_at ts) = ap next_plain f ∙ (mark_first cs after h ∙ ap (λ xs. as_plain mark (mark_at xs)) (sym f)) in
        not_some (plain mark r.0, r.1) (sym e ∙ (there ∙ ap (as_plain mark) k))

-- A longest one is what is read.
longest_local_as : (ts : List ℕ) (k : PlainKind) (cs rest : List ℕ) → LongestPlain ts (plain k cs) rest → LocalAs k cs rest
longest_local_as ts name cs rest l = l.stands
longest_local_as ts number cs rest l = l.stands
longest_local_as ts text cs rest l = l.stands
longest_local_as ts mark cs rest l = (l.stands, go rest l.spelled)
  where
    go : (more : List ℕ) → ts ≡ cs ++ more → extends cs more ≡ false
    go [] e = refl
    go (c ∷ ds) e = further (is_mark (cs ++ c ∷ [])) refl
      where
        further : (b : Bool) → is_mark (cs ++ c ∷ []) ≡ b → is_mark (cs ++ c ∷ []) ≡ false
        further false f = f
        further true f =
            let front : ts ≡ (cs ++ c ∷ []) ++ ds = e ∙ sym (append_assoc cs (c ∷ []) ds) in
            let n = l.longest (plain mark (cs ++ c ∷ [])) ds f front in
            absurd (omega (arith, n, length-append cs (c ∷ [])))

pub longest_local : (ts : List ℕ) (t : Plain) (rest : List ℕ) → LongestPlain ts t rest → LocalAs t.kind t.spelling rest
longest_local ts t rest l = longest_local_as ts t.kind t.spelling rest l

pub longest_read : (ts : List ℕ) (t : Plain) (rest : List ℕ) → LongestPlain ts t rest → next_plain ts ≡ Some (t, rest)
longest_read ts t rest l = ap next_plain l.spelled ∙ plain_only t.kind t.spelling rest (longest_local ts t rest l)

pub local_longest : (t : Plain) (rest : List ℕ) → LocalAs t.kind t.spelling rest → LongestPlain (t.spelling ++ rest) t rest
local_longest t rest h = read_longest (t.spelling ++ rest) t rest (plain_only t.kind t.spelling rest h)

-- only the first byte behind a token decides
pub local_other : (k : PlainKind) (cs : List ℕ) (c : ℕ) (more other : List ℕ) → LocalAs k cs (c ∷ more) → LocalAs k cs (c ∷ other)
local_other name cs c more other h = h
local_other number cs c more other h = h
local_other text cs c more other h = h
local_other mark cs c more other h = h

-- the first byte of a token begins nothing else
abbrev pub begins_token : ℕ → Bool
begins_token c = not (c == 32) && not (c == 9) && not (c == 10) && not (c == 35)

name_begins : (cs : List ℕ) → is_spelled_name cs ≡ true → starts begins_token cs ≡ true
name_begins [] h = h
name_begins (c ∷ cs) h = let b = and_left (begins_name c) (list_all continues_name cs) h in grind (arith, nat_tests)

digit_begins : (cs : List ℕ) → starts is_digit cs ≡ true → starts begins_token cs ≡ true
digit_begins [] h = h
digit_begins (c ∷ cs) h = grind (arith, nat_tests)

mark_token : (cs : List ℕ) → starts begins_mark cs ≡ true → starts begins_token cs ≡ true
mark_token [] h = h
mark_token (c ∷ cs) h = let b : begins_mark c ≡ true = h in grind (arith, nat_tests)

quote_begins : (c : ℕ) → is_quote c ≡ true → begins_token c ≡ true
quote_begins c h = grind (arith, nat_tests)

text_apart : (t : Text) → text_spelling t ≡ t.prefix ++ (side t.quotes ++ (flat_map (item_spelling part_spelling t.quotes) t.items ++ side t.quotes))
text_apart t = simp append_assoc

prefix_begins : (p : List ℕ) (raw : Bool) (q : Quotes) (rest : List ℕ) → is_text_prefix p raw ≡ true → is_quote q.mark ≡ true → starts begins_token (p ++ (side q ++ rest)) ≡ true
prefix_begins [] raw q rest h k = side_start begins_token q rest ∙ quote_begins q.mark k
prefix_begins (c ∷ cs) raw q rest h k = among_all (starts begins_token) (c ∷ cs) text_prefixes refl (and_right raw (is_among (c ∷ cs) text_prefixes) h)

text_begins : (t : Text) → is_text t ≡ true → starts begins_token (text_spelling t) ≡ true
text_begins t h =
    let p = and_left (is_text_prefix t.prefix t.quotes.raw) (is_quote t.quotes.mark) (and_left (is_text_prefix t.prefix t.quotes.raw && is_quote t.quotes.mark) (list_all (is_item is_part t.quotes) t.items) h) in
    ap (starts begins_token) (text_apart t) ∙ prefix_begins t.prefix t.quotes.raw t.quotes (flat_map (item_spelling part_spelling t.quotes) t.items ++ side t.quotes) p (quote_of t h)

pub stands_begins : (k : PlainKind) (cs rest : List ℕ) → CanStandAs k cs rest → starts begins_token cs ≡ true
stands_begins name cs rest h = name_begins cs (and_left (is_spelled_name cs) (not (starts continues_name rest)) (and_left (is_spelled_name cs && not (starts continues_name rest)) (not (is_prefix cs && starts is_quote rest)) h))
stands_begins number cs rest h = let d = number_digits cs (and_left (is_number cs) (not (starts continues_name rest)) h) in digit_begins cs d.first
stands_begins text cs rest h = ap (starts begins_token) h.2 ∙ text_begins h.0 h.1
stands_begins mark cs rest h = mark_token cs (mark_begins cs h)
