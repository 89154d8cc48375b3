-- A text whole, and what it says.
use Rattle.std.proofs.Common.{◌≡◌, ℕ, ◌-◌, Bool, true, false, cond, List, [], ◌∷◌, ◌++◌, length, Option, Some, None, refl, sym, ap, subst, ◌∙◌, append_assoc, append-nil, arith}
use Rattle.std.specs.Prelude.{not, ◌&&◌, ◌||◌, ◌==◌}
use Rattle.std.specs.List.{list_all, flat_map}
use Rattle.std.specs.Str.{IsUtf8}
use Rattle.std.proofs.lemmas.Bool.Decides.{nat_tests}
use Rattle.py_tree.specs.Names.{continues_name, is_among}
use Rattle.lexical_form.specs.Bytes.{is_empty, is_quote, starts}
use Rattle.lexical_form.specs.Reading.{span}
use Rattle.lexical_form.specs.Texts.{Quotes, Part, Item, Text, text_prefixes, is_text_prefix, is_text, is_item, is_part, part_spelling, item_spelling, text_spelling, side}
use Rattle.lexical_form.specs.TextReader.{part_at, items_at, opening, behind_opening}
use Rattle.lexical_form.proofs.Among.{among_all}
use Rattle.lexical_form.proofs.Basics.{and_left, and_right, both, if_some, read_is, not_some, not_true}
use Rattle.lexical_form.proofs.Spans.{Runs, span_runs, span_is}
use Rattle.lexical_form.proofs.Items.{items_found, items_only, opened}
use Rattle.lexical_form.proofs.PlainLaws.{side_start, quote_stops}
use Rattle.lexical_form.proofs.TextLaws.{IsPart, text_parts, are_good, good_are, text_flat, text_body, quote_of}
use Rattle.py_lexer.proofs.LastBytes.{quote_ascii, side_ends}
use Rattle.py_lines.specs.TextsSaid.{TextRead, text_opened_by, text_opened_says, TextOpens, Says, IsNoText}
use Rattle.py_lines.proofs.FTextCutLaws.{Cut, cut_at, opening_front}

prefix_good : (prefix : List ℕ) → (is_empty prefix || is_among prefix text_prefixes) ≡ true → is_text_prefix prefix (not (is_empty prefix)) ≡ true
prefix_good [] h = refl
prefix_good (c ∷ cs) h = h

opens_by : (ts word rest : List ℕ) (q : Quotes) (inside : List ℕ) → ts ≡ word ++ rest → text_opened_says ts ≡ text_opened_by word rest → text_opened_by word rest ≡ Some (q, inside) → TextOpens ts q inside
opens_by ts word [] q inside front n e = not_some (q, inside) e
opens_by ts word (m ∷ more) q inside front n e =
    let h = if_some {A = Quotes × List ℕ} ((is_empty word || is_among word text_prefixes) && is_quote m) (Some (opening (not (is_empty word)) m more, behind_opening (opening (not (is_empty word)) m more) more)) (q, inside) e in
    let same = read_is {A = Quotes} (opening (not (is_empty word)) m more) q (behind_opening (opening (not (is_empty word)) m more) more) inside h.1 in
    let here : TextOpens ts (opening (not (is_empty word)) m more) (behind_opening (opening (not (is_empty word)) m more) more) = record {
      prefix = word;
      front = front ∙ (ap (λ xs. word ++ xs) (opening_front (not (is_empty word)) m more) ∙ sym (append_assoc word (side (opening (not (is_empty word)) m more)) (behind_opening (opening (not (is_empty word)) m more) more)));
      quote = and_right (is_empty word || is_among word text_prefixes) (is_quote m) h.0;
      good = prefix_good word (and_left (is_empty word || is_among word text_prefixes) (is_quote m) h.0);
      opened = n ∙ (e ∙ sym h.1);
    } in
    subst (λ (x : Quotes). TextOpens ts x inside) same.0 (subst (λ (xs : List ℕ). TextOpens ts (opening (not (is_empty word)) m more) xs) same.1 here)

pub text_opens : (ts : List ℕ) (q : Quotes) (inside : List ℕ) → text_opened_says ts ≡ Some (q, inside) → TextOpens ts q inside
text_opens ts q inside e = opens_by ts (span continues_name ts).0 (span continues_name ts).1 q inside (Runs.front (span_runs continues_name ts)) refl e

pub text_opens_cut : (ts : List ℕ) (q : Quotes) (inside : List ℕ) (n : ℕ) → IsUtf8 ts → TextOpens ts q inside → n ≡ length ts - length inside → Cut ts n inside
text_opens_cut ts q inside n u o size = cut_at ts (TextOpens.prefix o ++ side q) inside n u (side_ends q (TextOpens.prefix o) (quote_ascii q.mark (TextOpens.quote o))) (TextOpens.front o) size

-- ---- found
flat_whole : (a b c d : List ℕ) → (a ++ b) ++ (c ++ (d ++ [])) ≡ a ++ b ++ c ++ d
flat_whole a b c d = ap (λ xs. (a ++ b) ++ (c ++ xs)) (append-nil d) ∙ sym (append_assoc (a ++ b) c d)

empty : (xs : List ℕ) → (length xs == 0) ≡ true → xs ≡ []
empty [] h = refl
empty (x ∷ xs) h = grind (arith, nat_tests)

pub text_says : (ts : List ℕ) (q : Quotes) (inside says rest : List ℕ) → TextOpens ts q inside → TextRead q inside says rest → (length rest == 0) ≡ true → Says ts says
text_says ts q inside says rest o r e =
    let read : items_at part_at q inside ≡ Some (TextRead.items r, []) = TextRead.read r ∙ ap (λ (xs : List ℕ). Some (TextRead.items r, xs)) (empty rest e) in
    let f = items_found q part_spelling (IsPart q) part_at (text_parts q (TextOpens.quote o)) inside (TextRead.items r) [] read in
    let good = both (is_text_prefix (TextOpens.prefix o) q.raw && is_quote q.mark) (list_all (is_item is_part q) (TextRead.items r)) (both (is_text_prefix (TextOpens.prefix o) q.raw) (is_quote q.mark) (TextOpens.good o) (TextOpens.quote o)) (good_are q (TextRead.items r) f.0) in (
      record { prefix = TextOpens.prefix o; quotes = q; items = TextRead.items r },
      good,
      TextOpens.front o ∙ (ap (λ xs. (TextOpens.prefix o ++ side q) ++ xs) f.1 ∙ flat_whole (TextOpens.prefix o) (side q) (flat_map (item_spelling part_spelling q) (TextRead.items r)) (side q)),
      TextRead.says_is r,
    )

-- ---- a text is found
prefix_names : (prefix : List ℕ) (raw : Bool) → is_text_prefix prefix raw ≡ true → list_all continues_name prefix ≡ true
prefix_names [] raw h = refl
prefix_names (c ∷ cs) raw h = among_all (list_all continues_name) (c ∷ cs) text_prefixes refl (and_right raw (is_among (c ∷ cs) text_prefixes) h)

prefix_tests : (prefix : List ℕ) (raw : Bool) → is_text_prefix prefix raw ≡ true → (is_empty prefix || is_among prefix text_prefixes) ≡ true
prefix_tests [] raw h = refl
prefix_tests (c ∷ cs) raw h = and_right raw (is_among (c ∷ cs) text_prefixes) h

prefix_raw : (prefix : List ℕ) (raw : Bool) → is_text_prefix prefix raw ≡ true → not (is_empty prefix) ≡ raw
prefix_raw [] raw h = sym (not_true raw h)
prefix_raw (c ∷ cs) raw h = sym (and_left raw (is_among (c ∷ cs) text_prefixes) h)

pub record Found (ts : List ℕ) (q : Quotes) (inside : List ℕ) : Type 0 where
  pub items : List (Item Part)
  pub read : items_at part_at q inside ≡ Some (items, [])

record Opened (ts : List ℕ) : Type 0 where
  quotes : Quotes
  inside : List ℕ
  opened_is : text_opened_says ts ≡ Some (quotes, inside)
  found : Found ts quotes inside

abbrev pair : Bool → ℕ → List ℕ → Quotes × List ℕ
pair raw m more = (opening raw m more, behind_opening (opening raw m more) more)

there : (t : Text) (ts : List ℕ) → is_text t ≡ true → ts ≡ text_spelling t → Opened ts
there t ts h e =
    let k = quote_of t h in
    let p = and_left (is_text_prefix t.prefix t.quotes.raw) (is_quote t.quotes.mark) (and_left (is_text_prefix t.prefix t.quotes.raw && is_quote t.quotes.mark) (list_all (is_item is_part t.quotes) t.items) h) in
    let g = are_good t.quotes t.items (and_right (is_text_prefix t.prefix t.quotes.raw && is_quote t.quotes.mark) (list_all (is_item is_part t.quotes) t.items) h) in
    let parts = text_parts t.quotes k in
    let o = opened t.quotes part_spelling (IsPart t.quotes) parts.apart t.items [] g (third t.quotes t.items) in
    let body = text_body t [] in
    let whole : ts ≡ t.prefix ++ text_body t [] = e ∙ (sym (append-nil (text_spelling t)) ∙ text_flat t []) in
    let stops : starts continues_name (text_body t []) ≡ false = side_start continues_name t.quotes (flat_map (item_spelling part_spelling t.quotes) t.items ++ (side t.quotes ++ [])) ∙ quote_stops t.quotes.mark k in
    let s : ◌≡◌ {A = List ℕ × List ℕ} (span continues_name ts) (t.prefix, text_body t []) = ap (span continues_name) whole ∙ span_is continues_name t.prefix (text_body t []) (prefix_names t.prefix t.quotes.raw p) stops in
    let says : text_opened_says ts ≡ text_opened_by t.prefix (t.quotes.mark ∷ o.more) = ap (λ (r : List ℕ × List ℕ). text_opened_by r.0 r.1) s ∙ ap (text_opened_by t.prefix) o.front in
    let tests : ((is_empty t.prefix || is_among t.prefix text_prefixes) && is_quote t.quotes.mark) ≡ true = both (is_empty t.prefix || is_among t.prefix text_prefixes) (is_quote t.quotes.mark) (prefix_tests t.prefix t.quotes.raw p) k in
    record {
      quotes = t.quotes;
      inside = flat_map (item_spelling part_spelling t.quotes) t.items ++ (side t.quotes ++ []);
      opened_is =
          says
          ∙ (ap (λ b. cond {A = Option (Quotes × List ℕ)} b (Some (pair (not (is_empty t.prefix)) t.quotes.mark o.more)) None) tests
          ∙ (ap (λ b. Some (pair b t.quotes.mark o.more)) (prefix_raw t.prefix t.quotes.raw p)
          ∙ (ap (λ (x : Quotes). Some (x, behind_opening x o.more)) o.same ∙ ap (λ (xs : List ℕ). Some (t.quotes, xs)) o.inside)));
      found = record { items = t.items; read = items_only t.quotes part_spelling (IsPart t.quotes) part_at parts t.items [] g };
    }
  where
    third : (q : Quotes) (is : List (Item Part)) → (not q.three && is_empty is && false) ≡ false
    third q is = go (not q.three && is_empty is)
      where
        go : (b : Bool) → (b && false) ≡ false
        go true = refl
        go false = refl

pub never_opened : (ts : List ℕ) → text_opened_says ts ≡ None → IsNoText ts
never_opened ts e = λ t h f. let o = there t ts h f in not_some (Opened.quotes o, Opened.inside o) (sym e ∙ Opened.opened_is o)

found_in : (ts : List ℕ) (q : Quotes) (inside : List ℕ) → TextOpens ts q inside → Opened ts → Found ts q inside
found_in ts q inside x o =
    let same = read_is {A = Quotes} (Opened.quotes o) q (Opened.inside o) inside (sym (Opened.opened_is o) ∙ TextOpens.opened x) in
    subst (λ (y : Quotes). Found ts y inside) same.0 (subst (λ (xs : List ℕ). Found ts (Opened.quotes o) xs) same.1 (Opened.found o))

pub never_read : (ts : List ℕ) (q : Quotes) (inside : List ℕ) → TextOpens ts q inside → items_at part_at q inside ≡ None → IsNoText ts
never_read ts q inside x e = λ t h f. let r = found_in ts q inside x (there t ts h f) in not_some (Found.items r, []) (sym e ∙ Found.read r)

pub more_behind : (ts : List ℕ) (q : Quotes) (inside says rest : List ℕ) → TextOpens ts q inside → TextRead q inside says rest → (length rest == 0) ≡ false → IsNoText ts
more_behind ts q inside says rest x r e = λ t h f.
    let g = found_in ts q inside x (there t ts h f) in
    let same = read_is {A = List (Item Part)} (TextRead.items r) (Found.items g) rest [] (sym (TextRead.read r) ∙ Found.read g) in
    let no_more : true ≡ false = sym (ap (λ (xs : List ℕ). length xs == 0) same.1) ∙ e in
    absurd cc
