-- Fields are read exactly as they are spelled.
use Rattle.std.proofs.Common.{◌≡◌, ℕ, ◌<◌, Bool, true, false, cond, List, [], ◌∷◌, ◌++◌, length, Option, Some, None, refl, sym, ap, subst, ◌∙◌, append_assoc, arith}
use Rattle.std.specs.Prelude.{not, ◌==◌, ◌&&◌}
use Rattle.std.specs.List.{list_any, flat_map}
use Rattle.std.proofs.lemmas.Bool.Decides.{nat_tests}
use Rattle.lexical_form.specs.Reading.{Read, read_all}
use Rattle.lexical_form.specs.Cuts.{Cuts, state_after}
use Rattle.lexical_form.specs.Bytes.{starts, is_empty}
use Rattle.lexical_form.specs.Tokens.{Convert, as_is, repr, str}
use Rattle.lexical_form.specs.Texts.{Quotes}
use Rattle.lexical_form.specs.Plain.{mark, Plain, LongestPlain}
use Rattle.lexical_form.specs.PlainReader.{next_plain}
use Rattle.lexical_form.specs.Formats.{Format, format_spelling}
use Rattle.lexical_form.specs.FormatReader.{format_at}
use Rattle.lexical_form.specs.Fields.{FieldItem, plain_token, blank, Field, is_blank, field_item_spelling, convert_spelling, optional_format, field_tail, field_text, may_come, FieldFits, open_behind, is_plain_token, is_inside, if_format, is_field, IsField}
use Rattle.lexical_form.specs.FieldReader.{field_token, field_item_at, convert_in, convert_at, some_format, format_in, checked_field, closed_field, with_format, field_at}
use Rattle.lexical_form.proofs.Basics.{is_code, and_left, and_right, not_true, if_some, read_is, not_some}
use Rattle.lexical_form.proofs.Runs.{Reads, cuts_are_read, read_is_cut, cuts_flat, cuts_other, FirstDecides}
use Rattle.lexical_form.proofs.PlainLaws.{plain_only}
use Rattle.lexical_form.proofs.PlainLongest.{read_longest, longest_read, longest_local, local_longest, local_other, begins_token, stands_begins}
use Rattle.lexical_form.proofs.MarkLaws.{extends}
use Rattle.lexical_form.proofs.FormatLaws.{format_only, format_found}

-- one item
item_found : (opened : List ℕ) (r : Read Plain) (ts : List ℕ) (p : FieldItem) (more : List ℕ) → next_plain ts ≡ r → field_token opened r ≡ Some (p, more) → FieldFits opened p more × (ts ≡ field_item_spelling p ++ more)
item_found opened None ts p more e f = not_some (p, more) f
item_found opened (Some r) ts p more e f =
    let h = if_some {A = FieldItem × List ℕ} (may_come opened (Plain.spelling r.0)) (Some (plain_token r.0, r.1)) (p, more) f in
    let same = read_is {A = FieldItem} (plain_token r.0) p r.1 more h.1 in
    let l = read_longest ts r.0 r.1 e in
    let here : LongestPlain (Plain.spelling r.0 ++ r.1) r.0 r.1 = subst (λ xs. LongestPlain xs r.0 r.1) l.spelled l in
    subst (λ (x : FieldItem). FieldFits opened x more × (ts ≡ field_item_spelling x ++ more)) same.0
    (subst (λ (xs : List ℕ). FieldFits opened (plain_token r.0) xs × (ts ≡ Plain.spelling r.0 ++ xs)) same.1 ((here, h.0), l.spelled))

pub field_item_found : (opened ts : List ℕ) (p : FieldItem) (more : List ℕ) → field_item_at opened ts ≡ Some (p, more) → FieldFits opened p more × (ts ≡ field_item_spelling p ++ more)
field_item_found opened [] p more e = not_some (p, more) e
field_item_found opened (c ∷ cs) p more e = go (is_blank c) refl e
  where
    go : (b : Bool) → is_blank c ≡ b → cond {A = Read FieldItem} b (Some (blank c, cs)) (field_token opened (next_plain (c ∷ cs))) ≡ Some (p, more) → FieldFits opened p more × ((c ∷ cs) ≡ field_item_spelling p ++ more)
    go true k f =
        let same = read_is {A = FieldItem} (blank c) p cs more f in
        subst (λ (x : FieldItem). FieldFits opened x more × ((c ∷ cs) ≡ field_item_spelling x ++ more)) same.0 (k, ap (λ xs. c ∷ xs) same.1)
    go false k f = item_found opened (next_plain (c ∷ cs)) (c ∷ cs) p more refl f

no_blank : (c : ℕ) → begins_token c ≡ true → is_blank c ≡ false
no_blank c h = grind (arith, nat_tests)

token_front : (opened ts : List ℕ) → starts begins_token ts ≡ true → field_item_at opened ts ≡ field_token opened (next_plain ts)
token_front opened [] h = let none : false ≡ true = h in absurd cc
token_front opened (c ∷ cs) h = ap (λ b. cond {A = Read FieldItem} b (Some (blank c, cs)) (field_token opened (next_plain (c ∷ cs)))) (no_blank c h)

starts_front : (p : ℕ → Bool) (ts more : List ℕ) → starts p ts ≡ true → starts p (ts ++ more) ≡ true
starts_front p [] more h = let none : false ≡ true = h in absurd cc
starts_front p (c ∷ cs) more h = h

field_item_only : (opened : List ℕ) (p : FieldItem) (more : List ℕ) → FieldFits opened p more → field_item_at opened (field_item_spelling p ++ more) ≡ Some (p, more)
field_item_only opened (blank c) more h = ap (λ b. cond {A = Read FieldItem} b (Some (blank c, more)) (field_token opened (next_plain (c ∷ more)))) h
field_item_only opened (plain_token t) more h =
    token_front opened (t.spelling ++ more) (starts_front begins_token t.spelling more (stands_begins t.kind t.spelling more h.0.stands))
    ∙ (ap (field_token opened) (longest_read (t.spelling ++ more) t more h.0)
    ∙ ap (λ b. cond {A = Read FieldItem} b (Some (plain_token t, more)) None) h.1)

starts_some : (p : ℕ → Bool) (ts : List ℕ) → starts p ts ≡ true → 0 < length ts
starts_some p [] h = let none : false ≡ true = h in absurd cc
starts_some p (c ∷ cs) h = omega arith

field_item_some : (opened : List ℕ) (p : FieldItem) (more : List ℕ) → FieldFits opened p more → 0 < length (field_item_spelling p)
field_item_some opened (blank c) more h = omega arith
field_item_some opened (plain_token t) more h = starts_some begins_token t.spelling (stands_begins t.kind t.spelling more h.0.stands)

pub field_reads : Reads field_item_spelling FieldFits field_item_at
field_reads = record {
  found = λ s ts p more e. field_item_found s ts p more e;
  only = λ s p more h. field_item_only s p more h;
  some = λ s p more h. field_item_some s p more h;
}

field_first : FirstDecides FieldFits
field_first opened (blank c) d more other h = h
field_first opened (plain_token t) d more other h =
    (local_longest t (d ∷ other) (local_other t.kind t.spelling d more other (longest_local (t.spelling ++ (d ∷ more)) t (d ∷ more) h.0)), h.1)

-- what stands behind the tokens, and what behind the field
abbrev tail : Convert → Option Format → List ℕ → List ℕ
tail c o rest = convert_spelling c ++ (optional_format o ++ (125 ∷ rest))

tail_is : (f : Field) (rest : List ℕ) → field_tail f ++ rest ≡ tail f.convert f.format rest
tail_is f rest = append_assoc (convert_spelling f.convert ++ optional_format f.format) (125 ∷ []) rest ∙ append_assoc (convert_spelling f.convert) (optional_format f.format) (125 ∷ rest)

colon_alone : (rest : List ℕ) → extends (58 ∷ []) rest ≡ false
colon_alone [] = refl
colon_alone (c ∷ cs) = refl

brace_alone : (rest : List ℕ) → extends (125 ∷ []) rest ≡ false
brace_alone [] = refl
brace_alone (c ∷ cs) = refl

tail_stuck : (c : Convert) (o : Option Format) (rest : List ℕ) → field_item_at [] (tail c o rest) ≡ None
tail_stuck repr o rest = refl
tail_stuck str o rest = refl
tail_stuck as_is (Some fm) rest = ap (field_token []) (plain_only mark (58 ∷ []) (format_spelling fm ++ (125 ∷ rest)) (refl, colon_alone (format_spelling fm ++ (125 ∷ rest))))
tail_stuck as_is None rest = ap (field_token []) (plain_only mark (125 ∷ []) rest (refl, brace_alone rest))

convert_read : (c : Convert) (o : Option Format) (rest : List ℕ) → convert_at (tail c o rest) ≡ (c, optional_format o ++ (125 ∷ rest))
convert_read repr o rest = refl
convert_read str o rest = refl
convert_read as_is (Some fm) rest = refl
convert_read as_is None rest = refl

format_read : (o : Option Format) (rest : List ℕ) → if_format o ≡ true → format_in (optional_format o ++ (125 ∷ rest)) ≡ Some (o, 125 ∷ rest)
format_read None rest h = refl
format_read (Some fm) rest h = ap some_format (format_only fm rest h)

empty_is : {A : Type 0} (xs : List A) → is_empty xs ≡ true → xs ≡ []
empty_is [] h = refl
empty_is (x ∷ xs) h = let none : false ≡ true = h in absurd cc

pub record FieldTests (q : Quotes) (f : Field) : Type 0 where
  pub closed : state_after open_behind [] f.items ≡ []
  pub format : if_format f.format ≡ true
  pub inside : is_inside q (field_text f) ≡ true
  pub apart : starts (λ c. c == 123) (field_text f) ≡ false

pub field_tests : (q : Quotes) (f : Field) → is_field q f ≡ true → FieldTests q f
field_tests q f h =
    let a = list_any is_plain_token f.items in
    let b = is_empty (state_after open_behind [] f.items) in
    let c = if_format f.format in
    let d = is_inside q (field_text f) in
    let abcd = and_left (list_any is_plain_token f.items && is_empty (state_after open_behind [] f.items) && if_format f.format && is_inside q (field_text f)) (not (starts (λ c. c == 123) (field_text f))) h in
    let abc = and_left (list_any is_plain_token f.items && is_empty (state_after open_behind [] f.items) && if_format f.format) (is_inside q (field_text f)) abcd in
    let ab = and_left (list_any is_plain_token f.items && is_empty (state_after open_behind [] f.items)) (if_format f.format) abc in
    record {
      closed = empty_is (state_after open_behind [] f.items) (and_right (list_any is_plain_token f.items) (is_empty (state_after open_behind [] f.items)) ab);
      format = and_right (list_any is_plain_token f.items && is_empty (state_after open_behind [] f.items)) (if_format f.format) abc;
      inside = and_right (list_any is_plain_token f.items && is_empty (state_after open_behind [] f.items) && if_format f.format) (is_inside q (field_text f)) abcd;
      apart = not_true (starts (λ c. c == 123) (field_text f)) (and_right (list_any is_plain_token f.items && is_empty (state_after open_behind [] f.items) && if_format f.format && is_inside q (field_text f)) (not (starts (λ c. c == 123) (field_text f))) h);
    }

-- the rest behind the tokens has a first byte
pub record Headed (ts : List ℕ) : Type 0 where
  pub first : ℕ
  pub others : List ℕ
  pub is : ts ≡ first ∷ others

tail_headed : (c : Convert) (o : Option Format) (rest : List ℕ) → Headed (tail c o rest)
tail_headed repr o rest = record { first = 33; others = 114 ∷ (optional_format o ++ (125 ∷ rest)); is = refl }
tail_headed str o rest = record { first = 33; others = 115 ∷ (optional_format o ++ (125 ∷ rest)); is = refl }
tail_headed as_is (Some fm) rest = record { first = 58; others = format_spelling fm ++ (125 ∷ rest); is = refl }
tail_headed as_is None rest = record { first = 125; others = rest; is = refl }

append_nil : (xs : List ℕ) → xs ++ [] ≡ xs
append_nil [] = refl
append_nil (x ∷ xs) = ap (λ ys. x ∷ ys) (append_nil xs)

pub field_tail_headed : (f : Field) → Headed (field_tail f)
field_tail_headed f = let h = tail_headed f.convert f.format [] in record { first = h.first; others = h.others; is = sym (append_nil (field_tail f)) ∙ (tail_is f [] ∙ h.is) }

abbrev FieldCuts : List ℕ → List FieldItem → List ℕ → Type 0
FieldCuts ts items rest = Cuts field_item_spelling FieldFits open_behind [] ts items rest

-- another text behind the field
longer_cuts : (f : Field) (rest : List ℕ) → FieldCuts (field_text f) f.items (field_tail f) → FieldCuts (flat_map field_item_spelling f.items ++ (field_tail f ++ rest)) f.items (field_tail f ++ rest)
longer_cuts f rest c =
    let h = field_tail_headed f in
    let short : FieldCuts (field_text f) f.items (h.first ∷ h.others) = subst (λ xs. FieldCuts (field_text f) f.items xs) h.is c in
    let long = cuts_other field_item_spelling FieldFits open_behind field_first [] (field_text f) f.items h.first h.others (h.others ++ rest) short in
    let whole : (h.first ∷ (h.others ++ rest)) ≡ field_tail f ++ rest = ap (λ xs. xs ++ rest) (sym h.is) in
    subst (λ xs. FieldCuts (flat_map field_item_spelling f.items ++ xs) f.items xs) whole long

shorter_cuts : (f : Field) (rest ts : List ℕ) → FieldCuts ts f.items (field_tail f ++ rest) → FieldCuts (field_text f) f.items (field_tail f)
shorter_cuts f rest ts c =
    let h = field_tail_headed f in
    let whole : field_tail f ++ rest ≡ h.first ∷ (h.others ++ rest) = ap (λ xs. xs ++ rest) h.is in
    let long : FieldCuts ts f.items (h.first ∷ (h.others ++ rest)) = subst (λ xs. FieldCuts ts f.items xs) whole c in
    let short = cuts_other field_item_spelling FieldFits open_behind field_first [] ts f.items h.first (h.others ++ rest) h.others long in
    subst (λ xs. FieldCuts (flat_map field_item_spelling f.items ++ xs) f.items xs) (sym h.is) short

abbrev with_convert : Quotes → List FieldItem → Convert × List ℕ → Read Field
with_convert q items c = with_format q items c.0 (format_in c.1)

pub field_only : (q : Quotes) (f : Field) (rest : List ℕ) → IsField q f → field_at q (field_text f ++ rest) ≡ Some (f, rest)
field_only q f rest h =
    let t = field_tests q f h.0 in
    let ts = flat_map field_item_spelling f.items ++ (field_tail f ++ rest) in
    let flat : field_text f ++ rest ≡ flat_map field_item_spelling f.items ++ (field_tail f ++ rest) = append_assoc (flat_map field_item_spelling f.items) (field_tail f) rest in
    let stuck : field_item_at (state_after open_behind [] f.items) (field_tail f ++ rest) ≡ None =
    ap (λ s. field_item_at s (field_tail f ++ rest)) t.closed ∙ (ap (field_item_at []) (tail_is f rest) ∙ tail_stuck f.convert f.format rest) in
    let items = cuts_are_read field_item_spelling FieldFits open_behind field_item_at field_reads (length (flat_map field_item_spelling f.items ++ (field_tail f ++ rest))) []
    (flat_map field_item_spelling f.items ++ (field_tail f ++ rest)) f.items (field_tail f ++ rest) (longer_cuts f rest h.1) stuck (omega arith) in
    ap (field_at q) flat
    ∙ (ap (λ (r : List FieldItem × List ℕ). with_convert q r.0 (convert_at r.1)) items
    ∙ (ap (λ xs. with_convert q f.items (convert_at xs)) (tail_is f rest)
    ∙ (ap (with_convert q f.items) (convert_read f.convert f.format rest)
    ∙ (ap (with_format q f.items f.convert) (format_read f.format rest t.format)
    ∙ ap (λ b. cond {A = Read Field} b (Some (f, rest)) None) h.0))))

pub record FieldFound (q : Quotes) (ts : List ℕ) (f : Field) (rest : List ℕ) : Type 0 where
  pub is : IsField q f
  pub front : ts ≡ field_text f ++ rest

convert_in_front : (cs : List ℕ) → (33 ∷ cs) ≡ convert_spelling (convert_in (33 ∷ cs) cs).0 ++ (convert_in (33 ∷ cs) cs).1
convert_in_front [] = refl
convert_in_front (c ∷ cs) = go (c == 114) refl
  where
    other : (b : Bool) → (c == 115) ≡ b → (33 ∷ c ∷ cs) ≡ convert_spelling (cond {A = Convert × List ℕ} b (str, cs) (as_is, 33 ∷ c ∷ cs)).0 ++ (cond {A = Convert × List ℕ} b (str, cs) (as_is, 33 ∷ c ∷ cs)).1
    other true e = ap (λ x. 33 ∷ x ∷ cs) (is_code c 115 e)
    other false e = refl

    go : (b : Bool) → (c == 114) ≡ b → (33 ∷ c ∷ cs) ≡ convert_spelling (cond {A = Convert × List ℕ} b (repr, cs) (cond {A = Convert × List ℕ} (c == 115) (str, cs) (as_is, 33 ∷ c ∷ cs))).0 ++ (cond {A = Convert × List ℕ} b (repr, cs) (cond {A = Convert × List ℕ} (c == 115) (str, cs) (as_is, 33 ∷ c ∷ cs))).1
    go true e = ap (λ x. 33 ∷ x ∷ cs) (is_code c 114 e)
    go false e = other (c == 115) refl

convert_front : (ts : List ℕ) → ts ≡ convert_spelling (convert_at ts).0 ++ (convert_at ts).1
convert_front [] = refl
convert_front (c ∷ cs) = go (c == 33) refl
  where
    go : (b : Bool) → (c == 33) ≡ b → (c ∷ cs) ≡ convert_spelling (cond {A = Convert × List ℕ} b (convert_in (c ∷ cs) cs) (as_is, c ∷ cs)).0 ++ (cond {A = Convert × List ℕ} b (convert_in (c ∷ cs) cs) (as_is, c ∷ cs)).1
    go true e = subst (λ x. (x ∷ cs) ≡ convert_spelling (convert_in (x ∷ cs) cs).0 ++ (convert_in (x ∷ cs) cs).1) (sym (is_code c 33 e)) (convert_in_front cs)
    go false e = refl

format_front : (ts : List ℕ) (o : Option Format) (rest : List ℕ) → format_in ts ≡ Some (o, rest) → ts ≡ optional_format o ++ rest
format_front [] o rest e = let same = read_is {A = Option Format} None o [] rest e in ap (λ (x : Option Format). optional_format x ++ []) same.0 ∙ ap (λ xs. optional_format o ++ xs) same.1
format_front (c ∷ cs) o rest e = go (c == 58) refl e
  where
    some : (r : Read Format) → format_at cs ≡ r → some_format r ≡ Some (o, rest) → (58 ∷ cs) ≡ optional_format o ++ rest
    some None k f = not_some (o, rest) f
    some (Some r) k f =
        let same = read_is {A = Option Format} (Some r.0) o r.1 rest f in
        let g = format_found cs r.0 r.1 k in
        ap (λ xs. 58 ∷ xs) g.front ∙ (ap (λ (x : Option Format). optional_format x ++ r.1) same.0 ∙ ap (λ xs. optional_format o ++ xs) same.1)

    go : (b : Bool) → (c == 58) ≡ b → cond {A = Read (Option Format)} b (some_format (format_at cs)) (Some (None, c ∷ cs)) ≡ Some (o, rest) → (c ∷ cs) ≡ optional_format o ++ rest
    go true k f = ap (λ x. x ∷ cs) (is_code c 58 k) ∙ some (format_at cs) refl f
    go false k f = let same = read_is {A = Option Format} None o (c ∷ cs) rest f in ap (λ (x : Option Format). optional_format x ++ (c ∷ cs)) same.0 ∙ ap (λ xs. optional_format o ++ xs) same.1

closed_found : (q : Quotes) (g : Field) (ts more : List ℕ) (f : Field) (rest : List ℕ) → FieldCuts ts g.items (convert_spelling g.convert ++ (optional_format g.format ++ more)) → closed_field q g more ≡ Some (f, rest) → FieldFound q ts f rest
closed_found q g ts [] f rest c e = not_some (f, rest) e
closed_found q g ts (d ∷ ds) f rest c e =
    let h = if_some {A = Field × List ℕ} (d == 125) (checked_field q g ds) (f, rest) e in
    let k = if_some {A = Field × List ℕ} (is_field q g) (Some (g, ds)) (f, rest) h.1 in
    let same = read_is {A = Field} g f ds rest k.1 in
    let brace : d ≡ 125 = is_code d 125 h.0 in
    let here : FieldCuts ts g.items (field_tail g ++ ds) = subst (λ xs. FieldCuts ts g.items xs) (ap (λ x. convert_spelling g.convert ++ (optional_format g.format ++ (x ∷ ds))) brace ∙ sym (tail_is g ds)) c in
    let flat = cuts_flat field_item_spelling FieldFits open_behind [] ts g.items (field_tail g ++ ds) here in
    let front : ts ≡ field_text g ++ ds = flat ∙ sym (append_assoc (flat_map field_item_spelling g.items) (field_tail g) ds) in
    subst (λ (x : Field). FieldFound q ts x rest) same.0 (record { is = (k.0, shorter_cuts g ds ts here); front = front ∙ ap (λ xs. field_text g ++ xs) same.1 })

formatted : (q : Quotes) (items : List FieldItem) (c : Convert) (after : List ℕ) (r : Read (Option Format)) (ts : List ℕ) (f : Field) (rest : List ℕ) → format_in after ≡ r
    → FieldCuts ts items (convert_spelling c ++ after) → with_format q items c r ≡ Some (f, rest) → FieldFound q ts f rest
formatted q items c after None ts f rest k cut e = not_some (f, rest) e
formatted q items c after (Some r) ts f rest k cut e =
    let front = format_front after r.0 r.1 k in
    closed_found q (record { items = items; convert = c; format = r.0 }) ts r.1 f rest (subst (λ xs. FieldCuts ts items (convert_spelling c ++ xs)) front cut) e

pub field_found : (q : Quotes) (ts : List ℕ) (f : Field) (rest : List ℕ) → field_at q ts ≡ Some (f, rest) → FieldFound q ts f rest
field_found q ts f rest e =
    let r = read_all field_item_at open_behind [] ts in
    let c = convert_at r.1 in
    let cut = read_is_cut field_item_spelling FieldFits open_behind field_item_at field_reads (length ts) [] ts in
    formatted q r.0 c.0 c.1 (format_in c.1) ts f rest refl (subst (λ xs. FieldCuts ts r.0 xs) (convert_front r.1) cut) e
