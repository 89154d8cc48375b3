-- What stands behind a field's tokens, and the field whole, are what the reader of fields reads.
use Rattle.std.proofs.Common.{◌≡◌, ℕ, ◌-◌, Bool, true, false, cond, List, [], ◌∷◌, ◌++◌, length, take, drop, Option, Some, None, refl, sym, ap, subst, ◌∙◌, append_assoc, length-append, arith}
use Rattle.std.specs.Prelude.{not, ◌==◌, ◌&&◌}
use Rattle.std.specs.List.{list_any, flat_map}
use Rattle.std.specs.Str.{IsUtf8, IsCharBoundary}
use Rattle.std.proofs.Math.Seq.{take-append_seam, drop-append_seam}
use Rattle.lexical_form.specs.Bytes.{is_empty, starts}
use Rattle.lexical_form.specs.Cuts.{state_after}
use Rattle.lexical_form.specs.Reading.{Read}
use Rattle.lexical_form.specs.Tokens as tokens
use Rattle.lexical_form.specs.Tokens.{Token, Piece, Convert, as_is, repr, str, Spec, tokens_of}
use Rattle.lexical_form.specs.Texts.{Quotes}
use Rattle.lexical_form.specs.Formats.{Format, format_spelling}
use Rattle.lexical_form.specs.FormatReader.{format_at}
use Rattle.lexical_form.specs.Fields.{FieldItem, plain_token, blank, Field, field_item_spelling, convert_spelling, optional_format, field_tail, field_text, FieldFits, open_behind, is_plain_token, is_inside, if_format, is_field}
use Rattle.lexical_form.specs.FieldReader.{field_item_at, convert_in, convert_at, some_format, format_in, checked_field, closed_field, with_format, field_at}
use Rattle.lexical_form.specs.FTexts.{field_tokens, optional_spec, field_piece}
use Rattle.lexical_form.proofs.Basics.{is_code, read_is, not_some}
use Rattle.lexical_form.proofs.Runs.{cuts_are_read, cuts_flat}
use Rattle.lexical_form.proofs.FieldLaws.{field_reads}
use Rattle.lexical_form.proofs.FormatLaws.{format_found}
use Rattle.py_lexer.specs.FormatParts.{some_spec}
use Rattle.py_lexer.proofs.LastBytes.{ends_ascii, append_ends, boundary}
use Rattle.py_lines.specs.FieldCuts.{FieldCut}
use Rattle.py_lines.specs.FieldEnds.{optional, format_part, closed, behind_format, tail_says, is_whole, FieldRead, piece_read}

-- ---- what is read of a conversion and a format stands there
convert_in_front : (cs : List ℕ) → (33 ∷ cs) ≡ convert_spelling (convert_in (33 ∷ cs) cs).0 ++ (convert_in (33 ∷ cs) cs).1
convert_in_front [] = refl
convert_in_front (c ∷ cs) = go (c == 114) refl
  where
    other : (b : Bool) → (c == 115) ≡ b → (33 ∷ c ∷ cs) ≡ convert_spelling (cond {A = Convert × List ℕ} b (str, cs) (as_is, 33 ∷ c ∷ cs)).0 ++ (cond {A = Convert × List ℕ} b (str, cs) (as_is, 33 ∷ c ∷ cs)).1
    other true e = ap (λ x. 33 ∷ x ∷ cs) (is_code c 115 e)
    other false e = refl

    go : (b : Bool) → (c == 114) ≡ b → (33 ∷ c ∷ cs) ≡ convert_spelling (cond {A = Convert × List ℕ} b (repr, cs) (cond {A = Convert × List ℕ} (c == 115) (str, cs) (as_is, 33 ∷ c ∷ cs))).0 ++ (cond {A = Convert × List ℕ} b (repr, cs) (cond {A = Convert × List ℕ} (c == 115) (str, cs) (as_is, 33 ∷ c ∷ cs))).1
    go true e = ap (λ x. 33 ∷ x ∷ cs) (is_code c 114 e)
    go false e = other (c == 115) refl

convert_front : (ts : List ℕ) → ts ≡ convert_spelling (convert_at ts).0 ++ (convert_at ts).1
convert_front [] = refl
convert_front (c ∷ cs) = go (c == 33) refl
  where
    go : (b : Bool) → (c == 33) ≡ b → (c ∷ cs) ≡ convert_spelling (cond {A = Convert × List ℕ} b (convert_in (c ∷ cs) cs) (as_is, c ∷ cs)).0 ++ (cond {A = Convert × List ℕ} b (convert_in (c ∷ cs) cs) (as_is, c ∷ cs)).1
    go true e = subst (λ x. (x ∷ cs) ≡ convert_spelling (convert_in (x ∷ cs) cs).0 ++ (convert_in (x ∷ cs) cs).1) (sym (is_code c 33 e)) (convert_in_front cs)
    go false e = refl

record FormatIn (ts : List ℕ) (o : Option Format) (rest : List ℕ) : Type 0 where
  good : if_format o ≡ true
  front : ts ≡ optional_format o ++ rest

format_there : (ts : List ℕ) (o : Option Format) (rest : List ℕ) → format_in ts ≡ Some (o, rest) → FormatIn ts o rest
format_there [] o rest e = let same = read_is {A = Option Format} None o [] rest e in subst (λ (x : Option Format). FormatIn [] x rest) same.0 (record { good = refl; front = same.1 })
format_there (c ∷ cs) o rest e = go (c == 58) refl e
  where
    some : (r : Read Format) → format_at cs ≡ r → some_format r ≡ Some (o, rest) → FormatIn (58 ∷ cs) o rest
    some None k f = not_some (o, rest) f
    some (Some r) k f =
        let same = read_is {A = Option Format} (Some r.0) o r.1 rest f in
        let g = format_found cs r.0 r.1 k in
        subst (λ (x : Option Format). FormatIn (58 ∷ cs) x rest) same.0 (record { good = g.is; front = ap (λ xs. 58 ∷ xs) (g.front ∙ ap (λ xs. format_spelling r.0 ++ xs) same.1) })

    go : (b : Bool) → (c == 58) ≡ b → cond {A = Read (Option Format)} b (some_format (format_at cs)) (Some (None, c ∷ cs)) ≡ Some (o, rest) → FormatIn (c ∷ cs) o rest
    go true k f = subst (λ x. FormatIn (x ∷ cs) o rest) (sym (is_code c 58 k)) (some (format_at cs) refl f)
    go false k f = let same = read_is {A = Option Format} None o (c ∷ cs) rest f in subst (λ (x : Option Format). FormatIn (c ∷ cs) x rest) same.0 (record { good = refl; front = same.1 })

-- ---- the tail
abbrev said : Read (Option Format) → Option (Option Spec × List ℕ)
said None = None
said (Some p) = Some (optional_spec p.0, p.1)

part_same : (ts : List ℕ) → format_part ts ≡ said (format_in ts)
part_same [] = refl
part_same (c ∷ cs) = go (c == 58)
  where
    some : (r : Read Format) → optional (some_spec r) ≡ said (some_format r)
    some None = refl
    some (Some p) = refl

    go : (b : Bool) → cond {A = Option (Option Spec × List ℕ)} b (optional (some_spec (format_at cs))) (Some (None, c ∷ cs)) ≡ said (cond {A = Read (Option Format)} b (some_format (format_at cs)) (Some (None, c ∷ cs)))
    go true = some (format_at cs)
    go false = refl

-- what the reader makes of the items and what stands behind them, by what the tail says
record Tailed (q : Quotes) (items : List FieldItem) (rest : List ℕ) (x : Read Field) (convert : Convert) (spec : Option Spec) (behind : List ℕ) : Type 0 where
  field : Field
  items_are : field.items ≡ items
  convert_is : field.convert ≡ convert
  spec_is : optional_spec field.format ≡ spec
  good : if_format field.format ≡ true
  front : rest ≡ field_tail field ++ behind
  is : x ≡ checked_field q field behind

abbrev TailIs : Quotes → List FieldItem → List ℕ → Read Field → Option ((Convert × Option Spec) × List ℕ) → Type 0
TailIs q items rest x None = x ≡ None
TailIs q items rest x (Some p) = Tailed q items rest x p.0.0 p.0.1 p.1

closed_is : (q : Quotes) (items : List FieldItem) (rest : List ℕ) (x : Read Field) (c : Convert) (o : Option Format) (more : List ℕ) → if_format o ≡ true
    → rest ≡ convert_spelling c ++ (optional_format o ++ more) → x ≡ closed_field q (record { items = items; convert = c; format = o }) more → TailIs q items rest x (closed c (optional_spec o) more)
closed_is q items rest x c o [] good front e = e
closed_is q items rest x c o (d ∷ ds) good front e = go (d == 125) refl e
  where
    flat : convert_spelling c ++ (optional_format o ++ (125 ∷ ds)) ≡ ((convert_spelling c ++ optional_format o) ++ (125 ∷ [])) ++ ds
    flat = sym (append_assoc (convert_spelling c ++ optional_format o) (125 ∷ []) ds ∙ append_assoc (convert_spelling c) (optional_format o) (125 ∷ ds))

    go : (b : Bool) → (d == 125) ≡ b → x ≡ cond {A = Read Field} b (checked_field q (record { items = items; convert = c; format = o }) ds) None
        → TailIs q items rest x (cond {A = Option ((Convert × Option Spec) × List ℕ)} b (Some ((c, optional_spec o), ds)) None)
    go true k e = record {
      field = record { items = items; convert = c; format = o };
      items_are = refl;
      convert_is = refl;
      spec_is = refl;
      good = good;
      front = front ∙ (ap (λ y. convert_spelling c ++ (optional_format o ++ (y ∷ ds))) (is_code d 125 k) ∙ flat);
      is = e;
    }
    go false k e = e

formatted_is : (q : Quotes) (items : List FieldItem) (rest : List ℕ) (x : Read Field) (c : Convert) (after : List ℕ) (r : Read (Option Format)) → format_in after ≡ r
    → rest ≡ convert_spelling c ++ after → x ≡ with_format q items c r → TailIs q items rest x (behind_format c (said r))
formatted_is q items rest x c after None k front e = e
formatted_is q items rest x c after (Some p) k front e =
    let f = format_there after p.0 p.1 k in
    closed_is q items rest x c p.0 p.1 f.good (front ∙ ap (λ xs. convert_spelling c ++ xs) f.front) e

abbrev with_convert : Quotes → List FieldItem → Convert × List ℕ → Read Field
with_convert q items c = with_format q items c.0 (format_in c.1)

tail_is : (q : Quotes) (items : List FieldItem) (rest : List ℕ) → TailIs q items rest (with_convert q items (convert_at rest)) (tail_says rest)
tail_is q items rest =
    let c = convert_at rest in
    subst (λ (o : Option (Option Spec × List ℕ)). TailIs q items rest (with_convert q items (convert_at rest)) (behind_format (convert_at rest).0 o)) (sym (part_same (convert_at rest).1))
    (formatted_is q items rest (with_convert q items (convert_at rest)) c.0 c.1 (format_in (convert_at rest).1) refl (convert_front rest) refl)

-- ---- the field
items_read : (q : Quotes) (ts : List ℕ) (s : List ℕ × List Token) (rest : List ℕ) (h : FieldCut ts s rest) → field_at q ts ≡ with_convert q h.0.0 (convert_at rest)
items_read q ts s rest h =
    let stuck : field_item_at (state_after open_behind [] h.0.0) rest ≡ None = ap (λ x. field_item_at x rest) (sym h.0.2) ∙ h.1 in
    let r = cuts_are_read field_item_spelling FieldFits open_behind field_item_at field_reads (length ts) [] ts h.0.0 rest h.0.1 stuck (omega arith) in
    ap (λ (r : List FieldItem × List ℕ). with_convert q r.0 (convert_at r.1)) r

pub no_tail : (q : Quotes) (ts : List ℕ) (s : List ℕ × List Token) (rest : List ℕ) → FieldCut ts s rest → tail_says rest ≡ None → field_at q ts ≡ None
no_tail q ts s rest h e = items_read q ts s rest h ∙ subst (λ o. TailIs q h.0.0 rest (with_convert q h.0.0 (convert_at rest)) o) e (tail_is q h.0.0 rest)

any_token : (is : List FieldItem) → list_any is_plain_token is ≡ not (is_empty (field_tokens is))
any_token [] = refl
any_token (plain_token t ∷ is) = refl
any_token (blank c ∷ is) = any_token is

and_true : (a b : Bool) → b ≡ true → (a && b) ≡ a
and_true true b h = h
and_true false b h = refl

-- the field that stands there, whether it is one or not
record Standing (q : Quotes) (ts : List ℕ) (s : List ℕ × List Token) (convert : Convert) (spec : Option Spec) (behind : List ℕ) (n : ℕ) : Type 0 where
  field : Field
  same : tokens.field (tokens_of s.1) convert spec ≡ field_piece field
  front : ts ≡ field_text field ++ behind
  size : n ≡ length (field_text field)
  tests : is_field q field ≡ is_whole q s (take n ts)
  read : field_at q ts ≡ checked_field q field behind

abbrev tests_of : Bool → Bool → Bool → List ℕ → Quotes → Bool
tests_of a b c field q = a && b && c && is_inside q field && not (starts (λ c. c == 123) field)

standing : (q : Quotes) (ts : List ℕ) (s : List ℕ × List Token) (rest : List ℕ) (h : FieldCut ts s rest) (convert : Convert) (spec : Option Spec) (behind : List ℕ)
    → Tailed q h.0.0 rest (with_convert q h.0.0 (convert_at rest)) convert spec behind → (n : ℕ) → n ≡ length ts - length behind → Standing q ts s convert spec behind n
standing q ts s rest h convert spec behind t n size =
    let f = Tailed.field t in
    let flat = cuts_flat field_item_spelling FieldFits open_behind [] ts h.0.0 rest h.0.1 in
    let items : flat_map field_item_spelling h.0.0 ≡ flat_map field_item_spelling f.items = ap (flat_map field_item_spelling) (sym (Tailed.items_are t)) in
    let front : ts ≡ field_text f ++ behind =
    flat ∙ (ap (λ xs. xs ++ rest) items ∙ (ap (λ xs. flat_map field_item_spelling f.items ++ xs) (Tailed.front t) ∙ sym (append_assoc (flat_map field_item_spelling f.items) (field_tail f) behind))) in
    let l = ap length front ∙ length-append (field_text f) behind in
    let m : n ≡ length (field_text f) = omega (arith, l, size) in
    let slice : take n ts ≡ field_text f = ap (λ k. take k ts) m ∙ (ap (take (length (field_text f))) front ∙ take-append_seam (field_text f) behind) in
    let some : list_any is_plain_token f.items ≡ not (is_empty s.1) = any_token f.items ∙ ap (λ is. not (is_empty (field_tokens is))) (Tailed.items_are t) ∙ ap (λ xs. not (is_empty xs)) (sym h.0.3) in
    let closed : is_empty (state_after open_behind [] f.items) ≡ is_empty s.0 = ap (λ is. is_empty (state_after open_behind [] is)) (Tailed.items_are t) ∙ ap is_empty (sym h.0.2) in
    record {
      field = f;
      same =
          ap (λ ts. tokens.field (tokens_of ts) convert spec) (h.0.3 ∙ ap field_tokens (sym (Tailed.items_are t)))
          ∙ (ap (λ c. tokens.field (tokens_of (field_tokens f.items)) c spec) (sym (Tailed.convert_is t))
          ∙ ap (λ o. tokens.field (tokens_of (field_tokens f.items)) f.convert o) (sym (Tailed.spec_is t)));
      front = front;
      size = m;
      tests =
          ap (λ a. tests_of a (is_empty (state_after open_behind [] f.items)) (if_format f.format) (field_text f) q) some
          ∙ (ap (λ b. tests_of (not (is_empty s.1)) b (if_format f.format) (field_text f) q) closed
          ∙ (ap (λ b. b && is_inside q (field_text f) && not (starts (λ c. c == 123) (field_text f))) (and_true (not (is_empty s.1) && is_empty s.0) (if_format f.format) (Tailed.good t))
          ∙ ap (is_whole q s) (sym slice)));
      read = items_read q ts s rest h ∙ Tailed.is t;
    }

stands_there : (q : Quotes) (ts : List ℕ) (s : List ℕ × List Token) (rest : List ℕ) (h : FieldCut ts s rest) (convert : Convert) (spec : Option Spec) (behind : List ℕ)
    → ◌≡◌ {A = Option ((Convert × Option Spec) × List ℕ)} (tail_says rest) (Some ((convert, spec), behind)) → (n : ℕ) → n ≡ length ts - length behind → Standing q ts s convert spec behind n
stands_there q ts s rest h convert spec behind e n size =
    standing q ts s rest h convert spec behind (subst (λ o. TailIs q h.0.0 rest (with_convert q h.0.0 (convert_at rest)) o) e (tail_is q h.0.0 rest)) n size

pub not_whole : (q : Quotes) (ts : List ℕ) (s : List ℕ × List Token) (rest : List ℕ) → FieldCut ts s rest → (convert : Convert) (spec : Option Spec) (behind : List ℕ)
    → ◌≡◌ {A = Option ((Convert × Option Spec) × List ℕ)} (tail_says rest) (Some ((convert, spec), behind)) → (n : ℕ) → n ≡ length ts - length behind → is_whole q s (take n ts) ≡ false → field_at q ts ≡ None
not_whole q ts s rest h convert spec behind e n size isnt =
    let t = stands_there q ts s rest h convert spec behind e n size in
    Standing.read t ∙ ap (λ b. cond {A = Read Field} b (Some (Standing.field t, behind)) None) (Standing.tests t ∙ isnt)

tail_ends : (f : Field) → ends_ascii (field_text f) ≡ true
tail_ends f =
    ap ends_ascii (sym (append_assoc (flat_map field_item_spelling f.items) (convert_spelling f.convert ++ optional_format f.format) (125 ∷ [])))
    ∙ append_ends (flat_map field_item_spelling f.items ++ (convert_spelling f.convert ++ optional_format f.format)) 125 [] refl

pub whole_field : (q : Quotes) (ts : List ℕ) (s : List ℕ × List Token) (rest : List ℕ) → IsUtf8 ts → FieldCut ts s rest → (convert : Convert) (spec : Option Spec) (behind : List ℕ)
    → ◌≡◌ {A = Option ((Convert × Option Spec) × List ℕ)} (tail_says rest) (Some ((convert, spec), behind)) → (n : ℕ) → n ≡ length ts - length behind → is_whole q s (take n ts) ≡ true
    → FieldRead q ts n (tokens.field (tokens_of s.1) convert spec)
whole_field q ts s rest u h convert spec behind e n size is =
    let t = stands_there q ts s rest h convert spec behind e n size in
    let f = Standing.field t in
    let l = ap length (Standing.front t) ∙ length-append (field_text f) behind in
    let back : drop n ts ≡ behind = ap (λ k. drop k ts) (Standing.size t) ∙ (ap (drop (length (field_text f))) (Standing.front t) ∙ drop-append_seam (field_text f) behind) in
    record {
      field = f;
      read = Standing.read t ∙ (ap (λ b. cond {A = Read Field} b (Some (f, behind)) None) (Standing.tests t ∙ is) ∙ ap (λ (xs : List ℕ). Some (f, xs)) (sym back));
      same = Standing.same t;
      in_range = omega (arith, l, Standing.size t);
      boundary = subst (λ k. IsCharBoundary ts k) (sym (Standing.size t)) (boundary ts (field_text f) behind u (tail_ends f) (Standing.front t));
    }

-- the same as the code gives it
pub piece_there : (q : Quotes) (ts : List ℕ) (n : ℕ) (p : Piece) (behind : List ℕ) → FieldRead q ts n p → behind ≡ drop n ts → ◌≡◌ {A = Option (Piece × List ℕ)} (Some (p, behind)) (piece_read (field_at q ts))
piece_there q ts n p behind r e =
    ap (λ (x : Piece). Some (x, behind)) (FieldRead.same r) ∙ (ap (λ (xs : List ℕ). Some (field_piece (FieldRead.field r), xs)) e ∙ sym (ap piece_read (FieldRead.read r)))
