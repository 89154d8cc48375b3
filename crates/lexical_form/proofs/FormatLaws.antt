-- Formats are read exactly as they are spelled, where a closing brace follows.
use Rattle.std.proofs.Common.{◌≡◌, ℕ, Bool, true, false, cond, List, [], ◌∷◌, ◌++◌, Option, Some, None, refl, sym, ap, subst, ◌∙◌, append_assoc, arith}
use Rattle.std.specs.Prelude.{not, ◌==◌, ◌&&◌, ◌||◌, nat_le}
use Rattle.std.specs.List.{list_all}
use Rattle.std.proofs.lemmas.Bool.Decides.{nat_tests}
use Rattle.py_tree.specs.Names.{is_digit}
use Rattle.lexical_form.specs.Reading.{Read, span}
use Rattle.lexical_form.specs.Bytes.{starts}
use Rattle.lexical_form.specs.Numbers.{number_of}
use Rattle.lexical_form.specs.Formats.{Format, align_width_form, zero_width, only_comma, is_align, is_form, is_width, no_width, if_any, is_format, byte_of, d_if, format_spelling}
use Rattle.lexical_form.specs.FormatReader.{byte_if, is_some_byte, checked_format, aligned_at, zeros_at, comma_at, format_at}
use Rattle.lexical_form.proofs.Basics.{is_code, and_left, and_right, not_true, if_some, read_is}
use Rattle.lexical_form.proofs.Spans.{span_runs, span_is}

-- a form and the closing brace
abbrev end : Option ℕ → List ℕ → List ℕ
end f rest = byte_of f ++ (125 ∷ rest)

form_code : (c : ℕ) → is_form c ≡ true → (is_digit c ≡ false) × (is_align c ≡ false) × ((c == 48) ≡ false) × ((c == 44) ≡ false)
form_code c h = (grind (arith, nat_tests), grind (arith, nat_tests), grind (arith, nat_tests), grind (arith, nat_tests))

align_code : (c : ℕ) → is_align c ≡ true → ((c == 48) ≡ false) × ((c == 44) ≡ false)
align_code c h = (grind (arith, nat_tests), grind (arith, nat_tests))

digit_code : (c : ℕ) → is_digit c ≡ true → (is_align c ≡ false) × ((c == 44) ≡ false)
digit_code c h = (grind (arith, nat_tests), grind (arith, nat_tests))

form_read : (f : Option ℕ) (rest : List ℕ) → if_any is_form f ≡ true → byte_if is_form (end f rest) ≡ (f, 125 ∷ rest)
form_read None rest h = refl
form_read (Some c) rest h = ap (λ b. cond {A = Option ℕ × List ℕ} b (Some c, 125 ∷ rest) (None, c ∷ 125 ∷ rest)) h

-- a test that no byte of these passes
end_fails : (p : ℕ → Bool) (f : Option ℕ) (rest : List ℕ) → if_any is_form f ≡ true → p 125 ≡ false → ((c : ℕ) → is_form c ≡ true → p c ≡ false) → starts p (end f rest) ≡ false
end_fails p None rest h e other = e
end_fails p (Some c) rest h e other = other c h

width_fails : (p : ℕ → Bool) (w : List ℕ) (f : Option ℕ) (rest : List ℕ) → (no_width w || is_width w) ≡ true → if_any is_form f ≡ true → p 125 ≡ false → ((c : ℕ) → is_form c ≡ true → p c ≡ false)
    → ((d : ℕ) (ds : List ℕ) → is_width (d ∷ ds) ≡ true → p d ≡ false) → starts p (w ++ end f rest) ≡ false
width_fails p [] f rest k h e other digit = end_fails p f rest h e other
width_fails p (d ∷ ds) f rest k h e other digit = digit d ds k

width_digits : (w : List ℕ) → is_width w ≡ true → list_all is_digit w ≡ true
width_digits w h =
    and_left (list_all is_digit w) (not (starts (λ c. c == 48) w)) (and_left (list_all is_digit w && not (starts (λ c. c == 48) w)) (nat_le 1 (number_of w))
    (and_left (list_all is_digit w && not (starts (λ c. c == 48) w) && nat_le 1 (number_of w)) (nat_le (number_of w) 200) h))

width_first : (d : ℕ) (ds : List ℕ) → is_width (d ∷ ds) ≡ true → (is_digit d ≡ true) × ((d == 48) ≡ false)
width_first d ds h = (
  and_left (is_digit d) (list_all is_digit ds) (width_digits (d ∷ ds) h),
  not_true (d == 48) (and_right (list_all is_digit (d ∷ ds)) (not (d == 48)) (and_left (list_all is_digit (d ∷ ds) && not (d == 48)) (nat_le 1 (number_of (d ∷ ds)))
      (and_left (list_all is_digit (d ∷ ds) && not (d == 48) && nat_le 1 (number_of (d ∷ ds))) (nat_le (number_of (d ∷ ds)) 200) h))),
)

width_read : (w : List ℕ) (f : Option ℕ) (rest : List ℕ) → (no_width w || is_width w) ≡ true → if_any is_form f ≡ true → span is_digit (w ++ end f rest) ≡ (w, end f rest)
width_read [] f rest k h = span_is is_digit [] (end f rest) refl (end_fails is_digit f rest h refl (λ c i. (form_code c i).0))
width_read (d ∷ ds) f rest k h = span_is is_digit (d ∷ ds) (end f rest) (width_digits (d ∷ ds) k) (end_fails is_digit f rest h refl (λ c i. (form_code c i).0))

no_byte : (p : ℕ → Bool) (ts : List ℕ) → starts p ts ≡ false → byte_if p ts ≡ (None, ts)
no_byte p [] h = refl
no_byte p (c ∷ cs) h = ap (λ b. cond {A = Option ℕ × List ℕ} b (Some c, cs) (None, c ∷ cs)) h

align_read : (a : Option ℕ) (w : List ℕ) (f : Option ℕ) (rest : List ℕ) → if_any is_align a ≡ true → (no_width w || is_width w) ≡ true → if_any is_form f ≡ true
    → byte_if is_align (byte_of a ++ (w ++ end f rest)) ≡ (a, w ++ end f rest)
align_read None w f rest i k h = no_byte is_align (w ++ end f rest) (width_fails is_align w f rest k h refl (λ c j. (form_code c j).1) (λ d ds j. (digit_code d (width_first d ds j).0).0))
align_read (Some c) w f rest i k h = ap (λ b. cond {A = Option ℕ × List ℕ} b (Some c, w ++ end f rest) (None, c ∷ (w ++ end f rest))) i

neither : (ts : List ℕ) → starts (λ c. c == 48) ts ≡ false → starts (λ c. c == 44) ts ≡ false → format_at ts ≡ aligned_at ts
neither [] h k = refl
neither (c ∷ cs) h k = ap (λ b. cond {A = Read Format} b (zeros_at cs) (cond {A = Read Format} (c == 44) (comma_at cs) (aligned_at (c ∷ cs)))) h ∙ ap (λ b. cond {A = Read Format} b (comma_at cs) (aligned_at (c ∷ cs))) k

aligned_fails : (m : ℕ) (a : Option ℕ) (w : List ℕ) (f : Option ℕ) (rest : List ℕ) → if_any is_align a ≡ true → (no_width w || is_width w) ≡ true → if_any is_form f ≡ true
    → ((c : ℕ) → is_align c ≡ true → (c == m) ≡ false) → (125 == m) ≡ false → ((c : ℕ) → is_form c ≡ true → (c == m) ≡ false) → ((d : ℕ) (ds : List ℕ) → is_width (d ∷ ds) ≡ true → (d == m) ≡ false)
    → starts (λ c. c == m) (byte_of a ++ (w ++ end f rest)) ≡ false
aligned_fails m None w f rest i k h x y z v = width_fails (λ c. c == m) w f rest k h y z v
aligned_fails m (Some c) w f rest i k h x y z v = x c i

pub format_only : (fm : Format) (rest : List ℕ) → is_format fm ≡ true → format_at (format_spelling fm ++ (125 ∷ rest)) ≡ Some (fm, 125 ∷ rest)
format_only (only_comma true) rest h = refl
format_only (only_comma false) rest h = refl
format_only (zero_width w d) rest h =
    ap zeros_at (append_assoc w (d_if d) (125 ∷ rest)) ∙ go d
  where
    go : (b : Bool) → zeros_at (w ++ (d_if b ++ (125 ∷ rest))) ≡ Some (zero_width w b, 125 ∷ rest)
    go true = ap (λ (s : List ℕ × List ℕ). checked_format (zero_width s.0 (is_some_byte (byte_if (λ c. c == 100) s.1).0)) (byte_if (λ c. c == 100) s.1).1) (span_is is_digit w (100 ∷ 125 ∷ rest) (width_digits w h) refl)
        ∙ ap (λ b. cond {A = Read Format} b (Some (zero_width w true, 125 ∷ rest)) None) h
    go false = ap (λ (s : List ℕ × List ℕ). checked_format (zero_width s.0 (is_some_byte (byte_if (λ c. c == 100) s.1).0)) (byte_if (λ c. c == 100) s.1).1) (span_is is_digit w (125 ∷ rest) (width_digits w h) refl)
        ∙ ap (λ b. cond {A = Read Format} b (Some (zero_width w false, 125 ∷ rest)) None) h
format_only (align_width_form a w f) rest h =
    let i = and_left (if_any is_align a) (no_width w || is_width w) (and_left (if_any is_align a && (no_width w || is_width w)) (if_any is_form f) h) in
    let k = and_right (if_any is_align a) (no_width w || is_width w) (and_left (if_any is_align a && (no_width w || is_width w)) (if_any is_form f) h) in
    let j = and_right (if_any is_align a && (no_width w || is_width w)) (if_any is_form f) h in
    let flat : ((byte_of a ++ w) ++ byte_of f) ++ (125 ∷ rest) ≡ byte_of a ++ (w ++ end f rest) = append_assoc (byte_of a ++ w) (byte_of f) (125 ∷ rest) ∙ append_assoc (byte_of a) w (end f rest) in
    let by_form = λ (x : List ℕ). let b = byte_if is_form x in checked_format (align_width_form a w b.0) b.1 in
    ap format_at flat
    ∙ (neither (byte_of a ++ (w ++ end f rest))
    (aligned_fails 48 a w f rest i k j (λ c x. (align_code c x).0) refl (λ c x. (form_code c x).2) (λ d ds x. (width_first d ds x).1))
    (aligned_fails 44 a w f rest i k j (λ c x. (align_code c x).1) refl (λ c x. (form_code c x).3) (λ d ds x. (digit_code d (width_first d ds x).0).1))
    ∙ (ap (λ (x : Option ℕ × List ℕ). let s = span is_digit x.1 in let b = byte_if is_form s.1 in checked_format (align_width_form x.0 s.0 b.0) b.1) (align_read a w f rest i k j)
    ∙ (ap (λ (s : List ℕ × List ℕ). let b = byte_if is_form s.1 in checked_format (align_width_form a s.0 b.0) b.1) (width_read w f rest k j)
    ∙ (ap (λ (b : Option ℕ × List ℕ). checked_format (align_width_form a w b.0) b.1) (form_read f rest j)
    ∙ ap (λ b. cond {A = Read Format} b (Some (align_width_form a w f, 125 ∷ rest)) None) h))))

-- found
pub record FormatFound (ts : List ℕ) (fm : Format) (rest : List ℕ) : Type 0 where
  pub is : is_format fm ≡ true
  pub front : ts ≡ format_spelling fm ++ rest

byte_front : (p : ℕ → Bool) (ts : List ℕ) → ts ≡ byte_of (byte_if p ts).0 ++ (byte_if p ts).1
byte_front p [] = refl
byte_front p (c ∷ cs) = go (p c)
  where
    go : (b : Bool) → (c ∷ cs) ≡ byte_of (cond {A = Option ℕ × List ℕ} b (Some c, cs) (None, c ∷ cs)).0 ++ (cond {A = Option ℕ × List ℕ} b (Some c, cs) (None, c ∷ cs)).1
    go true = refl
    go false = refl

d_front : (ts : List ℕ) → ts ≡ d_if (is_some_byte (byte_if (λ c. c == 100) ts).0) ++ (byte_if (λ c. c == 100) ts).1
d_front [] = refl
d_front (c ∷ cs) = go (c == 100) refl
  where
    go : (b : Bool) → (c == 100) ≡ b → (c ∷ cs) ≡ d_if (is_some_byte (cond {A = Option ℕ × List ℕ} b (Some c, cs) (None, c ∷ cs)).0) ++ (cond {A = Option ℕ × List ℕ} b (Some c, cs) (None, c ∷ cs)).1
    go true e = ap (λ x. x ∷ cs) (is_code c 100 e)
    go false e = refl

checked : (ts : List ℕ) (fm : Format) (more : List ℕ) (gm : Format) (rest : List ℕ) → ts ≡ format_spelling fm ++ more → checked_format fm more ≡ Some (gm, rest) → FormatFound ts gm rest
checked ts fm more gm rest front e =
    let h = if_some {A = Format × List ℕ} (is_format fm) (Some (fm, more)) (gm, rest) e in
    let same = read_is {A = Format} fm gm more rest h.1 in
    subst (λ (x : Format). FormatFound ts x rest) same.0 (record { is = h.0; front = front ∙ ap (λ xs. format_spelling fm ++ xs) same.1 })

aligned_found : (ts : List ℕ) (gm : Format) (rest : List ℕ) → aligned_at ts ≡ Some (gm, rest) → FormatFound ts gm rest
aligned_found ts gm rest e =
    let a = byte_if is_align ts in
    let w = span is_digit a.1 in
    let f = byte_if is_form w.1 in
    let wr = span_runs is_digit a.1 in
    let front : ts ≡ byte_of a.0 ++ (w.0 ++ (byte_of f.0 ++ f.1)) = byte_front is_align ts ∙ ap (λ xs. byte_of a.0 ++ xs) (wr.front ∙ ap (λ xs. w.0 ++ xs) (byte_front is_form w.1)) in
    checked ts (align_width_form a.0 w.0 f.0) f.1 gm rest (front ∙ sym (append_assoc (byte_of a.0 ++ w.0) (byte_of f.0) f.1 ∙ append_assoc (byte_of a.0) w.0 (byte_of f.0 ++ f.1))) e

zeros_found : (ts : List ℕ) (gm : Format) (rest : List ℕ) → zeros_at ts ≡ Some (gm, rest) → FormatFound (48 ∷ ts) gm rest
zeros_found ts gm rest e =
    let w = span is_digit ts in
    let d = byte_if (λ c. c == 100) w.1 in
    let wr = span_runs is_digit ts in
    let front : ts ≡ w.0 ++ (d_if (is_some_byte d.0) ++ d.1) = wr.front ∙ ap (λ xs. w.0 ++ xs) (d_front w.1) in
    checked (48 ∷ ts) (zero_width w.0 (is_some_byte d.0)) d.1 gm rest (ap (λ xs. 48 ∷ xs) (front ∙ sym (append_assoc w.0 (d_if (is_some_byte d.0)) d.1))) e

comma_found : (ts : List ℕ) (gm : Format) (rest : List ℕ) → comma_at ts ≡ Some (gm, rest) → FormatFound (44 ∷ ts) gm rest
comma_found ts gm rest e =
    let d = byte_if (λ c. c == 100) ts in
    let same = read_is {A = Format} (only_comma (is_some_byte d.0)) gm d.1 rest e in
    subst (λ (x : Format). FormatFound (44 ∷ ts) x rest) same.0 (record { is = refl; front = ap (λ xs. 44 ∷ xs) (d_front ts ∙ ap (λ xs. d_if (is_some_byte d.0) ++ xs) same.1) })

pub format_found : (ts : List ℕ) (gm : Format) (rest : List ℕ) → format_at ts ≡ Some (gm, rest) → FormatFound ts gm rest
format_found [] gm rest e = aligned_found [] gm rest e
format_found (c ∷ cs) gm rest e = go (c == 48) refl e
  where
    other : (b : Bool) → (c == 44) ≡ b → cond {A = Read Format} b (comma_at cs) (aligned_at (c ∷ cs)) ≡ Some (gm, rest) → FormatFound (c ∷ cs) gm rest
    other true k f = subst (λ x. FormatFound (x ∷ cs) gm rest) (sym (is_code c 44 k)) (comma_found cs gm rest f)
    other false k f = aligned_found (c ∷ cs) gm rest f

    go : (b : Bool) → (c == 48) ≡ b → cond {A = Read Format} b (zeros_at cs) (cond {A = Read Format} (c == 44) (comma_at cs) (aligned_at (c ∷ cs))) ≡ Some (gm, rest) → FormatFound (c ∷ cs) gm rest
    go true k f = subst (λ x. FormatFound (x ∷ cs) gm rest) (sym (is_code c 48 k)) (zeros_found cs gm rest f)
    go false k f = other (c == 44) refl f
