-- What the code says of a format is what the format that is read says.
use Rattle.std.proofs.Common.{◌≡◌, ℕ, ◌++◌, Bool, true, false, cond, List, [], ◌∷◌, Option, Some, None, refl, sym, ap, ◌∙◌}
use Rattle.std.specs.Prelude.{option_map, IfSome, MatchOption, IsTrue, ◌&&◌, ◌||◌, ◌==◌}
use Rattle.py_tree.specs.Names.{is_digit}
use Rattle.lexical_form.specs.Tokens.{Spec, aligned, comma}
use Rattle.lexical_form.specs.Reading.{Read, span}
use Rattle.lexical_form.specs.Formats.{Format, align_width_form, zero_width, is_align, is_form, is_width, no_width, if_any, is_format, format_spelling, align_of, form_of, width_of, spec_of}
use Rattle.std.specs.Borrow.{Bor}
use Rattle.py_tree.specs.FieldView.{view_spec}
use Rattle.py_tree.specs.declared.spec.Spec as code
use Rattle.py_lexer.specs.FormatParts.{optional_d, some_spec, aligned_says, zeros_says, format_says}
use Rattle.lexical_form.proofs.Basics.{read_is, not_some}
use Rattle.lexical_form.proofs.FormatLaws.{format_only, format_found}
use Rattle.lexical_form.specs.FormatReader.{byte_if, is_some_byte, aligned_at, zeros_at, comma_at, format_at}

-- a format and what is behind it, as the code gives them
abbrev pub seen : Option (code.Spec × Bor (List ℕ)) → Option (Spec × List ℕ)
seen r = option_map {U = Spec × List ℕ} (λ (p : code.Spec × Bor (List ℕ)). (view_spec p.0, p.1.now)) r

passes : (p : ℕ → Bool) (ts : List ℕ) → if_any p (byte_if p ts).0 ≡ true
passes p [] = refl
passes p (c ∷ cs) = go (p c) refl
  where
    go : (b : Bool) → p c ≡ b → if_any p (cond {A = Option ℕ × List ℕ} b (Some c, cs) (None, c ∷ cs)).0 ≡ true
    go true e = e
    go false e = refl

chosen_spec : (b : Bool) (f : Format) (rest : List ℕ) → some_spec (cond {A = Read Format} b (Some (f, rest)) None) ≡ cond {A = Option (Spec × List ℕ)} b (Some (spec_of f, rest)) None
chosen_spec true f rest = refl
chosen_spec false f rest = refl

three : (a b c : Bool) → a ≡ true → c ≡ true → (a && b && c) ≡ b
three true true true h k = refl
three true false c h k = refl
three false b c h k = let none : false ≡ true = h in absurd cc
three true true false h k = let none : false ≡ true = k in absurd cc

aligned_same : (ts : List ℕ) → some_spec (aligned_at ts) ≡ aligned_says ts
aligned_same ts =
    let a = byte_if is_align ts in
    let w = span is_digit a.1 in
    let f = byte_if is_form w.1 in
    chosen_spec (is_format (align_width_form a.0 w.0 f.0)) (align_width_form a.0 w.0 f.0) f.1
    ∙ ap (λ b. cond {A = Option (Spec × List ℕ)} b (Some (aligned (align_of a.0) (width_of w.0) (form_of f.0), f.1)) None) (three (if_any is_align a.0) (no_width w.0 || is_width w.0) (if_any is_form f.0) (passes is_align ts) (passes is_form w.1))

zeros_same : (ts : List ℕ) → some_spec (zeros_at ts) ≡ zeros_says ts
zeros_same ts =
    let w = span is_digit ts in
    let d = byte_if (λ c. c == 100) w.1 in
    chosen_spec (is_format (zero_width w.0 (is_some_byte d.0))) (zero_width w.0 (is_some_byte d.0)) d.1

pub format_same : (ts : List ℕ) → some_spec (format_at ts) ≡ format_says ts
format_same [] = aligned_same []
format_same (c ∷ cs) = go (c == 48) (c == 44)
  where
    go : (a b : Bool) → some_spec (cond {A = Read Format} a (zeros_at cs) (cond {A = Read Format} b (comma_at cs) (aligned_at (c ∷ cs))))
        ≡ cond {A = Option (Spec × List ℕ)} a (zeros_says cs) (cond {A = Option (Spec × List ℕ)} b (let d = optional_d cs in Some (comma d.0, d.1)) (aligned_says (c ∷ cs)))
    go true b = zeros_same cs
    go false true = refl
    go false false = aligned_same (c ∷ cs)

-- what is said is what some format says that stands there
pub says_format : (ts : List ℕ) (s : Spec) (rest : List ℕ) → format_says ts ≡ Some (s, rest)
    → (f : Format) × (is_format f ≡ true) × (ts ≡ format_spelling f ++ rest) × (s ≡ spec_of f)
says_format ts s rest e = go (format_at ts) refl (format_same ts ∙ e)
  where
    go : (r : Read Format) → format_at ts ≡ r → some_spec r ≡ Some (s, rest)
        → (f : Format) × (is_format f ≡ true) × (ts ≡ format_spelling f ++ rest) × (s ≡ spec_of f)
    go None h k = not_some (s, rest) k
    go (Some p) h k =
        let same = read_is {A = Spec} (spec_of p.0) s p.1 rest k in
        let found = format_found ts p.0 p.1 h in
        (p.0, found.is, found.front ∙ ap (λ xs. format_spelling p.0 ++ xs) same.1, sym same.0)

-- a format before a `}` is the one that is read
pub format_says_it : (ts : List ℕ) (f : Format) (rest : List ℕ) → is_format f ≡ true → ts ≡ format_spelling f ++ (125 ∷ rest) → format_says ts ≡ Some (spec_of f, 125 ∷ rest)
format_says_it ts f rest h e = sym (format_same ts) ∙ ap some_spec (ap format_at e ∙ format_only f rest h)

-- ---- the same of what the code gives
pub answer_found : (ts : List ℕ) (r : Option (code.Spec × Bor (List ℕ))) → seen r ≡ format_says ts
    → IfSome r (λ p. (f : Format) × IsTrue (is_format f) × (ts ≡ format_spelling f ++ p.1.now) × (view_spec p.0 ≡ spec_of f))
answer_found ts None e = tt
answer_found ts (Some p) e = says_format ts (view_spec p.0) p.1.now (sym e)

pub answer_whole : (ts : List ℕ) (r : Option (code.Spec × Bor (List ℕ))) → seen r ≡ format_says ts → (f : Format) (rest : List ℕ) → is_format f ≡ true
    → ts ≡ format_spelling f ++ (125 ∷ rest) → MatchOption r ⊥ (λ p. (view_spec p.0 ≡ spec_of f) × (p.1.now ≡ 125 ∷ rest))
answer_whole ts None e f rest h k = not_some (spec_of f, 125 ∷ rest) (e ∙ format_says_it ts f rest h k)
answer_whole ts (Some p) e f rest h k = read_is {A = Spec} (view_spec p.0) (spec_of f) p.1.now (125 ∷ rest) (e ∙ format_says_it ts f rest h k)
