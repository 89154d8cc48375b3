-- What the code cuts off a text is the f-text at its front.
use Rattle.std.proofs.Common.{◌≡◌, ℕ, ◌-◌, ◌≤◌, Bool, true, false, cond, List, [], ◌∷◌, ◌++◌, length, take, drop, Option, Some, None, refl, sym, ap, subst, ◌∙◌, append_assoc, length-append, arith}
use Rattle.std.specs.Prelude.{◌==◌, ◌&&◌}
use Rattle.std.specs.List.{flat_map}
use Rattle.std.specs.Str.{IsUtf8, IsCharBoundary}
use Rattle.std.proofs.Math.Seq.{take-append_seam, drop-append_seam}
use Rattle.py_tree.specs.Names.{continues_name, is_among}
use Rattle.lexical_form.specs.Bytes.{is_quote, starts_two}
use Rattle.lexical_form.specs.Reading.{Read, span}
use Rattle.lexical_form.specs.Tokens as tokens
use Rattle.lexical_form.specs.Tokens.{Token, Piece, pieces_of}
use Rattle.lexical_form.specs.Texts.{Quotes, side, item_spelling}
use Rattle.lexical_form.specs.TextReader.{items_at, opening, behind_opening}
use Rattle.lexical_form.specs.Plain.{f_text_prefixes}
use Rattle.lexical_form.specs.PlainReader.{next_plain}
use Rattle.lexical_form.specs.FTexts.{FText, has_r, f_part_spelling, f_text_spelling, f_text_pieces, characters_piece}
use Rattle.lexical_form.specs.FTextReader.{f_part_at, f_text_of, f_text_at}
use Rattle.lexical_form.specs.TokenReader.{some_plain, by_prefix, next}
use Rattle.lexical_form.proofs.Basics.{is_code, and_left, and_right, if_some, read_is, not_some}
use Rattle.lexical_form.proofs.Spans.{Runs, span_runs}
use Rattle.lexical_form.proofs.NextLaws.{next_found}
use Rattle.py_lexer.proofs.LastBytes.{ends_ascii, quote_ascii, side_ends, boundary}
use Rattle.py_lines.specs.PiecesRead.{PiecesRead}
use Rattle.py_lines.specs.FTextCuts.{opened_by, opened_says, Opens, FTextCut}

-- ---- no f-text
no_prefix : (word rest all : List ℕ) → opened_by word rest ≡ None → by_prefix word rest all ≡ some_plain (next_plain all)
no_prefix word [] all e = go (is_among word f_text_prefixes)
  where
    go : (a : Bool) → cond {A = Read Token} (a && false) (f_text_at word []) (some_plain (next_plain all)) ≡ some_plain (next_plain all)
    go true = refl
    go false = refl
no_prefix word (m ∷ more) all e = go (is_among word f_text_prefixes && is_quote m) e
  where
    go : (b : Bool) → cond {A = Option (Quotes × List ℕ)} b (Some (opening (has_r word) m more, behind_opening (opening (has_r word) m more) more)) None ≡ None
        → cond {A = Read Token} b (f_text_at word (m ∷ more)) (some_plain (next_plain all)) ≡ some_plain (next_plain all)
    go true f = not_some (opening (has_r word) m more, behind_opening (opening (has_r word) m more) more) (sym f)
    go false f = refl

pub not_opened : (ts : List ℕ) → opened_says ts ≡ None → next ts ≡ some_plain (next_plain ts)
not_opened ts e = no_prefix (span continues_name ts).0 (span continues_name ts).1 ts e

-- ---- the quotes that open
two_front : (m : ℕ) (ts : List ℕ) → starts_two m ts ≡ true → ts ≡ m ∷ m ∷ drop 2 ts
two_front m [] h = let none : false ≡ true = h in absurd cc
two_front m (c ∷ []) h = let none : false ≡ true = h in absurd cc
two_front m (c ∷ d ∷ ds) h =
    ap (λ x. x ∷ d ∷ ds) (is_code c m (and_left (c == m) (d == m) h)) ∙ ap (λ x. m ∷ x ∷ ds) (is_code d m (and_right (c == m) (d == m) h))

pub opening_front : (raw : Bool) (m : ℕ) (more : List ℕ) → (m ∷ more) ≡ side (opening raw m more) ++ behind_opening (opening raw m more) more
opening_front raw m more = go (starts_two m more) refl
  where
    go : (b : Bool) → starts_two m more ≡ b → (m ∷ more) ≡ cond b (m ∷ m ∷ m ∷ []) (m ∷ []) ++ cond b (drop 2 more) more
    go true e = ap (λ xs. m ∷ xs) (two_front m more e)
    go false e = refl

opens_by : (ts word rest : List ℕ) (q : Quotes) (inside : List ℕ) → ts ≡ word ++ rest → next ts ≡ by_prefix word rest ts → opened_by word rest ≡ Some (q, inside) → Opens ts q inside
opens_by ts word [] q inside front n e = not_some (q, inside) e
opens_by ts word (m ∷ more) q inside front n e =
    let o = opening (has_r word) m more in
    let h = if_some {A = Quotes × List ℕ} (is_among word f_text_prefixes && is_quote m) (Some (opening (has_r word) m more, behind_opening (opening (has_r word) m more) more)) (q, inside) e in
    let same = read_is {A = Quotes} (opening (has_r word) m more) q (behind_opening (opening (has_r word) m more) more) inside h.1 in
    let here : Opens ts (opening (has_r word) m more) (behind_opening (opening (has_r word) m more) more) = record {
      prefix = word;
      front = front ∙ (ap (λ xs. word ++ xs) (opening_front (has_r word) m more) ∙ sym (append_assoc word (side (opening (has_r word) m more)) (behind_opening (opening (has_r word) m more) more)));
      quote = and_right (is_among word f_text_prefixes) (is_quote m) h.0;
      reads = n ∙ ap (λ b. cond {A = Read Token} b (f_text_at word (m ∷ more)) (some_plain (next_plain ts))) h.0;
    } in
    subst (λ (x : Quotes). Opens ts x inside) same.0 (subst (λ (xs : List ℕ). Opens ts (opening (has_r word) m more) xs) same.1 here)

pub opens : (ts : List ℕ) (q : Quotes) (inside : List ℕ) → opened_says ts ≡ Some (q, inside) → Opens ts q inside
opens ts q inside e = opens_by ts (span continues_name ts).0 (span continues_name ts).1 q inside (Runs.front (span_runs continues_name ts)) refl e

pub record Cut (ts : List ℕ) (n : ℕ) (behind : List ℕ) : Type 0 where
  pub in_range : n ≤ length ts
  pub boundary : IsCharBoundary ts n
  pub back : drop n ts ≡ behind

pub cut_at : (ts front behind : List ℕ) (n : ℕ) → IsUtf8 ts → ends_ascii front ≡ true → ts ≡ front ++ behind → n ≡ length ts - length behind → Cut ts n behind
cut_at ts front behind n u a e size =
    let l = ap length e ∙ length-append front behind in
    let m : length front ≡ n = omega (arith, l, size) in
    subst (λ (k : ℕ). Cut ts k behind) m (record { in_range = omega (arith, l); boundary = boundary ts front behind u a e; back = ap (drop (length front)) e ∙ drop-append_seam front behind })

pub opens_cut : (ts : List ℕ) (q : Quotes) (inside : List ℕ) (n : ℕ) → IsUtf8 ts → Opens ts q inside → n ≡ length ts - length inside → Cut ts n inside
opens_cut ts q inside n u o size = cut_at ts (Opens.prefix o ++ side q) inside n u (side_ends q (Opens.prefix o) (quote_ascii q.mark (Opens.quote o))) (Opens.front o) size

-- ---- the f-text
pub f_none : (ts : List ℕ) (q : Quotes) (inside : List ℕ) → Opens ts q inside → items_at f_part_at q inside ≡ None → next ts ≡ None
f_none ts q inside o e = Opens.reads o ∙ ap (f_text_of (Opens.prefix o) q) e

cut_of : (ts : List ℕ) (t : FText) (behind : List ℕ) (n : ℕ) (ps : List Piece) → IsUtf8 ts → is_quote t.quotes.mark ≡ true
    → next ts ≡ Some (tokens.token (tokens.f_text (pieces_of (f_text_pieces t))) (f_text_spelling t), behind) → n ≡ length ts - length behind → ps ≡ f_text_pieces t → FTextCut ts n ps
cut_of ts t behind n ps u quote read size e =
    let f = next_found ts (tokens.token (tokens.f_text (pieces_of (f_text_pieces t))) (f_text_spelling t)) behind read in
    let front : ts ≡ f_text_spelling t ++ behind = f.front in
    let ends = side_ends t.quotes ((t.prefix ++ side t.quotes) ++ flat_map (item_spelling f_part_spelling t.quotes) t.items) (quote_ascii t.quotes.mark quote) in
    let cut = cut_at ts (f_text_spelling t) behind n u ends front size in
    let l = ap length front ∙ length-append (f_text_spelling t) behind in
    let m : n ≡ length (f_text_spelling t) = omega (arith, l, size) in
    let slice : take n ts ≡ f_text_spelling t = ap (λ (k : ℕ). take k ts) m ∙ (ap (take (length (f_text_spelling t))) front ∙ take-append_seam (f_text_spelling t) behind) in
    record {
      in_range = Cut.in_range cut;
      boundary = Cut.boundary cut;
      read = read
          ∙ (ap (λ (x : List Piece). Some (tokens.token (tokens.f_text (pieces_of x)) (f_text_spelling t), behind)) (sym e)
          ∙ (ap (λ (xs : List ℕ). Some (tokens.token (tokens.f_text (pieces_of ps)) xs, behind)) (sym slice)
          ∙ ap (λ (xs : List ℕ). Some (tokens.token (tokens.f_text (pieces_of ps)) (take n ts), xs)) (sym (Cut.back cut))));
    }

pub f_cut : (ts : List ℕ) (q : Quotes) (inside : List ℕ) (s : List Piece × List ℕ) (behind : List ℕ) (n : ℕ) (ps : List Piece) → IsUtf8 ts → Opens ts q inside → PiecesRead q inside s behind
    → n ≡ length ts - length behind → ps ≡ s.0 ++ characters_piece s.1 → FTextCut ts n ps
f_cut ts q inside s behind n ps u o r size e =
    cut_of ts (record { prefix = Opens.prefix o; quotes = q; items = PiecesRead.items r }) behind n ps u (Opens.quote o)
    (Opens.reads o ∙ ap (f_text_of (Opens.prefix o) q) (PiecesRead.read r)) size (e ∙ PiecesRead.pieces r)
