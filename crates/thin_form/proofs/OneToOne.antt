-- What cells print is one to one.
use Rattle.std.proofs.Common.{◌≡◌, ℕ, ◌+◌, IsTrue, List, [], ◌∷◌, ◌++◌, refl, sym, ap, ◌∙◌, append_assoc, arith}
use Rattle.std.specs.Prelude.{flat_map}
use Rattle.std.proofs.lemmas.Bool.{and_parts, and_from}
use Rattle.std.proofs.lemmas.List.{append_cancel_left}
use Rattle.std.proofs.lemmas.List.Folds.{list_all-append}
use Rattle.py_tree.specs.TextLines.{is_unbroken, text_of}
use Rattle.py_tree.proofs.Breaks.{are_unbroken, lines_once}
use Rattle.thin_form.proofs.OneLine.{line_one, line_unbroken}
use Rattle.thin_form.proofs.Parts.{cell_parts, first_line}
use Rattle.form_meaning.specs.Thin.{Elements, IsForm, elements_of, are_lines, are_cells, are_thin, line_count, line_text, body_lines, cell_lines, decorator_line, definition_line, header, footer, file_lines}
use Rattle.py_tree.specs.Trees.{Head, stmt, Stmts, end, then_comes, Cell}

-- ---- the lines of a file

both_unbroken : (xs ys : List (List ℕ)) → IsTrue (are_unbroken xs) → IsTrue (are_unbroken ys) → IsTrue (are_unbroken (xs ++ ys))
both_unbroken xs ys p q = list_all-append is_unbroken xs ys ∙ and_from _ _ p q

-- the lines of a file hold no `\n`
unbroken_body : (es : Elements) (n : ℕ) (body : Stmts) → IsTrue (are_lines es n body) → IsTrue (are_unbroken (body_lines body))
unbroken_body es n end fits = refl
unbroken_body es n (then_comes (stmt number head block) rest) fits =
    let line = first_line es n number head block rest fits in
    and_from _ _ (line_unbroken es head line.fits) (unbroken_body es (n + 1) rest line.more)

unbroken_cells : (es : Elements) (n : ℕ) (cells : List Cell) → IsTrue (are_cells es n cells) → IsTrue (are_unbroken (flat_map cell_lines cells))
unbroken_cells es n [] fits = refl
unbroken_cells es n (c ∷ cs) fits =
    let all = and_parts _ _ fits in
    let cell = cell_parts es n c all.0 in
    both_unbroken (cell_lines c) (flat_map cell_lines cs) (unbroken_body es (n + 2) c.body cell.fits) (unbroken_cells es (n + 2 + line_count c.body) cs all.1)

pub unbroken_file : (es : Elements) (cells : List Cell) → IsTrue (are_cells es 3 cells) → IsTrue (are_unbroken (file_lines cells))
unbroken_file es cells fits =
    both_unbroken header (flat_map cell_lines cells ++ footer) refl (both_unbroken (flat_map cell_lines cells) footer (unbroken_cells es 3 cells fits) refl)

-- ---- bodies and cells from their lines

-- the first line isn't that of a body
abbrev NoBody : List (List ℕ) → Type 0
NoBody lines = (text : List ℕ) (more : List (List ℕ)) → lines ≡ (32 ∷ text) ∷ more → ⊥

-- a body and what comes after it
record SameBody (a b : Stmts) (x y : List (List ℕ)) : Type 0 where
  body : a ≡ b
  rest : x ≡ y

same_stmt : (n k j : ℕ) (h i : Head) (s t : Stmts) → k ≡ n → j ≡ n → h ≡ i → s ≡ end → t ≡ end → stmt k h s ≡ stmt j i t
same_stmt n k j h i s t first second same no_block no_other = cc

same_body : (es fs : Elements) (n : ℕ) (a b : Stmts) (x y : List (List ℕ)) → IsTrue (are_lines es n a) → IsTrue (are_lines fs n b) → NoBody x → NoBody y
    → body_lines a ++ x ≡ body_lines b ++ y → SameBody a b x y
same_body es fs n end end x y p q u v e = record { body = refl; rest = e }
same_body es fs n end (then_comes (stmt k h block) b) x y p q u v e = absurd (u _ _ e)
same_body es fs n (then_comes (stmt k h block) a) end x y p q u v e = absurd (v _ _ (sym e))
same_body es fs n (then_comes (stmt k h s) a) (then_comes (stmt j i t) b) x y p q u v e =
    let text : line_text h ≡ line_text i = cc in
    let later : body_lines a ++ x ≡ body_lines b ++ y = cc in
    let line = first_line es n k h s a p in
    let other = first_line fs n j i t b q in
    let same = same_stmt n k j h i s t line.at other.at (line_one es fs h i line.fits other.fits text) line.empty other.empty in
    let rest = same_body es fs (n + 1) a b x y line.more other.more u v later in
    record { body = ap (λ z. then_comes z a) same ∙ ap (λ z. then_comes (stmt j i t) z) rest.body; rest = rest.rest }

-- the lines from the first decorator on
abbrev cells_on : List Cell → List (List ℕ)
cells_on cells = flat_map cell_lines cells ++ footer

-- lines whose first bytes differ
heads_apart : (a b : ℕ) (x y : List ℕ) (xs ys : List (List ℕ)) → (a ≡ b → ⊥) → (a ∷ x) ∷ xs ≡ (b ∷ y) ∷ ys → ⊥
heads_apart a b x y xs ys h e = h cc

no_body : (cells : List Cell) → NoBody (cells_on cells)
no_body [] text more e = heads_apart 105 32 _ text _ more (λ p. omega arith) e
no_body (c ∷ cs) text more e = heads_apart 64 32 _ text _ more (λ p. omega arith) e

-- no cell begins as the last lines do
main_or_cell : (x y : List ℕ) (xs ys : List (List ℕ)) → (105 ∷ x) ∷ xs ≡ (64 ∷ y) ∷ ys → ⊥
main_or_cell x y xs ys e = heads_apart 105 64 x y xs ys (λ p. omega arith) e

-- the two lines that each cell begins with, its body, and the lines after it
cell_first : (c : Cell) (cs : List Cell) → cells_on (c ∷ cs) ≡ decorator_line ∷ definition_line ∷ (body_lines c.body ++ cells_on cs)
cell_first c cs = append_assoc (cell_lines c) (flat_map cell_lines cs) footer

same_cell : (c d : Cell) → c.line ≡ d.line → c.body ≡ d.body → c ≡ d
same_cell c d line body =
    let by_line : ℕ → Cell = λ n. record { line = n; body = c.body } in
    let by_body : Stmts → Cell = λ b. record { line = d.line; body = b } in
    ap by_line line ∙ ap by_body body

behind_heads : (a b : List ℕ) (x y : List (List ℕ)) → a ∷ b ∷ x ≡ a ∷ b ∷ y → x ≡ y
behind_heads a b x y e = cc

-- cells have their lines once
cells_once : (es fs : Elements) (n : ℕ) (nb other : List Cell) → IsTrue (are_cells es n nb) → IsTrue (are_cells fs n other) → cells_on nb ≡ cells_on other → nb ≡ other
cells_once es fs n [] [] p q e = refl
cells_once es fs n [] (d ∷ ds) p q e = absurd (main_or_cell _ _ _ _ e)
cells_once es fs n (c ∷ cs) [] p q e = absurd (main_or_cell _ _ _ _ (sym e))
cells_once es fs n (c ∷ cs) (d ∷ ds) p q e =
    let all = and_parts _ _ p in
    let others = and_parts _ _ q in
    let cell = cell_parts es n c all.0 in
    let other = cell_parts fs n d others.0 in
    let lines = behind_heads decorator_line definition_line _ _ (sym (cell_first c cs) ∙ (e ∙ cell_first d ds)) in
    let parts = same_body es fs (n + 2) c.body d.body (cells_on cs) (cells_on ds) cell.fits other.fits (no_body cs) (no_body ds) lines in
    let more : IsTrue (are_cells es (n + 2 + line_count d.body) cs) = rw (ap line_count parts.body) at all.1 in
    let rest = cells_once es fs (n + 2 + line_count d.body) cs ds more others.1 parts.rest in
    ap (λ z. z ∷ cs) (same_cell c d (cell.at ∙ sym other.at) parts.body) ∙ ap (λ zs. d ∷ zs) rest

pub same_cells : (nb other : List Cell) → IsTrue (are_thin nb) → IsTrue (are_thin other) → text_of (file_lines nb) ≡ text_of (file_lines other) → nb ≡ other
same_cells nb other p q e =
    let es = elements_of nb in
    let fs = elements_of other in
    let cells = (and_parts _ _ p).0 in
    let others = (and_parts _ _ q).0 in
    let lines = lines_once (file_lines nb) (file_lines other) (unbroken_file es nb cells) (unbroken_file fs other others) e in
    cells_once es fs 3 nb other cells others (append_cancel_left header _ _ lines)

pub same_form : (bytes : List ℕ) (nb other : List Cell) → IsForm bytes nb → IsForm bytes other → nb ≡ other
same_form bytes nb other form also = same_cells nb other form.thin also.thin (sym form.text ∙ also.text)
