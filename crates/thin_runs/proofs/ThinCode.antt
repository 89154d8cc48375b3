-- Code of the thin form has a meaning and binds no names with underscores, and its cells are few.
use Rattle.std.proofs.Common.{◌≡◌, ◌∙◌, refl, sym, ap, subst, ℕ, Bool, ◌+◌, ◌≤◌, true, false, not, ◌&&◌, ◌||◌, List, [], ◌∷◌, ◌++◌, length, arith, leb-true, ⊎_elim}
use Rattle.std.specs.Prelude.{Some, slice_get, ◌==◌, nat_le, nat_lt, sum_by, codes, if◌then◌else◌}
use Rattle.std.specs.List.{list_all}
use Rattle.std.proofs.lemmas.List.Folds.{list_all-append}
use Rattle.std.proofs.lemmas.Bool.{and_from, and_parts, or_cases, or_left, or_right}
use Rattle.std.proofs.lemmas.List.Sums.{sum_by-cons}
use Rattle.std.proofs.lemmas.Slice.Eq.{bytes_eq-Decides}
use Rattle.std.specs.Str.{bytes_eq}
use Rattle.py_tree.specs.Elements.{is_mo, is_mo_ui}
use Rattle.py_tree.specs.Names.{Name, is_among, is_local, is_lower, is_upper, is_digit, begins_name, continues_name, is_spelled_name, is_identifier, keywords, unused_keywords, builtins, is_plain_name, is_name}
use Rattle.py_tree.specs.Meant.{level, has_meaning, arguments_have_meaning, head_has_meaning, are_targets, have_meaning}
use Rattle.py_tree.specs.Scope.{bound, head_binds}
use Rattle.py_tree.specs.Trees.{Tree, literal, name, binary, Add, attribute, call, Arguments, no_argument, positional, Head, value, assign, import_mo, stmt, Stmts, end, then_comes, Cell}
use Rattle.form_meaning.specs.Thin.{Elements, elements_of, is_number_tree, number_in, is_slider_name, is_maker, are_bounds, makes_slider, is_term, is_chain, terms, is_sum, is_target, is_line, is_empty, are_lines, line_count, is_whole, is_cell, are_cells, are_thin}
use Rattle.py_tree.proofs.NamesOf.{not_among_append}
use Rattle.thin_runs.proofs.ThinCells.{cell_lines, first_line, name_plain, nothing, thin_cell, unreserved}

-- ---- names

-- one test of three is one of four
three_of_four : (a b c u : Bool) → ((a || b) || c) ≡ true → (((a || u) || c) || b) ≡ true
three_of_four true b c u h = refl
three_of_four false true c u h = or_right (u || c) true refl
three_of_four false false true u h = or_left (u || true) false (or_right u true refl)
three_of_four false false false u h = nothing h

lower_begins : (c : ℕ) → is_lower c ≡ true → begins_name c ≡ true
lower_begins c h = ap (λ b. (b || is_upper c) || (c == 95)) h

tail_continues : (cs : List ℕ) → list_all (λ d. is_lower d || is_digit d || (d == 95)) cs ≡ true → list_all continues_name cs ≡ true
tail_continues [] h = refl
tail_continues (d ∷ ds) h =
    let p = and_parts (is_lower d || is_digit d || (d == 95)) (list_all (λ d. is_lower d || is_digit d || (d == 95)) ds) h in
    and_from (continues_name d) (list_all continues_name ds) (three_of_four (is_lower d) (is_digit d) (d == 95) (is_upper d) p.0) (tail_continues ds p.1)

plain_spelled : (x : Name) → is_plain_name x ≡ true → is_spelled_name x ≡ true
plain_spelled [] h = h
plain_spelled (c ∷ cs) h = let p = and_parts (is_lower c) (list_all (λ d. is_lower d || is_digit d || (d == 95)) cs) h in
    and_from (begins_name c) (list_all continues_name cs) (lower_begins c p.0) (tail_continues cs p.1)

name_identifier : (x : Name) → is_name x ≡ true → is_identifier x ≡ true
name_identifier x h =
    let others = (codes "app" ∷ codes "marimo" ∷ codes "mo" ∷ []) in
    let p = not_among_append x ((keywords ++ unused_keywords) ++ others) builtins (unreserved x h) in
    let q = not_among_append x (keywords ++ unused_keywords) others p.0 in
    let r = not_among_append x keywords unused_keywords q.0 in
    and_from (is_spelled_name x && not (is_among x keywords)) (not (is_among x unused_keywords))
    (and_from (is_spelled_name x) (not (is_among x keywords)) (plain_spelled x (and_parts (is_plain_name x) _ h).0) (ap not r.0)) (ap not r.1)

-- a word that is this name of the language
spelled : (x w : Name) → bytes_eq x w ≡ true → is_identifier w ≡ true → is_identifier x ≡ true
spelled x w h k = subst (λ y. is_identifier y ≡ true) (sym ((bytes_eq-Decides x w).0 h)) k

-- ---- trees

-- a tree that may stand before a dot or a bracket, and is spelled well
abbrev IsBase : Tree → Type 0
IsBase t = (nat_lt 9 (level t) ≡ true) × (has_meaning t ≡ true)

attribute_good : (base : Tree) (x w : Name) → IsBase base → bytes_eq x w ≡ true → is_identifier w ≡ true → IsBase (attribute base x)
attribute_good base x w b h k =
    (refl, and_from (has_meaning base && nat_lt 9 (level base)) (is_identifier x) (and_from (has_meaning base) (nat_lt 9 (level base)) b.1 b.0) (spelled x w h k))

mo_good : (t : Tree) → is_mo t ≡ true → IsBase t
mo_good (name x) h = (refl, spelled x (codes "mo") h refl)
mo_good t h = nothing h

mo_ui_good : (t : Tree) → is_mo_ui t ≡ true → IsBase t
mo_ui_good (attribute base x) h =
    let p = and_parts (is_mo base) (bytes_eq x (codes "ui")) h in
    attribute_good base x (codes "ui") (mo_good base p.0) p.1 refl
mo_ui_good t h = nothing h

maker_good : (t : Tree) → is_maker t ≡ true → IsBase t
maker_good (attribute base x) h =
    let p = and_parts (is_mo_ui base) (bytes_eq x (codes "slider")) h in
    attribute_good base x (codes "slider") (mo_ui_good base p.0) p.1 refl
maker_good t h = nothing h

number_meant : (t : Tree) → is_number_tree t ≡ true → has_meaning t ≡ true
number_meant (literal token) h = h
number_meant t h = nothing h

bounds_meant : (args : Arguments) → are_bounds args ≡ true → arguments_have_meaning args ≡ true
bounds_meant (positional a (positional b no_argument)) h =
    let p = and_parts (is_number_tree a && is_number_tree b) (nat_le (number_in a) (number_in b)) h in
    let q = and_parts (is_number_tree a) (is_number_tree b) p.0 in
    and_from (has_meaning a) (has_meaning b && true) (number_meant a q.0) (and_from (has_meaning b) true (number_meant b q.1) refl)
bounds_meant args h = nothing h

slider_meant : (t : Tree) → makes_slider t ≡ true → has_meaning t ≡ true
slider_meant (call callee args false) h =
    let p = and_parts (is_maker callee) (are_bounds args) h in
    let m = maker_good callee p.0 in
    and_from (has_meaning callee && nat_lt 9 (level callee)) (arguments_have_meaning args) (and_from (has_meaning callee) (nat_lt 9 (level callee)) m.1 m.0) (bounds_meant args p.1)
slider_meant t h = nothing h

slider_name_good : (es : Elements) (t : Tree) → is_slider_name es t ≡ true → IsBase t
slider_name_good es (name x) h = (refl, name_identifier x (and_parts (is_name x) (es.is_slider x) h).0)
slider_name_good es t h = nothing h

term_level : (es : Elements) (t : Tree) → is_term es t ≡ true → (nat_lt 6 (level t) ≡ true) × (has_meaning t ≡ true)
term_level es (literal token) h = (refl, h)
term_level es (name x) h = (refl, name_identifier x (and_parts (is_name x) (not (es.is_slider x)) h).0)
term_level es (attribute base x) h =
    let p = and_parts (is_slider_name es base) (bytes_eq x (codes "value")) h in
    (refl, (attribute_good base x (codes "value") (slider_name_good es base p.0) p.1 refl).1)
term_level es t h = nothing h

chain_meant : (es : Elements) (t : Tree) → is_chain es t ≡ true → has_meaning t ≡ true
chain_meant es (literal token) h = h
chain_meant es (name x) h = (term_level es (name x) h).1
chain_meant es (binary Add a b) h =
    let p = and_parts (is_chain es a) (is_term es b) h in
    let q = term_level es b p.1 in
    and_from (has_meaning a && nat_lt 6 (level b)) (has_meaning b) (and_from (has_meaning a) (nat_lt 6 (level b)) (chain_meant es a p.0) q.0) q.1
chain_meant es (attribute base x) h = (term_level es (attribute base x) h).1
chain_meant es t h = nothing h

sum_meant : (es : Elements) (t : Tree) → is_sum es t ≡ true → has_meaning t ≡ true
sum_meant es t h = chain_meant es t (and_parts (is_chain es t) (nat_le (terms t) 32) h).0

target_good : (es : Elements) (slider : Bool) (xs : List Name) → is_target es slider xs ≡ true → (are_targets xs ≡ true) × (list_all (λ y. not (is_local y)) xs ≡ true)
target_good es slider [] h = nothing h
target_good es slider (x ∷ []) h =
    let p = and_parts (is_name x) (if slider then es.is_slider x else not (es.is_slider x)) h in
    (and_from _ true (name_identifier x p.0) refl, and_from _ true (ap not (name_plain x p.0)) refl)
target_good es slider (x ∷ y ∷ xs) h = nothing h

-- ---- lines

abbrev IsGoodHead : Head → Type 0
IsGoodHead head = (head_has_meaning head ≡ true) × (list_all (λ y. not (is_local y)) (head_binds head) ≡ true)

-- a sum bound to a name, and a slider
bound_good : (es : Elements) (slider : Bool) (targets : List Name) (t : Tree) → is_target es slider targets ≡ true → has_meaning t ≡ true → IsGoodHead (assign targets t)
bound_good es slider targets t h k =
    let q = target_good es slider targets h in
    (and_from (are_targets targets) (has_meaning t) q.0 k, q.1)

head_good : (es : Elements) (head : Head) → is_line es head ≡ true → IsGoodHead head
head_good es (value t) h = (sum_meant es t h, refl)
head_good es (assign targets t) h =
    ⊎_elim
    (λ k. let p = and_parts (is_target es false targets) (is_sum es t) k in bound_good es false targets t p.0 (sum_meant es t p.1))
    (λ k.
    let p = and_parts (is_target es true targets && makes_slider t) es.imported k in
    let q = and_parts (is_target es true targets) (makes_slider t) p.0 in
    bound_good es true targets t q.0 (slider_meant t q.1))
    (or_cases (is_target es false targets && is_sum es t) (is_target es true targets && makes_slider t && es.imported) h)
head_good es import_mo h = (refl, refl)
head_good es head h = nothing h

empty_good : (b : Stmts) → is_empty b ≡ true → (have_meaning b ≡ true) × (bound b ≡ [])
empty_good end h = (refl, refl)
empty_good (then_comes s rest) h = nothing h

lines_good : (es : Elements) (n : ℕ) (b : Stmts) → are_lines es n b ≡ true → (have_meaning b ≡ true) × (list_all (λ y. not (is_local y)) (bound b) ≡ true)
lines_good es n end h = (refl, refl)
lines_good es n (then_comes (stmt k head block) rest) h =
    let f = first_line es n k head block rest h in
    let r = head_good es head f.line in
    let e = empty_good block f.empty in
    let s = lines_good es (n + 1) rest f.later in (
      and_from (head_has_meaning head && have_meaning block) (have_meaning rest) (and_from (head_has_meaning head) (have_meaning block) r.0 e.0) s.0,
      list_all-append (λ y. not (is_local y)) (head_binds head ++ bound block) (bound rest)
          ∙ and_from _ _ (list_all-append (λ y. not (is_local y)) (head_binds head) (bound block) ∙ and_from _ _ r.1 (ap (list_all (λ y. not (is_local y))) e.1)) s.1,
    )

-- ---- cells

-- Each cell's block has a meaning, and binds no names with underscores.
pub thin_good : (nb : List Cell) (c : ℕ) (code : Cell) → are_thin nb ≡ true → slice_get nb c ≡ Some code
    → (have_meaning code.body ≡ true) × (list_all (λ y. not (is_local y)) (bound code.body) ≡ true)
thin_good nb c code thin e =
    let t = thin_cell nb c code thin e in
    lines_good (elements_of nb) (t.0 + 2) code.body (cell_lines (elements_of nb) t.0 code t.1)

count_some : (b : Stmts) → not (is_empty b) ≡ true → 1 ≤ line_count b
count_some end h = nothing h
count_some (then_comes s rest) h = omega arith

cells_count : (es : Elements) (n : ℕ) (nb : List Cell) → are_cells es n nb ≡ true → length nb ≤ sum_by (λ (d : Cell). line_count d.body) nb
cells_count es n [] h = omega arith
cells_count es n (d ∷ ds) h =
    let p = and_parts (is_cell es n d) (are_cells es (n + 2 + line_count d.body) ds) h in
    let q = and_parts ((d.line == n) && not (is_empty d.body) && are_lines es (n + 2) d.body) (is_whole d.body) p.0 in
    let r = and_parts ((d.line == n) && not (is_empty d.body)) (are_lines es (n + 2) d.body) q.0 in
    let some = count_some d.body (and_parts (d.line == n) (not (is_empty d.body)) r.0).1 in
    omega (arith, some, sum_by-cons (λ (d : Cell). line_count d.body) d ds, cells_count es (n + 2 + line_count d.body) ds p.1)

-- There are at most 1,000 cells.
pub thin_few : (nb : List Cell) → are_thin nb ≡ true → length nb ≤ 1000
thin_few nb h =
    let es = elements_of nb in
    let p = and_parts (are_cells es 3 nb) (nat_le (sum_by (λ (d : Cell). line_count d.body) nb) 1000) h in
    let few : sum_by (λ (d : Cell). line_count d.body) nb ≤ 1000 = leb-true _ _ p.1 in
    omega (arith, few, cells_count es 3 nb p.0)
