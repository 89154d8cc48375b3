-- What cells of the thin form read: no names that begin with an underscore, no builtins, and none of the elements that they create.
use Rattle.std.proofs.Common.{◌≡◌, ℕ, zero, suc, ◌+◌, ◌≤◌, Bool, true, false, not, ◌&&◌, ◌==◌, ◌⊎◌, inl, inr, ⊎_elim, nat_le, List, [], ◌∷◌, ◌++◌, Option, Some, None, refl, sym, ap, ◌∙◌, subst, arith, leb-true, slice_get}
use Rattle.std.specs.Prelude.{codes}
use Rattle.std.proofs.lemmas.Bool.{both_ways, and_parts, or_cases, not-true, not_from_false, or_from, false_from_ne_true, eqb-true}
use Rattle.std.proofs.lemmas.List.Folds.{list_any-append}
use Rattle.std.proofs.lemmas.Option.{none-some, same_Some}
use Rattle.py_tree.specs.Elements.{is_mo, is_mo_ui, ui_kind, created_by, head_elements, created, elements}
use Rattle.py_tree.specs.Names.{Name, is_among, is_local, is_lower, builtins, keywords, unused_keywords, reserved, is_plain_name, is_name}
use Rattle.py_tree.specs.Scope.{reads, all_reads, head_binds, head_reads, bound, read_names, defs, refs}
use Rattle.py_tree.specs.Trees.{Tree, literal, name, binary, Add, attribute, call, Arguments, no_argument, positional, Head, value, assign, import_mo, stmt, Stmts, end, then_comes, Cell}
use Rattle.py_value.specs.Maps.{Map}
use Rattle.py_value.specs.declared.types.Value.{Value}
use Rattle.run_meaning.specs.Meaning.{Env}
use Rattle.visit_meaning.specs.Runnable.{LikeOutcome, SameOutcome}
use Rattle.form_meaning.specs.Thin.{Elements, is_number_tree, is_slider_name, is_term, is_chain, is_sum, is_maker, are_bounds, makes_slider, is_target, is_line, stands_alone, is_empty, are_lines, line_count, is_plain, is_whole, is_cell, are_cells, elements_of, are_thin}
use Rattle.visit_meaning.specs.Whole.{without_defs, outcome_of}
use Rattle.py_value.proofs.SortedMaps.{name_of}
use Rattle.visit_meaning.proofs.LookUps.{Agree, among_one, among_left, among_right, bound_defs, read_refs}
use Rattle.visit_meaning.proofs.Coincidence.{without_both, same_by_reads, same_but_present}

pub among_cases : (x : Name) (xs ys : List Name) → is_among x (xs ++ ys) ≡ true → (is_among x xs ≡ true) ⊎ (is_among x ys ≡ true)
among_cases x xs ys h = or_cases _ _ (sym (list_any-append _ xs ys) ∙ h)

pub nothing : {A : Type 0} → false ≡ true → A
nothing h = absurd (both_ways false refl h)

-- ---- names

-- a name of the thin form
pub name_plain : (x : Name) → is_name x ≡ true → is_local x ≡ false
name_plain [] h = nothing h
name_plain (c ∷ cs) h = false_from_ne_true _ (λ underscore.
    let low : 97 ≤ c = leb-true 97 c (and_parts _ _ (and_parts (is_lower c) _ (and_parts _ _ h).0).0).0 in
    let same : c ≡ 95 = eqb-true c 95 underscore in
    absurd (omega arith))

pub unreserved : (x : Name) → is_name x ≡ true → is_among x reserved ≡ false
unreserved x h = not-true _ (and_parts (is_plain_name x) _ h).1

name_no_builtin : (x : Name) → is_name x ≡ true → is_among x builtins ≡ false
name_no_builtin x h = false_from_ne_true _ (λ here. both_ways _ (unreserved x h)
    (among_right x (keywords ++ unused_keywords ++ (codes "app" ∷ codes "marimo" ∷ codes "mo" ∷ [])) builtins here))

name_not_mo : (x : Name) → is_name x ≡ true → codes "mo" ≡ x → ⊥
name_not_mo x h same = both_ways _ (unreserved x h)
    (ap (λ z. is_among z reserved) (sym same))

-- ---- what a line reads

slider_name_read : (es : Elements) (x : Name) (t : Tree) → is_slider_name es t ≡ true → is_among x (reads t) ≡ true → is_name x ≡ true
slider_name_read es x (name y) h here = subst (λ z. is_name z ≡ true) (among_one x y here) (and_parts _ _ h).0
slider_name_read es x t h here = nothing h

term_read : (es : Elements) (x : Name) (t : Tree) → is_term es t ≡ true → is_among x (reads t) ≡ true → is_name x ≡ true
term_read es x (literal token) h here = nothing here
term_read es x (name y) h here = subst (λ z. is_name z ≡ true) (among_one x y here) (and_parts _ _ h).0
term_read es x (attribute base y) h here = slider_name_read es x base (and_parts _ _ h).0 here
term_read es x t h here = nothing h

chain_read : (es : Elements) (x : Name) (t : Tree) → is_chain es t ≡ true → is_among x (reads t) ≡ true → is_name x ≡ true
chain_read es x (binary Add a b) h here = ⊎_elim
    (chain_read es x a (and_parts _ _ h).0)
    (term_read es x b (and_parts _ _ h).1)
    (among_cases x (reads a) (reads b) here)
chain_read es x (literal token) h here = nothing here
chain_read es x (name y) h here = term_read es x (name y) h here
chain_read es x (attribute base y) h here = term_read es x (attribute base y) h here
chain_read es x t h here = nothing h

number_read : (x : Name) (t : Tree) → is_number_tree t ≡ true → is_among x (reads t) ≡ true → ⊥
number_read x (literal token) h here = nothing here
number_read x t h here = nothing h

bounds_read : (x : Name) (args : Arguments) → are_bounds args ≡ true → is_among x (all_reads args) ≡ true → ⊥
bounds_read x (positional a (positional b no_argument)) h here =
    let both = and_parts (is_number_tree a && is_number_tree b) _ h in
    let each = and_parts (is_number_tree a) (is_number_tree b) both.0 in
    ⊎_elim (number_read x a each.0)
    (λ later. ⊎_elim (number_read x b each.1) (λ no_more. nothing no_more) (among_cases x (reads b) [] later))
    (among_cases x (reads a) (reads b ++ []) here)
bounds_read x args h here = nothing h

mo_read : (x : Name) (t : Tree) → is_mo t ≡ true → is_among x (reads t) ≡ true → codes "mo" ≡ x
mo_read x (name z) h here = sym (name_of z (codes "mo") h) ∙ among_one x z here
mo_read x t h here = nothing h

mo_ui_read : (x : Name) (t : Tree) → is_mo_ui t ≡ true → is_among x (reads t) ≡ true → codes "mo" ≡ x
mo_ui_read x (attribute base y) h here = mo_read x base (and_parts _ _ h).0 here
mo_ui_read x t h here = nothing h

maker_read : (x : Name) (t : Tree) → is_maker t ≡ true → is_among x (reads t) ≡ true → codes "mo" ≡ x
maker_read x (attribute base y) h here = mo_ui_read x base (and_parts _ _ h).0 here
maker_read x t h here = nothing h

-- `mo.ui.slider(LOW, HIGH)` reads `mo` alone
slider_read : (x : Name) (t : Tree) → makes_slider t ≡ true → is_among x (reads t) ≡ true → codes "mo" ≡ x
slider_read x (call callee args false) h here = ⊎_elim
    (maker_read x callee (and_parts _ _ h).0)
    (λ later. absurd (bounds_read x args (and_parts _ _ h).1 later))
    (among_cases x (reads callee) (all_reads args) here)
slider_read x t h here = nothing h

-- a name, or `mo`
abbrev IsRead : Name → Type 0
IsRead x = (is_name x ≡ true) ⊎ (codes "mo" ≡ x)

line_read : (es : Elements) (x : Name) (h : Head) → is_line es h ≡ true → is_among x (head_reads h) ≡ true → IsRead x
line_read es x (value t) h here = inl (chain_read es x t (and_parts _ _ h).0 here)
line_read es x (assign targets t) h here = ⊎_elim
    (λ plain. inl (chain_read es x t (and_parts (is_chain es t) _ (and_parts (is_target es false targets) (is_sum es t) plain).1).0 here))
    (λ slider. inr (slider_read x t (and_parts (is_target es true targets) (makes_slider t) (and_parts (is_target es true targets && makes_slider t) es.imported slider).0).1 here))
    (or_cases (is_target es false targets && is_sum es t) (is_target es true targets && makes_slider t && es.imported) h)
line_read es x import_mo h here = nothing here
line_read es x head h here = nothing h

-- ---- what a line creates

pub created_one : (k : Option Name) (x y : Name) → is_among x (created_by k y) ≡ true → y ≡ x
created_one None x y h = nothing h
created_one (Some kind) x y h = among_one x y h

-- A line that creates an element stands alone, and reads `mo` alone.
record IsMade (x : Name) (h : Head) : Type 0 where
  named : is_name x ≡ true
  alone : stands_alone h ≡ true
  reads_mo : (y : Name) → is_among y (head_reads h) ≡ true → codes "mo" ≡ y

made_line : (es : Elements) (x : Name) (h : Head) → is_line es h ≡ true → is_among x (head_elements h) ≡ true → IsMade x h
made_line es x (assign (y ∷ []) (call callee args comma)) h here = ⊎_elim
    (λ plain. nothing (and_parts (is_target es false (y ∷ [])) _ plain).1)
    (λ slider.
    let both = and_parts (is_target es true (y ∷ [])) (makes_slider (call callee args comma)) (and_parts (is_target es true (y ∷ []) && makes_slider (call callee args comma)) es.imported slider).0 in
    record {
      named = subst (λ z. is_name z ≡ true) (created_one (ui_kind callee) x y here) (and_parts (is_name y) _ both.0).0;
      alone = both.1;
      reads_mo = λ z read. slider_read z (call callee args comma) both.1 read;
    })
    (or_cases (is_target es false (y ∷ []) && is_sum es (call callee args comma)) (is_target es true (y ∷ []) && makes_slider (call callee args comma) && es.imported) h)
made_line es x h line here = nothing here

-- ---- lines

empty_read : (x : Name) (block : Stmts) → is_empty block ≡ true → is_among x (read_names block) ≡ true → ⊥
empty_read x end h here = nothing here
empty_read x (then_comes s rest) h here = nothing h

-- the parts of the first line
pub record First (es : Elements) (n k : ℕ) (head : Head) (block rest : Stmts) : Type 0 where
  pub line : is_line es head ≡ true
  pub empty : is_empty block ≡ true
  pub later : are_lines es (n + 1) rest ≡ true

pub first_line : (es : Elements) (n k : ℕ) (head : Head) (block rest : Stmts) → are_lines es n (then_comes (stmt k head block) rest) ≡ true
    → First es n k head block rest
first_line es n k head block rest h =
    let all = and_parts ((k == n) && is_line es head && is_empty block) (are_lines es (n + 1) rest) h in
    let front = and_parts ((k == n) && is_line es head) (is_empty block) all.0 in
    record { line = (and_parts (k == n) (is_line es head) front.0).1; empty = front.1; later = all.1 }

-- a name that is read stands in the first line or in the others
read_cases : (es : Elements) (n k : ℕ) (head : Head) (block rest : Stmts) (x : Name) → First es n k head block rest
    → is_among x (read_names (then_comes (stmt k head block) rest)) ≡ true
    → (is_among x (head_reads head) ≡ true) ⊎ (is_among x (read_names rest) ≡ true)
read_cases es n k head block rest x f here = ⊎_elim
    (λ front. ⊎_elim (λ first. inl first) (λ inner. absurd (empty_read x block f.empty inner)) (among_cases x (head_reads head) (read_names block) front))
    (λ later. inr later)
    (among_cases x (head_reads head ++ read_names block) (read_names rest) here)

lines_read : (es : Elements) (n : ℕ) (x : Name) (b : Stmts) → are_lines es n b ≡ true → is_among x (read_names b) ≡ true → IsRead x
lines_read es n x end h here = nothing here
lines_read es n x (then_comes (stmt k head block) rest) h here =
    let f = first_line es n k head block rest h in
    ⊎_elim (line_read es x head f.line) (lines_read es (n + 1) x rest f.later) (read_cases es n k head block rest x f here)

-- lines of which none stands alone create nothing
pub plain_creates : (es : Elements) (n : ℕ) (x : Name) (b : Stmts) → are_lines es n b ≡ true → is_plain b ≡ true → is_among x (created b) ≡ true → ⊥
plain_creates es n x end h plain here = nothing here
plain_creates es n x (then_comes (stmt k head block) rest) h plain here =
    let f = first_line es n k head block rest h in
    let shared = and_parts (not (stands_alone head)) (is_plain rest) plain in
    ⊎_elim
    (λ first. let made = made_line es x head f.line first in both_ways _ (not-true _ shared.0) made.alone)
    (plain_creates es (n + 1) x rest f.later shared.1)
    (among_cases x (head_elements head) (created rest) here)

-- one line, which creates the element, doesn't read it
one_apart : (es : Elements) (n : ℕ) (x : Name) (b : Stmts) → are_lines es n b ≡ true → line_count b ≤ 1 → is_among x (created b) ≡ true
    → is_among x (read_names b) ≡ true → ⊥
one_apart es n x end h short here read = nothing read
one_apart es n x (then_comes (stmt k head block) end) h short here read =
    let f = first_line es n k head block end h in
    ⊎_elim
    (λ first. ⊎_elim
    (λ read_first. let made = made_line es x head f.line first in name_not_mo x made.named (made.reads_mo x read_first))
    nothing
    (read_cases es n k head block end x f read))
    nothing
    (among_cases x (head_elements head) [] here)
one_apart es n x (then_comes s (then_comes t rest)) h short here read = absurd (omega arith)

-- ---- cells

pub cell_lines : (es : Elements) (n : ℕ) (c : Cell) → is_cell es n c ≡ true → are_lines es (n + 2) c.body ≡ true
cell_lines es n c h =
    (and_parts ((c.line == n) && not (is_empty c.body)) (are_lines es (n + 2) c.body)
    (and_parts ((c.line == n) && not (is_empty c.body) && are_lines es (n + 2) c.body) (is_whole c.body) h).0).1

-- A name that a cell of the thin form reads begins with no underscore, and is no builtin.
pub thin_read : (es : Elements) (n : ℕ) (c : Cell) (x : Name) → is_cell es n c ≡ true → is_among x (read_names c.body) ≡ true
    → (is_local x ≡ false) × (is_among x builtins ≡ false)
thin_read es n c x h here = ⊎_elim
    (λ name. (name_plain x name, name_no_builtin x name))
    (λ mo. (ap is_local (sym mo), ap (λ z. is_among z builtins) (sym mo)))
    (lines_read es (n + 2) x c.body (cell_lines es n c h) here)

-- A cell of the thin form reads none of the elements that it creates.
pub thin_apart : (es : Elements) (n : ℕ) (c : Cell) → is_cell es n c ≡ true → (x : Name) → is_among x (read_names c.body) ≡ true
    → is_among x (elements c) ≡ false
thin_apart es n c h x read = false_from_ne_true _ (λ here.
    let lines = cell_lines es n c h in
    ⊎_elim
    (λ short. one_apart es (n + 2) x c.body lines (leb-true _ _ short) here read)
    (λ plain. plain_creates es (n + 2) x c.body lines plain here)
    (or_cases (nat_le (line_count c.body) 1) (is_plain c.body)
    (and_parts ((c.line == n) && not (is_empty c.body) && are_lines es (n + 2) c.body) (is_whole c.body) h).1))

pub created_named : (es : Elements) (n : ℕ) (x : Name) (b : Stmts) → are_lines es n b ≡ true → is_among x (created b) ≡ true → is_name x ≡ true
created_named es n x end h here = nothing here
created_named es n x (then_comes (stmt k head block) rest) h here =
    let f = first_line es n k head block rest h in
    ⊎_elim
    (λ first. let made = made_line es x head f.line first in made.named)
    (created_named es (n + 1) x rest f.later)
    (among_cases x (head_elements head) (created rest) here)

by_target : (k : Option Name) (x y : Name) → is_among x (created_by k y) ≡ true → is_among x (y ∷ []) ≡ true
by_target None x y h = nothing h
by_target (Some kind) x y h = h

head_bound : (x : Name) (h : Head) → is_among x (head_elements h) ≡ true → is_among x (head_binds h) ≡ true
head_bound x (assign (y ∷ []) (call callee args comma)) here = by_target (ui_kind callee) x y here
head_bound x h here = nothing here

created_bound : (x : Name) (b : Stmts) → is_among x (created b) ≡ true → is_among x (bound b) ≡ true
created_bound x end here = nothing here
created_bound x (then_comes (stmt k head block) rest) here = ⊎_elim
    (λ first. among_left x (head_binds head ++ bound block) (bound rest) (among_left x (head_binds head) (bound block) (head_bound x head first)))
    (λ later. among_right x (head_binds head ++ bound block) (bound rest) (created_bound x rest later))
    (among_cases x (head_elements head) (created rest) here)

-- The elements that a cell of the thin form creates are among its definitions.
pub thin_element : (es : Elements) (n : ℕ) (c : Cell) (x : Name) → is_cell es n c ≡ true → is_among x (elements c) ≡ true → is_among x (defs c) ≡ true
thin_element es n c x h here =
    bound_defs c x (created_bound x c.body here) (name_plain x (created_named es (n + 2) x c.body (cell_lines es n c h) here))

among_cells : (es : Elements) (n : ℕ) (cells : List Cell) (c : ℕ) (code : Cell) → are_cells es n cells ≡ true → slice_get cells c ≡ Some code
    → (k : ℕ) × (is_cell es k code ≡ true)
among_cells es n [] c code h e = absurd (none-some code e)
among_cells es n (d ∷ ds) zero code h e =
    (n, subst (λ d. is_cell es n d ≡ true) (same_Some d code e) (and_parts (is_cell es n d) (are_cells es (n + 2 + line_count d.body) ds) h).0)
among_cells es n (d ∷ ds) (suc c) code h e =
    among_cells es (n + 2 + line_count d.body) ds c code (and_parts (is_cell es n d) (are_cells es (n + 2 + line_count d.body) ds) h).1 e

-- Each cell of a notebook of the thin form is one of the form.
pub thin_cell : (nb : List Cell) (c : ℕ) (code : Cell) → are_thin nb ≡ true → slice_get nb c ≡ Some code
    → (n : ℕ) × (is_cell (elements_of nb) n code ≡ true)
thin_cell nb c code thin e = among_cells (elements_of nb) 3 nb c code (and_parts (are_cells (elements_of nb) 3 nb) _ thin).0 e

-- Bindings that agree at the names that a cell of the thin form references agree at all that it reads.
pub thin_agree : (es : Elements) (n : ℕ) (c : Cell) (env env' : Env) → is_cell es n c ≡ true → Agree (refs c) env env'
    → Agree (read_names c.body) (without_defs c env) (without_defs c env')
thin_agree es n c env env' h agree x here =
    let plain = thin_read es n c x h here in
    without_both c env env' x (λ undefined.
    let unbound : is_among x (bound c.body) ≡ false = false_from_ne_true _ (λ b. both_ways _ undefined (bound_defs c x b plain.0)) in
    agree x (read_refs c x here (not_from_false _ (or_from _ _ (or_from _ _ unbound plain.0) plain.1))))

-- So a cell of the thin form does the same where the bindings agree at the names that it references.
pub thin_same : (es : Elements) (n : ℕ) (budget : ℕ) (ui : Map Value) (may_run : Bool) (c : ℕ) (env env' : Env) (code : Cell)
    → is_cell es n code ≡ true → Agree (refs code) env env'
    → SameOutcome (defs code) (outcome_of budget ui may_run c env code) (outcome_of budget ui may_run c env' code)
thin_same es n budget ui may_run c env env' code h agree =
    let same = same_by_reads budget ui ui may_run c env env' code (thin_agree es n code env env' h agree) (λ x here. refl) in
    record { frame = same.frame; cost = same.cost; defined = same.defined }

-- With other present values it does the same, but for the present values of the elements that it creates.
pub thin_but_present : (es : Elements) (n : ℕ) (budget : ℕ) (ui ui' : Map Value) (may_run : Bool) (c : ℕ) (env : Env) (code : Cell)
    → is_cell es n code ≡ true
    → LikeOutcome ui ui' (defs code) (outcome_of budget ui may_run c env code) (outcome_of budget ui' may_run c env code)
thin_but_present es n budget ui ui' may_run c env code h =
    let alike = same_but_present budget ui ui' may_run c env env code (λ x here. refl) (thin_apart es n code h) in
    record { frame = alike.frame; cost = alike.cost; defined = λ x here. (alike.defined x here).bound }
