-- Which word may follow a tree, and what a tree begins with.
use Rattle.std.proofs.Common.{◌≡◌, ℕ, ◌+◌, ◌<◌, ◌≤◌, Bool, true, false, List, [], ◌∷◌, length, Option, Some, None, refl, ap, ◌∙◌, subst, nat_lt, arith}
use Rattle.std.proofs.lemmas.Bool.Decides.{nat_tests}
use Rattle.py_tree.specs.Expressions as form
use Rattle.syntax_reading.specs.Words as is
use Rattle.py_tree.specs.Names.{Name}
use Rattle.py_tree.specs.Expressions.{Pieces, no_piece, characters, field, Operator, Prefix, Comparison, Tree, conditional, binary, prefixed, chain, is_none, power, call, index, slice, attribute, paren, tuple, list, dict, list_of, dict_of, bare, Trees, none, more, Links, done, link, Arguments, no_argument, positional, keyword, Pairs, no_pair, pair, Bound, left_out, at}
use Rattle.syntax_form.specs.Levels.{operator_level, prefix_level, level}
use Rattle.syntax_reading.specs.Words.{literal_of, is_none_spelled, is_free, Fixed, code, same, Word, name, literal, f_text, fixed}
use Rattle.syntax_reading.specs.Readers.{Read, Reader, choose, with_rest, on_table, is_word, on, guarded, Closing, by, at_end, on_closing}
use Rattle.syntax_reading.specs.Tables.{Level, E1, E2, E3, E4, E6, E7, E8, least, operator_at, prefix_at, comparison_of, Tail, tail_of}
use Rattle.syntax_reading.specs.Parts.{first_comparison, first_if, first_keyword, then_assign}
use Rattle.syntax_reading.proofs.Binding.{binding, binds, opening, opens}
use Rattle.syntax_reading.proofs.Shaped.{Shaped}
use Rattle.syntax_reading.proofs.Spelling.{closes, closed, spell_more, spell_all, spell_name, operator_word, prefix_word, comparison_then, is_then, spell, spell_list, spell_later, spell_links, spell_arguments, spell_later_arguments, spell_pairs, spell_later_pairs, spell_tests, spell_bound}
use Rattle.syntax_reading.proofs.Choices.{is_word_is, Ends}
use Rattle.syntax_reading.proofs.FoundParts.{operator_listed, prefix_listed}

pub guarded_by : {A : Type 0} (m n : ℕ) (r : Read A) → m < n → guarded (nat_lt m n) r ≡ r
guarded_by m n r h = let yes : nat_lt m n ≡ true = grind (arith, nat_tests) in rw yes refl

-- ---- a table whose words bind at least so tightly is passed where the next word binds less

pub on_table_skip : {A B : Type 0} (table : Fixed → Option B) (other_way : Read A) (take : B → Reader A) (k : ℕ) (ts : List Word) →
    ((f : Fixed) (b : B) → table f ≡ Some b → k ≤ binding f) → binds ts < k → on_table table other_way take ts ≡ other_way
on_table_skip table other_way take k [] h b = refl
on_table_skip {A} {B} table other_way take k (fixed f ∷ ts) h b = by_case (table f) refl
  where
    by_case : (o : Option B) → table f ≡ o → choose other_way take (with_rest ts o) ≡ other_way
    by_case None e = refl
    by_case (Some c) e = let le = h f c e in absurd (omega arith)
on_table_skip table other_way take k (w ∷ ts) h b = refl

-- a table whose words begin looser forms is passed where a tighter one begins
pub on_table_shut : {A B : Type 0} (table : Fixed → Option B) (other_way : Read A) (take : B → Reader A) (k : ℕ) (ts : List Word) →
    ((f : Fixed) (b : B) → table f ≡ Some b → opening f < k) → k ≤ opens ts → on_table table other_way take ts ≡ other_way
on_table_shut table other_way take k [] h b = refl
on_table_shut {A} {B} table other_way take k (fixed f ∷ ts) h b = by_case (table f) refl
  where
    by_case : (o : Option B) → table f ≡ o → choose other_way take (with_rest ts o) ≡ other_way
    by_case None e = refl
    by_case (Some c) e = let lt = h f c e in absurd (omega arith)
on_table_shut table other_way take k (w ∷ ts) h b = refl

pub on_skip : {A : Type 0} (f : Fixed) (other_way : Read A) (take : Reader A) (k : ℕ) (ts : List Word) → k ≤ binding f → binds ts < k → on f other_way take ts ≡ other_way
on_skip f other_way take k ts h b =
    on_table_skip (is_word f) other_way (λ u. take) k ts (λ g u e. subst (λ x. k ≤ binding x) (is_word_is f g u e) h) b

pub on_shut : {A : Type 0} (f : Fixed) (other_way : Read A) (take : Reader A) (ts : List Word) → opening f ≡ 0 → 1 ≤ opens ts → on f other_way take ts ≡ other_way
on_shut f other_way take ts h b =
    on_table_shut (is_word f) other_way (λ u. take) 1 ts (λ g u e. let o : opening g ≡ 0 = subst (λ x. opening x ≡ 0) (is_word_is f g u e) h in omega arith) b

-- ---- tables

pub operator_binds : (op : Operator) → binding (operator_word op) ≡ operator_level op
operator_binds form.Or = refl
operator_binds form.And = refl
operator_binds form.Add = refl
operator_binds form.Subtract = refl
operator_binds form.Multiply = refl
operator_binds form.Floor = refl
operator_binds form.Remainder = refl

pub operator_tight : (l : Level) (f : Fixed) (op : Operator) → operator_at l f ≡ Some op → least l ≤ binding f
operator_tight l f op e =
    let h = operator_listed l f op e in
    let b : binding f ≡ operator_level op = ap binding h.0 ∙ operator_binds op in
    let o = h.1 in
    omega arith

pub prefix_opens : (op : Prefix) → opening (prefix_word op) ≡ prefix_level op
prefix_opens form.Not = refl
prefix_opens form.Minus = refl
prefix_opens form.Plus = refl

pub prefix_loose : (l : Level) (f : Fixed) (op : Prefix) → prefix_at l f ≡ Some op → opening f < least l + 1
prefix_loose l f op e =
    let h = prefix_listed l f op e in
    let b : opening f ≡ prefix_level op = ap opening h.0 ∙ prefix_opens op in
    let o = h.1 in
    omega arith

pub tail_tight : (f : Fixed) (k : Tail) → tail_of f ≡ Some k → 10 ≤ binding f
tail_tight is.round_open k e = omega arith
tail_tight is.square_open k e = omega arith
tail_tight is.dot k e = omega arith
tail_tight f k e = absurd (cc)

comparison_tight : (f : Fixed) (c : Comparison) → comparison_of f ≡ Some c → 5 ≤ binding f
comparison_tight is.equal c e = omega arith
comparison_tight is.unequal c e = omega arith
comparison_tight is.less c e = omega arith
comparison_tight is.at_most c e = omega arith
comparison_tight is.greater c e = omega arith
comparison_tight is.at_least c e = omega arith
comparison_tight is.in_ c e = omega arith
comparison_tight f c e = absurd (cc)

pub no_comparison : (ts : List Word) → binds ts < 5 → first_comparison ts ≡ None
no_comparison ts b =
    on_table_skip comparison_of (on is.not_ None (λ us. on is.in_ None (λ vs. Some (form.NotIn, vs)) us) ts) (λ c us. Some (c, us)) 5 ts comparison_tight b ∙
    on_skip is.not_ None (λ us. on is.in_ None (λ vs. Some (form.NotIn, vs)) us) 5 ts (omega arith) b

pub comparison_at : (c : Comparison) (ts : List Word) → first_comparison (comparison_then c ts) ≡ Some (c, ts)
comparison_at form.Equal ts = refl
comparison_at form.Unequal ts = refl
comparison_at form.Less ts = refl
comparison_at form.AtMost ts = refl
comparison_at form.Greater ts = refl
comparison_at form.AtLeast ts = refl
comparison_at form.In ts = refl
comparison_at form.NotIn ts = refl

pub comparison_binds : (c : Comparison) (ts : List Word) → binds (comparison_then c ts) ≡ 5
comparison_binds form.Equal ts = refl
comparison_binds form.Unequal ts = refl
comparison_binds form.Less ts = refl
comparison_binds form.AtMost ts = refl
comparison_binds form.Greater ts = refl
comparison_binds form.AtLeast ts = refl
comparison_binds form.In ts = refl
comparison_binds form.NotIn ts = refl

pub comparison_longer : (c : Comparison) (ts : List Word) → length ts < length (comparison_then c ts)
comparison_longer form.Equal ts = omega arith
comparison_longer form.Unequal ts = omega arith
comparison_longer form.Less ts = omega arith
comparison_longer form.AtMost ts = omega arith
comparison_longer form.Greater ts = omega arith
comparison_longer form.AtLeast ts = omega arith
comparison_longer form.In ts = omega arith
comparison_longer form.NotIn ts = omega arith

pub on_is_comparison : {A : Type 0} (other_way : Read A) (take : Reader A) (c : Comparison) (ts : List Word) → on is.is_ other_way take (comparison_then c ts) ≡ other_way
on_is_comparison other_way take form.Equal ts = refl
on_is_comparison other_way take form.Unequal ts = refl
on_is_comparison other_way take form.Less ts = refl
on_is_comparison other_way take form.AtMost ts = refl
on_is_comparison other_way take form.Greater ts = refl
on_is_comparison other_way take form.AtLeast ts = refl
on_is_comparison other_way take form.In ts = refl
on_is_comparison other_way take form.NotIn ts = refl

pub no_if : (ts : List Word) → binds ts < 1 → first_if ts ≡ None
no_if ts b = on_skip is.if_ None (λ us. Some (tt, us)) 1 ts (omega arith) b

pub is_binds : (b : Bool) (ts : List Word) → binds (is_then b ts) ≡ 5
is_binds true ts = refl
is_binds false ts = refl

pub operator_there : (l : Level) (op : Operator) → operator_level op ≡ least l → operator_at l (operator_word op) ≡ Some op
operator_there E2 form.Or e = refl
operator_there E3 form.And e = refl
operator_there E6 form.Add e = refl
operator_there E6 form.Subtract e = refl
operator_there E7 form.Multiply e = refl
operator_there E7 form.Floor e = refl
operator_there E7 form.Remainder e = refl
operator_there E1 form.Or e = absurd (omega arith)
operator_there E4 form.Or e = absurd (omega arith)
operator_there E8 form.Or e = absurd (omega arith)
operator_there l op e = absurd (omega arith)

pub operator_word_loose : (op : Operator) (ts : List Word) → binds (fixed (operator_word op) ∷ ts) < 8
operator_word_loose form.Or ts = omega arith
operator_word_loose form.And ts = omega arith
operator_word_loose form.Add ts = omega arith
operator_word_loose form.Subtract ts = omega arith
operator_word_loose form.Multiply ts = omega arith
operator_word_loose form.Floor ts = omega arith
operator_word_loose form.Remainder ts = omega arith

-- ---- what closes a list

abbrev pub CloseFine : Closing → Type 0
CloseFine (by f) = (opening f ≡ 0) × (same is.comma f ≡ false)
CloseFine at_end = Unit {0}

pub same_refl : (f : Fixed) → same f f ≡ true
same_refl f = grind (arith, nat_tests)

pub on_closing_at : {A : Type 0} (c : Closing) (other_way : Read A) (take : Reader A) (rest : List Word) → Ends c rest → on_closing c other_way take (closes c rest) ≡ take rest
on_closing_at (by f) other_way take rest n = let e = same_refl f in rw e refl
on_closing_at at_end other_way take [] n = refl
on_closing_at at_end other_way take (w ∷ ws) n = absurd (cc)

pub on_closing_shut : {A : Type 0} (c : Closing) (other_way : Read A) (take : Reader A) (ts : List Word) → CloseFine c → 1 ≤ opens ts → on_closing c other_way take ts ≡ other_way
on_closing_shut (by f) other_way take ts h b = on_shut f other_way take ts h.0 b
on_closing_shut at_end other_way take [] h b = absurd (omega arith)
on_closing_shut at_end other_way take (w ∷ ws) h b = refl

pub no_comma : {A : Type 0} (c : Closing) (other_way : Read A) (take : Reader A) (rest : List Word) → CloseFine c → Ends c rest → on is.comma other_way take (closes c rest) ≡ other_way
no_comma (by f) other_way take rest h n = let e = h.1 in rw e refl
no_comma at_end other_way take [] h n = refl
no_comma at_end other_way take (w ∷ ws) h n = absurd (cc)

-- ---- what a tree begins with

pub opens_spell : (t : Tree) (rest : List Word) → Shaped t → level t ≤ opens (spell t rest)
opens_spell (conditional v t o) rest l = let h = opens_spell v (fixed is.if_ ∷ spell t (fixed is.else_ ∷ spell o rest)) l.1 in let k = l.0 in omega arith
opens_spell (binary op a b) rest l = let h = opens_spell a (fixed (operator_word op) ∷ spell b rest) l.1 in let k = l.0 in omega arith
opens_spell (prefixed op t) rest l = let h = prefix_opens op in omega arith
opens_spell (chain t c u ls) rest l = let h = opens_spell t (comparison_then c (spell u (spell_links ls rest))) l.1 in let k = l.0 in omega arith
opens_spell (is_none b t) rest l = let h = opens_spell t (is_then b rest) l.1 in let k = l.0 in omega arith
opens_spell (power t u) rest l = let h = opens_spell t (fixed is.stars ∷ spell u rest) l.1 in let k = l.0 in omega arith
opens_spell (call t args b) rest l = let h = opens_spell t (fixed is.round_open ∷ spell_arguments args b rest) l.1 in let k = l.0 in omega arith
opens_spell (index t u) rest l = let h = opens_spell t (fixed is.square_open ∷ spell u (fixed is.square_close ∷ rest)) l.1 in let k = l.0 in omega arith
opens_spell (slice t from until) rest l =
    let h = opens_spell t (fixed is.square_open ∷ spell_bound from (fixed is.colon ∷ spell_bound until (fixed is.square_close ∷ rest))) l.1 in let k = l.0 in omega arith
opens_spell (attribute t x) rest l = let h = opens_spell t (fixed is.dot ∷ name x ∷ rest) l.1 in let k = l.0 in omega arith
opens_spell (bare ts b) rest l = omega arith
opens_spell t rest l = omega arith

-- ---- spelling takes words

closed_longer : (b : Bool) (c : Closing) (rest : List Word) → length rest ≤ length (closed b c rest)
closed_longer true (by f) rest = omega arith
closed_longer false (by f) rest = omega arith
closed_longer true at_end rest = omega arith
closed_longer false at_end rest = omega arith

is_longer : (b : Bool) (rest : List Word) → length rest ≤ length (is_then b rest)
is_longer true rest = omega arith
is_longer false rest = omega arith

names_longer : (xs : List Name) (f : Fixed) (rest : List Word) → length rest ≤ length (spell_more spell_name xs false (by f) rest)
names_longer [] f rest = omega arith
names_longer (x ∷ xs) f rest = let h = names_longer xs f rest in omega arith

targets_longer : (xs : List Name) (f : Fixed) (rest : List Word) → length rest ≤ length (spell_all spell_name xs false (by f) rest)
targets_longer [] f rest = omega arith
targets_longer (x ∷ xs) f rest = let h = names_longer xs f rest in omega arith

mutual
  pub spell_longer : (t : Tree) (rest : List Word) → length rest ≤ length (spell t rest)
  spell_longer (conditional v t o) rest =
      let h = spell_longer o rest in
      let k = spell_longer t (fixed is.else_ ∷ spell o rest) in
      let m = spell_longer v (fixed is.if_ ∷ spell t (fixed is.else_ ∷ spell o rest)) in
      omega arith
  spell_longer (binary op a b) rest = let h = spell_longer b rest in let k = spell_longer a (fixed (operator_word op) ∷ spell b rest) in omega arith
  spell_longer (prefixed op t) rest = let h = spell_longer t rest in omega arith
  spell_longer (chain t c u ls) rest =
      let h = links_longer ls rest in
      let k = spell_longer u (spell_links ls rest) in
      let m = comparison_longer c (spell u (spell_links ls rest)) in
      let n = spell_longer t (comparison_then c (spell u (spell_links ls rest))) in
      omega arith
  spell_longer (is_none b t) rest = let h = is_longer b rest in let k = spell_longer t (is_then b rest) in omega arith
  spell_longer (power t u) rest = let h = spell_longer u rest in let k = spell_longer t (fixed is.stars ∷ spell u rest) in omega arith
  spell_longer (call t args b) rest = let h = arguments_longer args b rest in let k = spell_longer t (fixed is.round_open ∷ spell_arguments args b rest) in omega arith
  spell_longer (index t u) rest =
      let h = spell_longer u (fixed is.square_close ∷ rest) in let k = spell_longer t (fixed is.square_open ∷ spell u (fixed is.square_close ∷ rest)) in omega arith
  spell_longer (slice t from until) rest =
      let h = bound_longer until (fixed is.square_close ∷ rest) in
      let k = bound_longer from (fixed is.colon ∷ spell_bound until (fixed is.square_close ∷ rest)) in
      let m = spell_longer t (fixed is.square_open ∷ spell_bound from (fixed is.colon ∷ spell_bound until (fixed is.square_close ∷ rest))) in
      omega arith
  spell_longer (attribute t x) rest = let h = spell_longer t (fixed is.dot ∷ name x ∷ rest) in omega arith
  spell_longer (form.literal t) rest = omega arith
  spell_longer (form.f_text t ps) rest = omega arith
  spell_longer (form.name x) rest = omega arith
  spell_longer (paren t) rest = let h = spell_longer t (fixed is.round_close ∷ rest) in omega arith
  spell_longer (tuple ts b) rest = let h = list_longer ts b (by is.round_close) rest in omega arith
  spell_longer (list ts b) rest = let h = list_longer ts b (by is.square_close) rest in omega arith
  spell_longer (dict ps b) rest = let h = pairs_longer ps b rest in omega arith
  spell_longer (list_of t xs from tests) rest =
      let a = tests_longer tests (fixed is.square_close ∷ rest) in
      let after = spell_tests tests (fixed is.square_close ∷ rest) in
      let b = spell_longer from after in
      let c = targets_longer xs is.in_ (spell from after) in
      let d = spell_longer t (fixed is.for_ ∷ spell_all spell_name xs false (by is.in_) (spell from after)) in
      omega arith
  spell_longer (dict_of k t xs from tests) rest =
      let a = tests_longer tests (fixed is.brace_close ∷ rest) in
      let after = spell_tests tests (fixed is.brace_close ∷ rest) in
      let b = spell_longer from after in
      let c = targets_longer xs is.in_ (spell from after) in
      let clause = fixed is.for_ ∷ spell_all spell_name xs false (by is.in_) (spell from after) in
      let d = spell_longer t clause in
      let e = spell_longer k (fixed is.colon ∷ spell t clause) in
      omega arith
  spell_longer (bare ts b) rest = list_longer ts b at_end rest

  list_longer : (ts : Trees) (b : Bool) (c : Closing) (rest : List Word) → length rest ≤ length (spell_list ts b c rest)
  list_longer none b c rest = closed_longer b c rest
  list_longer (more t ts) b c rest = let h = later_longer ts b c rest in let k = spell_longer t (spell_later ts b c rest) in omega arith

  later_longer : (ts : Trees) (b : Bool) (c : Closing) (rest : List Word) → length rest ≤ length (spell_later ts b c rest)
  later_longer none b c rest = closed_longer b c rest
  later_longer (more t ts) b c rest = let h = later_longer ts b c rest in let k = spell_longer t (spell_later ts b c rest) in omega arith

  links_longer : (ls : Links) (rest : List Word) → length rest ≤ length (spell_links ls rest)
  links_longer done rest = omega arith
  links_longer (link c t ls) rest =
      let h = links_longer ls rest in let k = spell_longer t (spell_links ls rest) in let m = comparison_longer c (spell t (spell_links ls rest)) in omega arith

  arguments_longer : (args : Arguments) (b : Bool) (rest : List Word) → length rest ≤ length (spell_arguments args b rest)
  arguments_longer no_argument b rest = closed_longer b (by is.round_close) rest
  arguments_longer (positional t args) b rest = let h = later_arguments_longer args b rest in let k = spell_longer t (spell_later_arguments args b rest) in omega arith
  arguments_longer (keyword x t args) b rest = let h = later_arguments_longer args b rest in let k = spell_longer t (spell_later_arguments args b rest) in omega arith

  later_arguments_longer : (args : Arguments) (b : Bool) (rest : List Word) → length rest ≤ length (spell_later_arguments args b rest)
  later_arguments_longer no_argument b rest = closed_longer b (by is.round_close) rest
  later_arguments_longer (positional t args) b rest = let h = later_arguments_longer args b rest in let k = spell_longer t (spell_later_arguments args b rest) in omega arith
  later_arguments_longer (keyword x t args) b rest = let h = later_arguments_longer args b rest in let k = spell_longer t (spell_later_arguments args b rest) in omega arith

  pairs_longer : (ps : Pairs) (b : Bool) (rest : List Word) → length rest ≤ length (spell_pairs ps b rest)
  pairs_longer no_pair b rest = closed_longer b (by is.brace_close) rest
  pairs_longer (pair k t ps) b rest =
      let h = later_pairs_longer ps b rest in
      let m = spell_longer t (spell_later_pairs ps b rest) in
      let n = spell_longer k (fixed is.colon ∷ spell t (spell_later_pairs ps b rest)) in
      omega arith

  later_pairs_longer : (ps : Pairs) (b : Bool) (rest : List Word) → length rest ≤ length (spell_later_pairs ps b rest)
  later_pairs_longer no_pair b rest = closed_longer b (by is.brace_close) rest
  later_pairs_longer (pair k t ps) b rest =
      let h = later_pairs_longer ps b rest in
      let m = spell_longer t (spell_later_pairs ps b rest) in
      let n = spell_longer k (fixed is.colon ∷ spell t (spell_later_pairs ps b rest)) in
      omega arith

  tests_longer : (ts : Trees) (rest : List Word) → length rest ≤ length (spell_tests ts rest)
  tests_longer none rest = omega arith
  tests_longer (more t ts) rest = let h = tests_longer ts rest in let k = spell_longer t (spell_tests ts rest) in omega arith

  bound_longer : (b : Bound) (rest : List Word) → length rest ≤ length (spell_bound b rest)
  bound_longer left_out rest = omega arith
  bound_longer (at t) rest = spell_longer t rest

-- ---- a tree is no keyword argument

no_assign : {A : Type 0} (other_way : Read A) (take : Reader A) (ts : List Word) → binds ts < 12 → on is.assign other_way take ts ≡ other_way
no_assign other_way take ts b = on_skip is.assign other_way take 12 ts (omega arith) b

name_alone : (x : Name) (c : Bool) (rest : List Word) → binds rest < 12 → guarded c (then_assign x rest) ≡ None
name_alone x true rest b = no_assign None (λ us. Some (x, us)) rest b
name_alone x false rest b = refl

pub no_keyword : (t : Tree) (rest : List Word) → Shaped t → 1 ≤ level t → binds rest < 12 → first_keyword (spell t rest) ≡ None
no_keyword (conditional v t o) rest l h b = no_keyword v (fixed is.if_ ∷ spell t (fixed is.else_ ∷ spell o rest)) l.1 (let k = l.0 in omega arith) (omega arith)
no_keyword (binary op t u) rest l h b = no_keyword t (fixed (operator_word op) ∷ spell u rest) l.1 (let k = l.0 in omega arith) (let k = operator_word_loose op (spell u rest) in omega arith)
no_keyword (prefixed op t) rest l h b = refl
no_keyword (chain t c u ls) rest l h b =
    no_keyword t (comparison_then c (spell u (spell_links ls rest))) l.1 (let k = l.0 in omega arith) (let k = comparison_binds c (spell u (spell_links ls rest)) in omega arith)
no_keyword (is_none n t) rest l h b = no_keyword t (is_then n rest) l.1 (let k = l.0 in omega arith) (let k = is_binds n rest in omega arith)
no_keyword (power t u) rest l h b = no_keyword t (fixed is.stars ∷ spell u rest) l.1 (let k = l.0 in omega arith) (omega arith)
no_keyword (call t args c) rest l h b = no_keyword t (fixed is.round_open ∷ spell_arguments args c rest) l.1 (let k = l.0 in omega arith) (omega arith)
no_keyword (index t u) rest l h b = no_keyword t (fixed is.square_open ∷ spell u (fixed is.square_close ∷ rest)) l.1 (let k = l.0 in omega arith) (omega arith)
no_keyword (slice t from until) rest l h b =
    no_keyword t (fixed is.square_open ∷ spell_bound from (fixed is.colon ∷ spell_bound until (fixed is.square_close ∷ rest))) l.1 (let k = l.0 in omega arith) (omega arith)
no_keyword (attribute t x) rest l h b = no_keyword t (fixed is.dot ∷ name x ∷ rest) l.1 (let k = l.0 in omega arith) (omega arith)
no_keyword (form.name x) rest l h b = name_alone x (is_free x) rest b
no_keyword (bare ts c) rest l h b = absurd (omega arith)
no_keyword t rest l h b = refl
