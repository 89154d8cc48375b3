-- The run of a cell depends on the bindings of the names that it reads, and on the present values of the elements that it creates.
use Rattle.std.proofs.Common.{◌≡◌, ℕ, ◌-◌, Bool, true, false, cond, not, if◌then◌else◌, nat_le, List, [], ◌∷◌, ◌++◌, Option, Some, None, Result, Ok, Err, refl, sym, ap, ◌∙◌, subst}
use Rattle.std.specs.Prelude.{codes, option_and_then}
use Rattle.std.specs.Str.{bytes_eq}
use Rattle.std.proofs.lemmas.Option.{none-some, cond_some}
use Rattle.std.proofs.lemmas.Bool.{both_ways, and_parts, or_left}
use Rattle.py_tree.specs.Elements.{is_mo, is_mo_ui, ui_kind, created_by, head_elements, created, elements}
use Rattle.py_tree.specs.Names.{Name, is_among, is_local}
use Rattle.py_tree.specs.Scope.{reads, all_reads, head_binds, head_reads, bound, read_names, defs}
use Rattle.py_tree.specs.Trees.{Tree, name, binary, Add, attribute, call, Arguments, no_argument, positional, keyword, Head, value, assign, import_mo, stmt, Stmts, end, then_comes, Cell}
use Rattle.py_value.specs.ElementData.{ElementData}
use Rattle.py_value.specs.Elements.{kind_called, at_kept}
use Rattle.py_value.specs.Maps.{Map, look_up, put, where_name}
use Rattle.py_value.specs.Whole.{sum_of}
use Rattle.py_value.specs.declared.kinds.Kind.{Kind}
use Rattle.py_value.specs.declared.op_fault.OpFault.{OpFault}
use Rattle.py_value.specs.declared.types.Value.{Value}
use Rattle.py_value.specs.declared.types.Value.TheVariants as V
use Rattle.py_value.specs.declared.error_kind.ErrorKind.{ErrorKind}
use Rattle.py_value.specs.declared.error_kind.ErrorKind.TheVariants.{Subset}
use Rattle.run_meaning.specs.Trace.{Trace, Gives, Faults, Charges, Prints, ◌>>=◌}
use Rattle.run_meaning.specs.Spending.{Spending, Got, Failed, Spent, then_spend, pay, show, spend, runs, cost_of}
use Rattle.run_meaning.specs.Meaning.{Env, Scene, Flow, read, read_module, result_at, present_of, value_of, values_after, element_at, element_by, call_of, calls_for, right_of, bind, head_of, lines_of, block_of}
use Rattle.visit_meaning.specs.Runnable.{SameBinding, same_bound, one_element}
use Rattle.visit_meaning.specs.Whole.{shown, ran_frame, without_defs, env_after, Outcome, outcome_of}
use Rattle.run_meaning.specs.declared.binding.Binding.{Binding}
use Rattle.run_meaning.specs.declared.binding.Binding.TheVariants.{Plain, Module}
use Rattle.frames.specs.declared.frame.Status.TheVariants as status
use Rattle.py_value.proofs.SortedMaps.{look_up-where_name}
use Rattle.visit_meaning.proofs.LookUps.{Agree, agree_left, agree_right, among_first, among_left, among_right, put_related, put_both, where_related}

-- ---- traces and runs that are alike

-- two traces that do the same, and give what is related
pub data Alike {A : Type 0} (R : A → A → Type 0) : Trace A → Trace A → Type 0 where
  gives : {a b : A} → R a b → Alike R (Gives a) (Gives b)
  faults : {k : ErrorKind} {line : ℕ} → Alike R (Faults k line) (Faults k line)
  charges : {n line : ℕ} {t u : Trace A} → Alike R t u → Alike R (Charges n line t) (Charges n line u)
  prints : {x : List ℕ} {t u : Trace A} → Alike R t u → Alike R (Prints x t) (Prints x u)

-- a trace and itself
pub alike_same : {A : Type 0} (R : A → A → Type 0) → ((a : A) → R a a) → (t : Trace A) → Alike R t t
alike_same R one (Gives a) = gives (one a)
alike_same R one (Faults k line) = faults
alike_same R one (Charges n line t) = charges (alike_same R one t)
alike_same R one (Prints x t) = prints (alike_same R one t)

pub alike_equal : {A : Type 0} (R : A → A → Type 0) → ((a : A) → R a a) → (t u : Trace A) → t ≡ u → Alike R t u
alike_equal R one t u same = subst (Alike R t) same (alike_same R one t)

-- they go on alike
pub alike_then : {A B : Type 0} {R : A → A → Type 0} (S : B → B → Type 0) {t u : Trace A} (f g : A → Trace B) → Alike R t u
    → ((a b : A) → R a b → Alike S (f a) (g b)) → Alike S (t >>= f) (u >>= g)
alike_then S f g (gives {a} {b} r) next = next a b r
alike_then S f g faults next = faults
alike_then S f g (charges h) next = charges (alike_then S f g h next)
alike_then S f g (prints h) next = prints (alike_then S f g h next)

-- what comes after one and the same part
alike_onto : {A B : Type 0} (S : B → B → Type 0) (t : Trace A) (f g : A → Trace B) → ((a : A) → Alike S (f a) (g a)) → Alike S (t >>= f) (t >>= g)
alike_onto S (Gives a) f g next = next a
alike_onto S (Faults k line) f g next = faults
alike_onto S (Charges n line t) f g next = charges (alike_onto S t f g next)
alike_onto S (Prints x t) f g next = prints (alike_onto S t f g next)

pub alike_after : {A B : Type 0} (S : B → B → Type 0) {t u : Trace A} (f g : A → Trace B) → t ≡ u → ((a : A) → Alike S (f a) (g a))
    → Alike S (t >>= f) (u >>= g)
alike_after S {t} f g same next = subst (λ w. Alike S (t >>= f) (w >>= g)) same (alike_onto S t f g next)

-- two runs under a budget with the same left and printed, that give what is related or end in the same way
pub data SameRun {A : Type 0} (R : A → A → Type 0) : Spending A → Spending A → Type 0 where
  got : {a b : A} {left : ℕ} {console : List (List ℕ)} → R a b → SameRun R (Got a left console) (Got b left console)
  failed : {k : ErrorKind} {line left : ℕ} {console : List (List ℕ)} → SameRun R (Failed k line left console) (Failed k line left console)
  spent : {line left : ℕ} {console : List (List ℕ)} → SameRun R (Spent line left console) (Spent line left console)

fits_or_not : {A : Type 0} (R : A → A → Type 0) (b : Bool) (n line left : ℕ) (console : List (List ℕ)) (t u : Trace A)
    → SameRun R (spend t (left - n) console) (spend u (left - n) console)
    → SameRun R (then_spend (if b then Got (tt {0}) (left - n) console else Spent line left console) (λ _. spend t))
    (then_spend (if b then Got (tt {0}) (left - n) console else Spent line left console) (λ _. spend u))
fits_or_not R true n line left console t u h = h
fits_or_not R false n line left console t u h = spent

pub alike_runs : {A : Type 0} (R : A → A → Type 0) {t u : Trace A} (left : ℕ) (console : List (List ℕ)) → Alike R t u
    → SameRun R (spend t left console) (spend u left console)
unfolding pay show
alike_runs R left console (gives r) = got r
alike_runs R left console faults = failed
alike_runs R left console (charges {n} {line} {t} {u} h) = fits_or_not R (nat_le n left) n line left console t u (alike_runs R (left - n) console h)
alike_runs R left console (prints {x} h) = alike_runs R left (console ++ x ∷ []) h

-- ---- expressions

-- where a cell runs, by its elements and the present values
abbrev pub scene : List Name → Map Value → Scene
scene own ui = record { own = own; present = ui }

present_same : (own : List Name) (ui ui' : Map Value) (line : ℕ) (v : Value) → present_of (scene own ui) line v ≡ present_of (scene own ui') line v
present_same own ui ui' line (V.Element e) = refl
present_same own ui ui' line v = refl

-- An expression does the same where the names that it reads are bound to the same.
pub value_same : (own : List Name) (ui ui' : Map Value) (env env' : Env) (line : ℕ) (t : Tree) → Agree (reads t) env env'
    → value_of (scene own ui) env line t ≡ value_of (scene own ui') env' line t
value_same own ui ui' env env' line (name x) agree = ap (λ b. Charges 1 line (read line b)) (agree x (among_first x []))
value_same own ui ui' env env' line (binary Add a b) agree =
    let left = value_same own ui ui' env env' line a (agree_left (reads a) (reads b) env env' agree) in
    let right = value_same own ui ui' env env' line b (agree_right (reads a) (reads b) env env' agree) in
    λ i. Charges 1 line (left i >>= λ x. right i >>= λ y. result_at line (sum_of x y))
value_same own ui ui' env env' line (attribute base x) agree =
    let inner = value_same own ui ui' env env' line base agree in
    λ i. Charges 1 line (cond (bytes_eq x (codes "value")) (inner i >>= λ v. present_same own ui ui' line v i) (Faults Subset line))
value_same own ui ui' env env' line t agree = refl

pub values_same : (own : List Name) (ui ui' : Map Value) (env env' : Env) (line : ℕ) (args : Arguments) (vs : List Value) → Agree (all_reads args) env env'
    → values_after vs (scene own ui) env line args ≡ values_after vs (scene own ui') env' line args
values_same own ui ui' env env' line no_argument vs agree = refl
values_same own ui ui' env env' line (positional t args) vs agree =
    let first = value_same own ui ui' env env' line t (agree_left (reads t) (all_reads args) env env' agree) in
    let rest : (v : Value) → values_after (vs ++ v ∷ []) (scene own ui) env line args ≡ values_after (vs ++ v ∷ []) (scene own ui') env' line args =
    λ v. values_same own ui ui' env env' line args (vs ++ v ∷ []) (agree_right (reads t) (all_reads args) env env' agree) in
    λ i. first i >>= λ v. rest v i
values_same own ui ui' env env' line (keyword x t args) vs agree = refl

-- ---- right sides

-- what two runs give for the right side of a line that makes these elements: the same, or the element of the target, each at its
-- own present value
pub data Right (ui ui' : Map Value) (makes : List Name) : (targets : List Name) → Value → Value → Type 0 where
  equal : {targets : List Name} {v : Value} → Right ui ui' makes targets v v
  element : {x : Name} (e : ElementData) → is_among x makes ≡ true
      → Right ui ui' makes (x ∷ []) (V.Element (at_kept (look_up x ui) e)) (V.Element (at_kept (look_up x ui') e))

equal_right : (ui ui' : Map Value) (makes targets : List Name) (t u : Trace Value) → t ≡ u → Alike (Right ui ui' makes targets) t u
equal_right ui ui' makes targets t u same = alike_equal (Right ui ui' makes targets) (λ v. equal) t u same

mo_read : (t : Tree) → is_mo t ≡ true → is_among (codes "mo") (reads t) ≡ true
mo_read (name x) h = or_left _ _ h
mo_read t h = absurd (both_ways false refl h)

ui_read : (t : Tree) → is_mo_ui t ≡ true → is_among (codes "mo") (reads t) ≡ true
ui_read (attribute base x) h = mo_read base (and_parts _ _ h).0
ui_read t h = absurd (both_ways false refl h)

-- `mo.ui.KIND` reads `mo`
kind_read : (t : Tree) (kind : Name) → ui_kind t ≡ Some kind → is_among (codes "mo") (reads t) ≡ true
kind_read (attribute base x) kind h = ui_read base (cond_some _ _ _ h).0
kind_read t kind h = absurd (none-some kind h)

element_same : (own : List Name) (ui ui' : Map Value) (line : ℕ) (x : Name) (r : Result ElementData OpFault)
    → Alike (Right ui ui' (x ∷ []) (x ∷ [])) (element_at (scene own ui) line x r) (element_at (scene own ui') line x r)
element_same own ui ui' line x (Ok e) = gives (element e (among_first x []))
element_same own ui ui' line x (Err fault) = faults

by_same : (own : List Name) (ui ui' : Map Value) (env env' : Env) (line : ℕ) (x : Name) (k : Option Kind) (args : Arguments)
    → look_up (codes "mo") env ≡ look_up (codes "mo") env' → Agree (all_reads args) env env'
    → Alike (Right ui ui' (x ∷ []) (x ∷ [])) (element_by (scene own ui) env line x k args) (element_by (scene own ui') env' line x k args)
by_same own ui ui' env env' line x None args mo agree = charges faults
by_same own ui ui' env env' line x (Some kind) args mo agree =
    let values = values_same own ui ui' env env' line args [] agree in
    charges (alike_after _ _ _ (ap (read_module line) mo) (λ _. alike_after _ _ _ values (λ vs. charges (element_same own ui ui' line x _))))

call_same : (own : List Name) (ui ui' : Map Value) (env env' : Env) (line : ℕ) (x : Name) (k : Option Name) (callee : Tree) (args : Arguments)
    → ui_kind callee ≡ k → Agree (reads callee ++ all_reads args) env env'
    → Alike (Right ui ui' (created_by k x) (x ∷ [])) (call_of (scene own ui) env line x k args) (call_of (scene own ui') env' line x k args)
call_same own ui ui' env env' line x None callee args is agree = charges faults
call_same own ui ui' env env' line x (Some kind) callee args is agree =
    let mo : look_up (codes "mo") env ≡ look_up (codes "mo") env' =
    agree (codes "mo") (among_left (codes "mo") (reads callee) (all_reads args) (kind_read callee kind is)) in
    by_same own ui ui' env env' line x (kind_called kind) args mo (agree_right (reads callee) (all_reads args) env env' agree)

calls_same : (own : List Name) (ui ui' : Map Value) (env env' : Env) (line : ℕ) (targets : List Name) (callee : Tree) (args : Arguments) (comma : Bool)
    → Agree (reads callee ++ all_reads args) env env'
    → Alike (Right ui ui' (head_elements (assign targets (call callee args comma))) targets) (calls_for (scene own ui) env line targets callee args)
    (calls_for (scene own ui') env' line targets callee args)
calls_same own ui ui' env env' line (x ∷ []) callee args comma agree = call_same own ui ui' env env' line x (ui_kind callee) callee args refl agree
calls_same own ui ui' env env' line targets callee args comma agree = charges faults

-- The right side of a line does the same where the names that it reads are bound to the same.
pub right_same : (own : List Name) (ui ui' : Map Value) (env env' : Env) (line : ℕ) (targets : List Name) (t : Tree) → Agree (reads t) env env'
    → Alike (Right ui ui' (head_elements (assign targets t)) targets) (right_of (scene own ui) env line targets t)
    (right_of (scene own ui') env' line targets t)
right_same own ui ui' env env' line targets (call callee args comma) agree = calls_same own ui ui' env env' line targets callee args comma agree
right_same own ui ui' env env' line targets t agree = equal_right ui ui' _ targets _ _ (value_same own ui ui' env env' line t agree)

-- ---- lines and blocks

-- A relation of bindings that lines keep which read these names, bind these and make these elements: related bindings have the same
-- at each name that is read, and stay related where a name is bound to the same in both, or to an element that the lines make, in
-- each at its own present value.
pub record IsKept (ui ui' : Map Value) (E : Env → Env → Type 0) (names binds makes : List Name) : Type 0 where
  pub looks : (m n : Env) → E m n → Agree names m n
  pub puts : (x : Name) (b : Binding) (m n : Env) → is_among x binds ≡ true → E m n → E (put x b m) (put x b n)
  pub elements : (x : Name) (e : ElementData) (m n : Env) → is_among x makes ≡ true → is_among x binds ≡ true → E m n
      → E (put x (Plain (V.Element (at_kept (look_up x ui) e))) m) (put x (Plain (V.Element (at_kept (look_up x ui') e))) n)

-- the same of lines with fewer names
pub kept_less : (ui ui' : Map Value) (E : Env → Env → Type 0) (names binds makes names' binds' makes' : List Name) → IsKept ui ui' E names binds makes
    → ((x : Name) → is_among x names' ≡ true → is_among x names ≡ true) → ((x : Name) → is_among x binds' ≡ true → is_among x binds ≡ true)
    → ((x : Name) → is_among x makes' ≡ true → is_among x makes ≡ true) → IsKept ui ui' E names' binds' makes'
kept_less ui ui' E names binds makes names' binds' makes' k reads_in binds_in makes_in = record {
  looks = λ m n e x h. k.looks m n e x (reads_in x h);
  puts = λ x b m n h e. k.puts x b m n (binds_in x h) e;
  elements = λ x d m n h b e. k.elements x d m n (makes_in x h) (binds_in x b) e;
}

-- what lines give in two runs: the same last value, and bindings that are related
pub record SameFlow (E : Env → Env → Type 0) (f g : Flow) : Type 0 where
  pub last : f.last ≡ g.last
  pub env : E f.env g.env

bind_equal : (ui ui' : Map Value) (E : Env → Env → Type 0) (names makes targets : List Name) → IsKept ui ui' E names targets makes
    → (line : ℕ) (v : Value) (env env' : Env) → E env env' → Alike E (bind line targets v env) (bind line targets v env')
bind_equal ui ui' E names makes (x ∷ []) k line v env env' e = gives (k.puts x (Plain v) env env' (among_first x []) e)
bind_equal ui ui' E names makes targets k line v env env' e = faults

bind_same : (ui ui' : Map Value) (E : Env → Env → Type 0) (names makes : List Name) {targets : List Name} {v w : Value}
    → IsKept ui ui' E names targets makes → (line : ℕ) (env env' : Env) → E env env' → Right ui ui' makes targets v w
    → Alike E (bind line targets v env) (bind line targets w env')
bind_same ui ui' E names makes k line env env' e (equal {targets} {v}) = bind_equal ui ui' E names makes targets k line v env env' e
bind_same ui ui' E names makes k line env env' e (element {x} d here) = gives (k.elements x d env env' here (among_first x []) e)

pub head_same : (own : List Name) (ui ui' : Map Value) (E : Env → Env → Type 0) (line : ℕ) (head : Head) (env env' : Env)
    → IsKept ui ui' E (head_reads head) (head_binds head) (head_elements head) → E env env'
    → Alike (SameFlow E) (head_of (scene own ui) env line head) (head_of (scene own ui') env' line head)
head_same own ui ui' E line (value t) env env' k e =
    alike_after _ _ _ (value_same own ui ui' env env' line t (k.looks env env' e)) (λ v. gives (record { last = refl; env = e }))
head_same own ui ui' E line (assign targets t) env env' k e =
    alike_then _ _ _ (right_same own ui ui' env env' line targets t (k.looks env env' e))
    (λ v w right. alike_then _ _ _ (bind_same ui ui' E (reads t) (head_elements (assign targets t)) k line env env' e right)
    (λ after after' e'. gives (record { last = refl; env = e' })))
head_same own ui ui' E line import_mo env env' k e =
    gives (record { last = refl; env = k.puts (codes "mo") Module env env' (among_first (codes "mo") []) e })
head_same own ui ui' E line head env env' k e = faults

-- Lines do the same, and their bindings stay related.
pub lines_same : (own : List Name) (ui ui' : Map Value) (E : Env → Env → Type 0) (block : Stmts) (flow flow' : Flow)
    → IsKept ui ui' E (read_names block) (bound block) (created block) → SameFlow E flow flow'
    → Alike (SameFlow E) (lines_of (scene own ui) block flow) (lines_of (scene own ui') block flow')
lines_same own ui ui' E end flow flow' k same = gives same
lines_same own ui ui' E (then_comes (stmt n head block) rest) flow flow' k same =
    let here : IsKept ui ui' E (head_reads head) (head_binds head) (head_elements head) =
    kept_less ui ui' E _ _ _ _ _ _ k
    (λ x h. among_left x (head_reads head ++ read_names block) (read_names rest) (among_left x (head_reads head) (read_names block) h))
    (λ x h. among_left x (head_binds head ++ bound block) (bound rest) (among_left x (head_binds head) (bound block) h))
    (λ x h. among_left x (head_elements head) (created rest) h) in
    let later : IsKept ui ui' E (read_names rest) (bound rest) (created rest) =
    kept_less ui ui' E _ _ _ _ _ _ k
    (λ x h. among_right x (head_reads head ++ read_names block) (read_names rest) h)
    (λ x h. among_right x (head_binds head ++ bound block) (bound rest) h)
    (λ x h. among_right x (head_elements head) (created rest) h) in
    charges (alike_then _ _ _ (head_same own ui ui' E n head flow.env flow'.env here same.env)
    (λ f g r. lines_same own ui ui' E rest f g later r))

pub block_same : (own : List Name) (ui ui' : Map Value) (E : Env → Env → Type 0) (block : Stmts) (env env' : Env)
    → IsKept ui ui' E (read_names block) (bound block) (created block) → E env env'
    → Alike (SameFlow E) (block_of (scene own ui) env block) (block_of (scene own ui') env' block)
block_same own ui ui' E block env env' k e = lines_same own ui ui' E block _ _ k (record { last = refl; env = e })

-- Runs under a budget do the same.
pub runs_same : (own : List Name) (ui ui' : Map Value) (E : Env → Env → Type 0) (block : Stmts) (env env' : Env) (budget : ℕ)
    → IsKept ui ui' E (read_names block) (bound block) (created block) → E env env'
    → SameRun (SameFlow E) (runs (scene own ui) env block budget) (runs (scene own ui') env' block budget)
runs_same own ui ui' E block env env' budget k e = alike_runs (SameFlow E) budget [] (block_same own ui ui' E block env env' k e)

-- ---- cells

-- what a cell does in two runs: the same result at the same cost, and bindings that are related
pub record SameOutcome (E : Env → Env → Type 0) (o p : Outcome) : Type 0 where
  pub frame : o.frame ≡ p.frame
  pub cost : o.cost ≡ p.cost
  pub env : E o.env p.env

frame_same : (E : Env → Env → Type 0) (c : ℕ) {s t : Spending Flow} → SameRun (SameFlow E) s t → ran_frame c s ≡ ran_frame c t
frame_same E c (got {console} r) =
    λ i. record { cell = c; status = status.Ok; output = option_and_then shown (r.last i); console = console; error = None }
frame_same E c failed = refl
frame_same E c spent = refl

cost_same : (E : Env → Env → Type 0) (budget : ℕ) {s t : Spending Flow} → SameRun (SameFlow E) s t → cost_of budget s ≡ cost_of budget t
cost_same E budget (got r) = refl
cost_same E budget failed = refl
cost_same E budget spent = refl

-- bindings without names that begin with an underscore
abbrev pub lasting : Env → Env
lasting env = where_name (λ x. not (is_local x)) env

after_same : (E : Env → Env → Type 0) (env env' : Env) {s t : Spending Flow} → ((m n : Env) → E m n → E (lasting m) (lasting n)) → E env env'
    → SameRun (SameFlow E) s t → E (env_after env s) (env_after env' t)
after_same E env env' lasts e (got {a} {b} r) = lasts a.env b.env r.env
after_same E env env' lasts e failed = e
after_same E env env' lasts e spent = e

-- A cell does the same where its lines keep a relation that holds before it.
pub outcome_kept : (E : Env → Env → Type 0) (budget : ℕ) (ui ui' : Map Value) (may_run : Bool) (c : ℕ) (env env' : Env) (code : Cell)
    → IsKept ui ui' E (read_names code.body) (bound code.body) (elements code) → ((m n : Env) → E m n → E (lasting m) (lasting n))
    → E (without_defs code env) (without_defs code env')
    → SameOutcome E (outcome_of budget ui may_run c env code) (outcome_of budget ui' may_run c env' code)
outcome_kept E budget ui ui' true c env env' code k lasts e =
    let both = runs_same (elements code) ui ui' E code.body (without_defs code env) (without_defs code env') budget k e in
    record { frame = frame_same E c both; cost = cost_same E budget both; env = after_same E _ _ lasts e both }
outcome_kept E budget ui ui' false c env env' code k lasts e = record { frame = refl; cost = refl; env = e }

-- ---- bindings that agree

-- a name after the definitions are removed
pub without_both : (code : Cell) (env env' : Env) (x : Name) → (is_among x (defs code) ≡ false → look_up x env ≡ look_up x env')
    → look_up x (without_defs code env) ≡ look_up x (without_defs code env')
without_both code env env' x same =
    look_up-where_name (λ y. not (is_among y (defs code))) x env ∙ either (is_among x (defs code)) refl ∙ sym (look_up-where_name (λ y. not (is_among y (defs code))) x env') where
      either : (b : Bool) → is_among x (defs code) ≡ b → cond (not b) (look_up x env) None ≡ cond (not b) (look_up x env') None
      either true is = refl
      either false is = same is

-- the same at each name where two others are the same
abbrev pub Follow : Env → Env → Env → Env → Type 0
Follow env env' m n = (x : Name) → look_up x env ≡ look_up x env' → look_up x m ≡ look_up x n

follow_kept : (ui ui' : Map Value) (env env' : Env) (names binds makes : List Name) → Agree names env env' → Agree makes ui ui'
    → IsKept ui ui' (Follow env env') names binds makes
follow_kept ui ui' env env' names binds makes agree same = record {
  looks = λ m n e x h. e x (agree x h);
  puts = λ x b m n h e y both. put_both x y b m n (e y both);
  elements = λ x d m n h b e y both.
      put_both x y (Plain (V.Element (at_kept (look_up x ui) d))) m n (e y both)
      ∙ ap (λ o. look_up y (put x (Plain (V.Element (at_kept o d))) n)) (same x h);
}

-- what a cell leaves in two runs: the same result at the same cost, the same at each name that it defines, and at each other name
-- where it was the same before
pub record AgreeAfter (code : Cell) (env env' : Env) (o p : Outcome) : Type 0 where
  pub frame : o.frame ≡ p.frame
  pub cost : o.cost ≡ p.cost
  pub defined : Agree (defs code) o.env p.env
  pub others : Follow env env' o.env p.env

agree_after : (code : Cell) (env env' : Env) (o p : Outcome) → SameOutcome (Follow (without_defs code env) (without_defs code env')) o p
    → AgreeAfter code env env' o p
agree_after code env env' o p same = record {
  frame = same.frame;
  cost = same.cost;
  defined = λ x h. same.env x (without_both code env env' x (λ absent. absurd (both_ways _ absent h)));
  others = λ x h. same.env x (without_both code env env' x (λ absent. h));
}

-- A cell does the same where the bindings without its definitions agree at the names that it reads, and the present values at the
-- elements that it creates.
pub same_by_reads : (budget : ℕ) (ui ui' : Map Value) (may_run : Bool) (c : ℕ) (env env' : Env) (code : Cell)
    → Agree (read_names code.body) (without_defs code env) (without_defs code env') → Agree (elements code) ui ui'
    → AgreeAfter code env env' (outcome_of budget ui may_run c env code) (outcome_of budget ui' may_run c env' code)
same_by_reads budget ui ui' may_run c env env' code agree same =
    agree_after code env env' _ _ (outcome_kept (Follow (without_defs code env) (without_defs code env')) budget ui ui' may_run c env env' code
    (follow_kept ui ui' _ _ _ (bound code.body) _ agree same)
    (λ m n e x both. where_related (λ o p. o ≡ p) (λ y. not (is_local y)) x m n refl (e x both))
    (λ x both. both))

-- ---- other present values

-- where the name has one present value, the two are the same
pub one_binding : (ui ui' : Map Value) (x : Name) {o p : Option Binding} → look_up x ui ≡ look_up x ui' → SameBinding ui ui' x o p → o ≡ p
one_binding ui ui' x kept same_bound = refl
one_binding ui ui' x kept (one_element e) = ap (λ k. Some (Plain (V.Element (at_kept k e)))) kept

-- the same, but at names of elements that are made
pub record AlikeAt (ui ui' : Map Value) (makes : List Name) (x : Name) (o p : Option Binding) : Type 0 where
  pub apart : is_among x makes ≡ false → o ≡ p
  pub bound : SameBinding ui ui' x o p

alike_both : (ui ui' : Map Value) (makes : List Name) (x : Name) (o p : Option Binding) → o ≡ p → AlikeAt ui ui' makes x o p
alike_both ui ui' makes x o p same = record { apart = λ _. same; bound = subst (SameBinding ui ui' x o) same same_bound }

alike_element : (ui ui' : Map Value) (makes : List Name) (x : Name) (e : ElementData) → is_among x makes ≡ true
    → AlikeAt ui ui' makes x (Some (Plain (V.Element (at_kept (look_up x ui) e)))) (Some (Plain (V.Element (at_kept (look_up x ui') e))))
alike_element ui ui' makes x e here = record { apart = λ absent. absurd (both_ways _ absent here); bound = one_element e }

-- alike at each name where two others are the same
abbrev pub FollowAlike : Map Value → Map Value → List Name → Env → Env → Env → Env → Type 0
FollowAlike ui ui' makes env env' m n = (x : Name) → look_up x env ≡ look_up x env' → AlikeAt ui ui' makes x (look_up x m) (look_up x n)

alike_kept : (ui ui' : Map Value) (env env' : Env) (names binds makes : List Name) → Agree names env env'
    → ((x : Name) → is_among x names ≡ true → is_among x makes ≡ false) → IsKept ui ui' (FollowAlike ui ui' makes env env') names binds makes
alike_kept ui ui' env env' names binds makes agree apart = record {
  looks = λ m n e x h. (e x (agree x h)).apart (apart x h);
  puts = λ x b m n h e y both. put_related (AlikeAt ui ui' makes y) x y b b m n (λ _. alike_both ui ui' makes y _ _ refl) (e y both);
  elements = λ x d m n h b e y both.
      put_related (AlikeAt ui ui' makes y) x y _ _ m n
      (λ same. subst (λ z. AlikeAt ui ui' makes z (Some (Plain (V.Element (at_kept (look_up x ui) d)))) (Some (Plain (V.Element (at_kept (look_up x ui') d))))) same (alike_element ui ui' makes x d h))
      (e y both);
}

-- what a cell leaves in two runs with other present values: the same result at the same cost, and bindings that are the same but
-- for the present values of the elements that it creates
pub record AlikeAfter (ui ui' : Map Value) (code : Cell) (env env' : Env) (o p : Outcome) : Type 0 where
  pub frame : o.frame ≡ p.frame
  pub cost : o.cost ≡ p.cost
  pub defined : (x : Name) → is_among x (defs code) ≡ true → AlikeAt ui ui' (elements code) x (look_up x o.env) (look_up x p.env)
  pub others : FollowAlike ui ui' (elements code) env env' o.env p.env

-- A cell that reads none of the elements that it creates does the same whatever present values they have.
pub same_but_present : (budget : ℕ) (ui ui' : Map Value) (may_run : Bool) (c : ℕ) (env env' : Env) (code : Cell)
    → Agree (read_names code.body) (without_defs code env) (without_defs code env')
    → ((x : Name) → is_among x (read_names code.body) ≡ true → is_among x (elements code) ≡ false)
    → AlikeAfter ui ui' code env env' (outcome_of budget ui may_run c env code) (outcome_of budget ui' may_run c env' code)
same_but_present budget ui ui' may_run c env env' code agree apart =
    let makes : List Name = elements code in
    let both = outcome_kept (FollowAlike ui ui' makes (without_defs code env) (without_defs code env')) budget ui ui' may_run c env env' code
    (alike_kept ui ui' _ _ _ (bound code.body) makes agree apart)
    (λ m n e x same. where_related (AlikeAt ui ui' makes x) (λ y. not (is_local y)) x m n (alike_both ui ui' makes x _ _ refl) (e x same))
    (λ x same. alike_both ui ui' makes x _ _ same) in
    record {
      frame = both.frame;
      cost = both.cost;
      defined = λ x h. both.env x (without_both code env env' x (λ absent. absurd (both_ways _ absent h)));
      others = λ x h. both.env x (without_both code env env' x (λ absent. h));
    }
