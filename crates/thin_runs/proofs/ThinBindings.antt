-- In the whole of a notebook of the thin form each name that is bound to an element is that of a slider, where no element is kept as a
-- value.
use Rattle.std.proofs.Common.{◌≡◌, ◌∙◌, refl, sym, ap, subst, ℕ, zero, suc, ◌+◌, ℤ, Bool, true, false, cond, not, ◌&&◌, List, [], ◌∷◌, Option, Some, None, Result, Ok, Err, ⊎_elim}
use Rattle.std.specs.Prelude.{codes, flat_map, ◌+ℤ◌}
use Rattle.std.specs.Str.{bytes_eq}
use Rattle.std.proofs.lemmas.Bool.{and_parts, both_ways, cases_Bool, not-true, or_cases}
use Rattle.py_tree.specs.Elements.{created, created_by, elements, head_elements, is_mo_ui, ui_kind}
use Rattle.py_tree.specs.Names.{Name, is_among, is_local, is_name}
use Rattle.py_tree.specs.Scope.{defs}
use Rattle.py_tree.specs.Trees.{Tree, literal, name, binary, Add, attribute, call, Arguments, Head, value, assign, import_mo, stmt, Stmts, end, then_comes, Cell}
use Rattle.py_value.specs.ElementData.{ElementData}
use Rattle.py_value.specs.Elements.{kind_called, made}
use Rattle.py_value.specs.Maps.{Map, look_up, put, where_name}
use Rattle.py_value.specs.View.{value_of as value_in}
use Rattle.py_value.specs.Whole.{in_range, joining_fault, number_of, sum_by}
use Rattle.py_value.specs.declared.kinds.Kind.{Kind}
use Rattle.py_value.specs.declared.op_fault.OpFault.{OpFault}
use Rattle.py_value.specs.declared.op_fault.OpFault.TheVariants.{IntRange}
use Rattle.py_value.specs.declared.types.Value.{Value}
use Rattle.py_value.specs.declared.types.Value.TheVariants as V
use Rattle.py_value.proofs.SortedMaps.{look_up-put, look_up-put_other, look_up-where_name, name_of}
use Rattle.visit_meaning.specs.Answer.{element_in}
use Rattle.graph_meaning.specs.Graph.{elements_of}
use Rattle.run_meaning.specs.Meaning.{Env, Scene, Flow, call_of, element_at, element_by, head_of, lines_of, present_of, read, read_module, result_at, right_of, value_of, values_after}
use Rattle.run_meaning.specs.Spending.{Spending, Got, Failed, Spent, runs}
use Rattle.form_meaning.specs.Thin.{Elements, are_cells, are_thin, head_sliders, is_cell, is_maker, line_count, sliders, is_chain, is_line, is_slider_name, is_sum, is_target, are_lines, makes_slider}
use Rattle.form_meaning.specs.Thin as thin_form
use Rattle.run_meaning.specs.Trace.{Trace, Gives, ◌>>=◌}
use Rattle.visit_meaning.specs.Underway.{HasNoElements, is_element}
use Rattle.visit_meaning.specs.Whole.{without_defs, env_after, outcome_of, whole}
use Rattle.run_meaning.specs.declared.binding.Binding.{Binding}
use Rattle.run_meaning.specs.declared.binding.Binding.TheVariants.{Plain, Module}
use Rattle.visit_meaning.proofs.FixedPoint.{whole_keeps}
use Rattle.visit_meaning.proofs.InBeing.{element_bound}
use Rattle.visit_meaning.proofs.Kept.{AllGiven, AllGot, given_then, given_after, given_weaker, got_given}
use Rattle.visit_meaning.proofs.LookUps.{among_left, among_right}
use Rattle.visit_meaning.proofs.Makes.{MadePlain, kept_plain, made_plain}
use Rattle.thin_runs.proofs.ThinCells.{among_cases, cell_lines, first_line, nothing, thin_cell}

-- ---- values that are no elements

abbrev pub is_no_element : Value → Type 0
is_no_element v = is_element v ≡ false

ranged_plain : (line : ℕ) (n : ℤ) (b : Bool) (fault : OpFault) → AllGiven is_no_element (result_at line (cond b (Ok (V.Int n)) (Err fault)))
ranged_plain line n true fault = refl
ranged_plain line n false fault = tt

sum_plain : (line : ℕ) (m n : Option ℤ) (fault : OpFault) → AllGiven is_no_element (result_at line (sum_by m n fault))
sum_plain line (Some x) (Some y) fault = ranged_plain line (x +ℤ y) (in_range (x +ℤ y)) IntRange
sum_plain line (Some x) None fault = tt
sum_plain line None n fault = tt

-- ---- bindings

-- A name that is bound to an element is that of a slider, and the element is at no element as its value.
abbrev IsTidy : Elements → Name → Option Binding → Type 0
IsTidy es x (Some (Plain (V.Element e))) = (es.is_slider x ≡ true) × (is_element (value_in e.present) ≡ false)
IsTidy es x o = Unit {0}

abbrev AreTidy : Elements → Env → Type 0
AreTidy es env = (x : Name) → IsTidy es x (look_up x env)

plain_tidy : (es : Elements) (x : Name) (v : Value) → is_element v ≡ false → IsTidy es x (Some (Plain v))
plain_tidy es x (V.Element e) h = absurd (both_ways true h refl)
plain_tidy es x v h = tt

tidy_put : (es : Elements) (x : Name) (b : Binding) (env : Env) → IsTidy es x (Some b) → AreTidy es env → AreTidy es (put x b env)
tidy_put es x b env here tidy y = ⊎_elim
    (λ same. subst (λ z. IsTidy es z (look_up z (put x b env))) (name_of x y same) (subst (IsTidy es x) (sym (look_up-put x b env)) here))
    (λ apart. subst (IsTidy es y) (sym (look_up-put_other x y b env apart)) (tidy y))
    (cases_Bool (bytes_eq x y))

tidy_where : (es : Elements) (p : Name → Bool) (env : Env) → AreTidy es env → AreTidy es (where_name p env)
tidy_where es p env tidy x = subst (IsTidy es x) (sym (look_up-where_name p x env)) (by (p x) (tidy x))
  where
    by : (b : Bool) → IsTidy es x (look_up x env) → IsTidy es x (cond b (look_up x env) None)
    by true h = h
    by false h = tt

-- ---- expressions

module _ (es : Elements) (ui : Map Value) (kept : HasNoElements ui) (own : List Name) where
  abbrev scene : Scene
  scene = record { own = own; present = ui }

  read_plain : (line : ℕ) (x : Name) (o : Option Binding) → es.is_slider x ≡ false → IsTidy es x o → AllGiven is_no_element (read line o)
  read_plain line x None off tidy = tt
  read_plain line x (Some Module) off tidy = tt
  read_plain line x (Some (Plain (V.Element e))) off tidy = absurd (both_ways _ off tidy.0)
  read_plain line x (Some (Plain v)) off tidy = refl

  -- an element that is read is at no element as its value
  abbrev HasPlain : Value → Type 0
  HasPlain (V.Element e) = is_element (value_in e.present) ≡ false
  HasPlain v = Unit {0}

  read_element : (line : ℕ) (x : Name) (o : Option Binding) → IsTidy es x o → AllGiven HasPlain (read line o)
  read_element line x None tidy = tt
  read_element line x (Some Module) tidy = tt
  read_element line x (Some (Plain (V.Element e))) tidy = tidy.1
  read_element line x (Some (Plain v)) tidy = tt

  own_plain : (line : ℕ) (v : Value) (b : Bool) (k : Trace Value) → is_element v ≡ false → AllGiven is_no_element k → AllGiven is_no_element (cond b k (Gives v))
  own_plain line v true k h faults = faults
  own_plain line v false k h faults = h

  present_plain : (line : ℕ) (v : Value) → HasPlain v → AllGiven is_no_element (present_of scene line v)
  present_plain line (V.Element e) h = own_plain line (value_in e.present) (is_among e.name own) _ h tt
  present_plain line v h = tt

  base_plain : (env : Env) (line : ℕ) (t : Tree) → AreTidy es env → is_slider_name es t ≡ true
      → AllGiven is_no_element (value_of scene env line t >>= present_of scene line)
  base_plain env line (name y) tidy h =
      given_then HasPlain is_no_element (read line (look_up y env)) (present_of scene line) (read_element line y (look_up y env) (tidy y)) (present_plain line)
  base_plain env line t tidy h = absurd (both_ways false refl h)

  attribute_plain : (line : ℕ) (b : Bool) (t k : Trace Value) → AllGiven is_no_element t → AllGiven is_no_element k → AllGiven is_no_element (cond b t k)
  attribute_plain line true t k h l = h
  attribute_plain line false t k h l = l

  chain_plain : (env : Env) (line : ℕ) (t : Tree) → AreTidy es env → is_chain es t ≡ true → AllGiven is_no_element (value_of scene env line t)
  chain_plain env line (literal token) tidy h = refl
  chain_plain env line (name x) tidy h =
      read_plain line x (look_up x env) (not-true _ (and_parts (is_name x) _ h).1) (tidy x)
  chain_plain env line (binary Add a b) tidy h =
      given_after is_no_element (value_of scene env line a) _
      (λ v. given_after is_no_element (value_of scene env line b) _ (λ w. sum_plain line (number_of v) (number_of w) (joining_fault v w)))
  chain_plain env line (attribute base x) tidy h =
      attribute_plain line (bytes_eq x (codes "value")) _ _ (base_plain env line base tidy (and_parts (is_slider_name es base) _ h).0) tt
  chain_plain env line t tidy h = absurd (both_ways false refl h)

  -- ---- lines

  element_tidy : (line : ℕ) (x : Name) (r : Result ElementData OpFault) → es.is_slider x ≡ true → MadePlain r
      → AllGiven (λ v. IsTidy es x (Some (Plain v))) (element_at scene line x r)
  element_tidy line x (Ok e) is plain = (is, kept_plain (look_up x ui) e (λ v h. kept x v h) plain)
  element_tidy line x (Err fault) is plain = tt

  by_tidy : (env : Env) (line : ℕ) (x : Name) (k : Option Kind) (args : Arguments) → es.is_slider x ≡ true
      → AllGiven (λ v. IsTidy es x (Some (Plain v))) (element_by scene env line x k args)
  by_tidy env line x None args is = tt
  by_tidy env line x (Some kind) args is =
      given_after (λ v. IsTidy es x (Some (Plain v))) (read_module line (look_up (codes "mo") env)) _
      (λ _. given_after (λ v. IsTidy es x (Some (Plain v))) (values_after [] scene env line args) _
      (λ vs. element_tidy line x (made kind x _) is (made_plain kind x _)))

  call_tidy : (env : Env) (line : ℕ) (x : Name) (k : Option Name) (args : Arguments) → es.is_slider x ≡ true
      → AllGiven (λ v. IsTidy es x (Some (Plain v))) (call_of scene env line x k args)
  call_tidy env line x None args is = tt
  call_tidy env line x (Some kind) args is = by_tidy env line x (kind_called kind) args is

  maker_tidy : (env : Env) (line : ℕ) (x : Name) (t : Tree) → makes_slider t ≡ true → es.is_slider x ≡ true
      → AllGiven (λ v. IsTidy es x (Some (Plain v))) (right_of scene env line (x ∷ []) t)
  maker_tidy env line x (call callee args comma) h is = call_tidy env line x (ui_kind callee) args is
  maker_tidy env line x t h is = absurd (both_ways false refl h)

  sum_tidy : (env : Env) (line : ℕ) (x : Name) (t : Tree) → AreTidy es env → is_chain es t ≡ true
      → AllGiven (λ v. IsTidy es x (Some (Plain v))) (right_of scene env line (x ∷ []) t)
  sum_tidy env line x (call callee args comma) tidy h = absurd (both_ways false refl h)
  sum_tidy env line x t tidy h =
      given_weaker is_no_element (λ v. IsTidy es x (Some (Plain v))) (value_of scene env line t) (plain_tidy es x) (chain_plain env line t tidy h)

  abbrev FlowTidy : Flow → Type 0
  FlowTidy flow = AreTidy es flow.env

  head_tidy : (env : Env) (line : ℕ) (head : Head) → is_line es head ≡ true → AreTidy es env → AllGiven FlowTidy (head_of scene env line head)
  head_tidy env line (value t) h tidy = given_after FlowTidy (value_of scene env line t) _ (λ v. tidy)
  head_tidy env line (assign [] t) h tidy = given_after FlowTidy (right_of scene env line [] t) _ (λ v. tt)
  head_tidy env line (assign (x ∷ y ∷ xs) t) h tidy = given_after FlowTidy (right_of scene env line (x ∷ y ∷ xs) t) _ (λ v. tt)
  head_tidy env line (assign (x ∷ []) t) h tidy =
      let So : Value → Type 0 = λ v. IsTidy es x (Some (Plain v)) in
      given_then So FlowTidy (right_of scene env line (x ∷ []) t) _
      (⊎_elim
      (λ plain. sum_tidy env line x t tidy (and_parts (is_chain es t) _ (and_parts (is_target es false (x ∷ [])) (is_sum es t) plain).1).0)
      (λ made.
      let both = and_parts (is_target es true (x ∷ [])) (makes_slider t) (and_parts (is_target es true (x ∷ []) && makes_slider t) es.imported made).0 in
      maker_tidy env line x t both.1 (and_parts (is_name x) _ both.0).1)
      (or_cases (is_target es false (x ∷ []) && is_sum es t) (is_target es true (x ∷ []) && makes_slider t && es.imported) h))
      (λ v so. tidy_put es x (Plain v) env so tidy)
  head_tidy env line import_mo h tidy = tidy_put es (codes "mo") Module env tt tidy
  head_tidy env line head h tidy = tt

  lines_tidy : (n : ℕ) (block : Stmts) (flow : Flow) → are_lines es n block ≡ true → FlowTidy flow → AllGiven FlowTidy (lines_of scene block flow)
  lines_tidy n end flow h tidy = tidy
  lines_tidy n (then_comes (stmt k head block) rest) flow h tidy =
      let f = first_line es n k head block rest h in
      given_then FlowTidy FlowTidy (head_of scene flow.env k head) (lines_of scene rest) (head_tidy flow.env k head f.line tidy)
      (λ between so. lines_tidy (n + 1) rest between f.later so)

-- ---- cells

after_tidy : (es : Elements) (from : Env) (run : Spending Flow) → AreTidy es from
    → AllGot (λ (flow : Flow). AreTidy es flow.env) run → AreTidy es (env_after from run)
after_tidy es from (Got flow left console) tidy got = tidy_where es (λ x. not (is_local x)) flow.env got
after_tidy es from (Failed kind line left console) tidy got = tidy
after_tidy es from (Spent line left console) tidy got = tidy

outcome_tidy : (es : Elements) (n budget : ℕ) (ui : Map Value) (may_run : Bool) (c : ℕ) (env : Env) (code : Cell) → HasNoElements ui
    → is_cell es n code ≡ true → AreTidy es env → AreTidy es (outcome_of budget ui may_run c env code).env
outcome_tidy es n budget ui true c env code kept h tidy =
    let from : Env = without_defs code env in
    let scene : Scene = record { own = elements code; present = ui } in
    let first : AreTidy es from = tidy_where es (λ x. not (is_among x (defs code))) env tidy in
    after_tidy es from (runs scene from code.body budget) first
    (got_given (λ (flow : Flow). AreTidy es flow.env) (lines_of scene code.body (record { last = None; env = from })) budget []
    (lines_tidy es ui kept (elements code) (n + 2) code.body (record { last = None; env = from }) (cell_lines es n code h) first))
outcome_tidy es n budget ui false c env code kept h tidy = tidy_where es (λ x. not (is_among x (defs code))) env tidy

-- ---- the name of a slider is that of an element that a cell creates

maker_kind : (t : Tree) → is_maker t ≡ true → (k : Name) × (ui_kind t ≡ Some k)
maker_kind (attribute base x) h =
    (x, ap (λ b. cond b (Some x) None) (and_parts (is_mo_ui base) (bytes_eq x (codes "slider")) h).0)
maker_kind t h = nothing h

made_created : (es : Elements) (x : Name) (targets : List Name) (t : Tree) → is_target es true targets ≡ true → makes_slider t ≡ true
    → is_among x targets ≡ true → is_among x (head_elements (assign targets t)) ≡ true
made_created es x [] t target makes here = nothing target
made_created es x (y ∷ z ∷ ys) t target makes here = nothing target
made_created es x (y ∷ []) (call callee args false) target makes here =
    let k = maker_kind callee (and_parts (is_maker callee) _ makes).0 in
    ap (λ o. is_among x (created_by o y)) k.1 ∙ here
made_created es x (y ∷ []) t target makes here = nothing makes

sum_makes_none : (es : Elements) (t : Tree) → is_sum es t ≡ true → makes_slider t ≡ true → ⊥
sum_makes_none es (call callee args comma) h makes = nothing h
sum_makes_none es t h makes = nothing makes

slider_created : (es : Elements) (x : Name) (h : Head) → is_line es h ≡ true → is_among x (head_sliders h) ≡ true
    → is_among x (head_elements h) ≡ true
slider_created es x (assign targets t) line here = by (makes_slider t) refl here
  where
    by : (b : Bool) → makes_slider t ≡ b → is_among x (cond b targets []) ≡ true → is_among x (head_elements (assign targets t)) ≡ true
    by false is h = nothing h
    by true is h = ⊎_elim
        (λ plain. absurd (sum_makes_none es t (and_parts (is_target es false targets) (is_sum es t) plain).1 is))
        (λ makes.
        let both = (and_parts (is_target es true targets && makes_slider t) es.imported makes).0 in
        made_created es x targets t (and_parts (is_target es true targets) (makes_slider t) both).0 is h)
        (or_cases (is_target es false targets && is_sum es t) (is_target es true targets && makes_slider t && es.imported) line)
slider_created es x h line here = nothing here

sliders_created : (es : Elements) (n : ℕ) (x : Name) (b : Stmts) → are_lines es n b ≡ true → is_among x (sliders b) ≡ true
    → is_among x (created b) ≡ true
sliders_created es n x end lines here = nothing here
sliders_created es n x (then_comes (stmt k head block) rest) lines here =
    let f = first_line es n k head block rest lines in
    ⊎_elim
    (λ first. among_left x (head_elements head) (created rest) (slider_created es x head f.line first))
    (λ later. among_right x (head_elements head) (created rest) (sliders_created es (n + 1) x rest f.later later))
    (among_cases x (head_sliders head) (sliders rest) here)

created_within : (es : Elements) (n : ℕ) (x : Name) (cells : List Cell) → are_cells es n cells ≡ true
    → is_among x (flat_map (λ (c : Cell). sliders c.body) cells) ≡ true → (c : ℕ) × (is_among x (elements_of cells c) ≡ true)
created_within es n x [] h here = nothing here
created_within es n x (d ∷ ds) h here =
    let parts = and_parts (is_cell es n d) (are_cells es (n + 2 + line_count d.body) ds) h in
    ⊎_elim
    (λ first. (zero, sliders_created es (n + 2) x d.body (cell_lines es n d parts.0) first))
    (λ later. let w = created_within es (n + 2 + line_count d.body) x ds parts.1 later in (suc w.0, w.1))
    (among_cases x (sliders d.body) (flat_map (λ (c : Cell). sliders c.body) ds) here)

slider_of_cell : (nb : List Cell) (x : Name) → are_thin nb ≡ true → (thin_form.elements_of nb).is_slider x ≡ true
    → (c : ℕ) × (is_among x (elements_of nb c) ≡ true)
slider_of_cell nb x thin is = created_within (thin_form.elements_of nb) 3 x nb (and_parts (are_cells (thin_form.elements_of nb) 3 nb) _ thin).0 is

-- ---- the whole

-- So the whole binds no name to an element but those that cells create.
pub thin_only_made : (nb : List Cell) (budget : ℕ) (ui : Map Value) (x : Name) (e : ElementData) → are_thin nb ≡ true → HasNoElements ui
    → element_in (whole nb budget ui).env x ≡ Some e → (c : ℕ) × (is_among x (elements_of nb c) ≡ true)
thin_only_made nb budget ui x e thin kept h =
    let es : Elements = thin_form.elements_of nb in
    let tidy : AreTidy es (whole nb budget ui).env =
    whole_keeps nb budget ui (AreTidy es) (λ y. tt)
    (λ may_run c code env there so. let t = thin_cell nb c code thin there in outcome_tidy es t.0 budget ui may_run c env code kept t.1 so) in
    let here : IsTidy es x (Some (Plain (V.Element e))) = subst (IsTidy es x) (element_bound x (look_up x (whole nb budget ui).env) e h) (tidy x) in
    slider_of_cell nb x thin here.0
