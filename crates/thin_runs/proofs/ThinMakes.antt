-- A cell of the thin form that has ended ok has bound each name of an element that it creates to this element, at the value that is kept.
use Rattle.std.proofs.Common.{◌≡◌, ◌∙◌, sym, ap, subst, ℕ, ◌+◌, ◌≤◌, Bool, true, false, cond, not, ◌&&◌, ◌==◌, [], ◌∷◌, Option, Some, None, ⊎_elim, nat_le, leb-true, arith}
use Rattle.std.proofs.lemmas.Bool.{and_parts, or_cases}
use Rattle.py_tree.specs.Elements.{created, elements, head_elements, ui_kind}
use Rattle.py_tree.specs.Names.{Name, is_among, is_local}
use Rattle.py_tree.specs.Trees.{Tree, call, Arguments, Head, assign, stmt, Stmts, end, then_comes, Cell}
use Rattle.py_value.specs.ElementData.{ElementData}
use Rattle.py_value.specs.Elements.{at_kept}
use Rattle.py_value.specs.Maps.{Map, look_up, put}
use Rattle.py_value.specs.declared.types.Value.{Value}
use Rattle.py_value.specs.declared.types.Value.TheVariants as V
use Rattle.py_value.proofs.SortedMaps.{look_up-put, look_up-where_on}
use Rattle.visit_meaning.specs.Answer.{named_so}
use Rattle.run_meaning.specs.Meaning.{Env, Scene, Flow, head_of, lines_of, right_of}
use Rattle.run_meaning.specs.Spending.{Spending, Got, Failed, Spent, runs}
use Rattle.form_meaning.specs.Thin.{Elements, are_lines, is_cell, is_plain, is_whole, is_empty, line_count}
use Rattle.visit_meaning.specs.Whole.{env_after, is_ok, outcome_of, status_of, without_defs}
use Rattle.run_meaning.specs.declared.binding.Binding.{Binding}
use Rattle.run_meaning.specs.declared.binding.Binding.TheVariants.{Plain}
use Rattle.visit_meaning.proofs.Kept.{AllGiven, AllGot, given_then, got_given}
use Rattle.visit_meaning.proofs.Makes.{IsNamed, call_named}
use Rattle.thin_runs.proofs.ThinCells.{among_cases, cell_lines, created_named, created_one, name_plain, nothing, plain_creates}

-- ---- a cell that creates an element

-- the name is bound to an element of its own name, at the present value that is kept for it
abbrev IsOwn : Map Value → Name → Option Binding → Type 0
IsOwn ui x o = (e : ElementData) × (named_so x o ≡ Some e) × (at_kept (look_up x ui) e ≡ e)

abbrev FlowOwn : Map Value → Name → Flow → Type 0
FlowOwn ui x flow = IsOwn ui x (look_up x flow.env)

own_put : (ui : Map Value) (x : Name) (v : Value) (env : Env) → IsNamed ui x v → IsOwn ui x (look_up x (put x (Plain v) env))
own_put ui x (V.Element e) env h = (e, ap (named_so x) (look_up-put x (Plain (V.Element e)) env) ∙ ap (λ b. cond b (Some e) None) h.0, h.1)
own_put ui x v env h = absurd h

target_own : (scene : Scene) (env : Env) (line : ℕ) (x y : Name) (callee : Tree) (args : Arguments) (comma : Bool) → y ≡ x
    → AllGiven (FlowOwn scene.present x) (head_of scene env line (assign (y ∷ []) (call callee args comma)))
target_own scene env line x y callee args comma same =
    subst (λ y. AllGiven (FlowOwn scene.present x) (head_of scene env line (assign (y ∷ []) (call callee args comma)))) (sym same)
    (given_then (IsNamed scene.present x) (FlowOwn scene.present x) (right_of scene env line (x ∷ []) (call callee args comma)) _
    (call_named scene env line x (ui_kind callee) args) (λ v named. own_put scene.present x v env named))

head_own : (scene : Scene) (env : Env) (line : ℕ) (x : Name) (h : Head) → is_among x (head_elements h) ≡ true
    → AllGiven (FlowOwn scene.present x) (head_of scene env line h)
head_own scene env line x (assign (y ∷ []) (call callee args comma)) here =
    target_own scene env line x y callee args comma (created_one (ui_kind callee) x y here)
head_own scene env line x h here = nothing here

-- one line
one_own : (scene : Scene) (x : Name) (b : Stmts) (flow : Flow) → line_count b ≤ 1 → is_among x (created b) ≡ true
    → AllGiven (FlowOwn scene.present x) (lines_of scene b flow)
one_own scene x end flow short here = nothing here
one_own scene x (then_comes (stmt k head block) end) flow short here = ⊎_elim
    (λ first. given_then (FlowOwn scene.present x) (FlowOwn scene.present x) (head_of scene flow.env k head) (lines_of scene end)
    (head_own scene flow.env k x head first) (λ after own. own))
    (λ no. nothing no)
    (among_cases x (head_elements head) [] here)
one_own scene x (then_comes s (then_comes t rest)) flow short here = absurd (omega arith)

body_own : (es : Elements) (n : ℕ) (code : Cell) (scene : Scene) (x : Name) (flow : Flow) → is_cell es n code ≡ true
    → is_among x (elements code) ≡ true
    → AllGiven (FlowOwn scene.present x) (lines_of scene code.body flow)
body_own es n code scene x flow h here = ⊎_elim
    (λ short. one_own scene x code.body flow (leb-true (line_count code.body) 1 short) here)
    (λ plain. absurd (plain_creates es (n + 2) x code.body (cell_lines es n code h) plain here))
    (or_cases (nat_le (line_count code.body) 1) (is_plain code.body)
    (and_parts ((code.line == n) && not (is_empty code.body) && are_lines es (n + 2) code.body) (is_whole code.body) h).1)

after_own : (ui : Map Value) (x : Name) (from : Env) (run : Spending Flow) → is_local x ≡ false → AllGot (FlowOwn ui x) run → is_ok (status_of run) ≡ true
    → IsOwn ui x (look_up x (env_after from run))
after_own ui x from (Got flow left console) plain own ok =
    subst (IsOwn ui x) (sym (look_up-where_on (λ y. not (is_local y)) x flow.env (ap not plain))) own
after_own ui x from (Failed kind line left console) plain own ok = nothing ok
after_own ui x from (Spent line left console) plain own ok = nothing ok

-- A cell of the form that has ended ok has bound each name of an element that it creates to this element.
pub outcome_own : (es : Elements) (n budget : ℕ) (ui : Map Value) (may_run : Bool) (c : ℕ) (env : Env) (code : Cell) (x : Name) → is_cell es n code ≡ true
    → is_among x (elements code) ≡ true → is_ok (outcome_of budget ui may_run c env code).frame.status ≡ true
    → IsOwn ui x (look_up x (outcome_of budget ui may_run c env code).env)
outcome_own es n budget ui false c env code x h here ok = nothing ok
outcome_own es n budget ui true c env code x h here ok =
    let from : Env = without_defs code env in
    let scene : Scene = record { own = elements code; present = ui } in
    after_own ui x from (runs scene from code.body budget) (name_plain x (created_named es (n + 2) x code.body (cell_lines es n code h) here))
    (got_given (FlowOwn ui x) (lines_of scene code.body (record { last = None; env = from })) budget []
    (body_own es n code scene x (record { last = None; env = from }) h here))
    ok
