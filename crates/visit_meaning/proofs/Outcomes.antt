-- What one cell of the order does to the bindings: it changes only those of names that it defines.
use Rattle.std.proofs.Common.{◌≡◌, ◌∙◌, refl, sym, ap, ℕ, Bool, true, false, not, List, ⊎_elim, None}
use Rattle.std.proofs.lemmas.Bool.{cases_Bool}
use Rattle.py_tree.specs.Elements.{elements}
use Rattle.py_tree.specs.Names.{Name, is_among, is_local}
use Rattle.py_tree.specs.Scope.{bound, defs}
use Rattle.py_tree.specs.Trees.{Cell}
use Rattle.py_value.specs.Maps.{Map, look_up, where_name, IsSortedMap}
use Rattle.py_value.specs.declared.types.Value.{Value}
use Rattle.py_value.proofs.SortedMaps.{look_up-where_none, look_up-where_on, look_up-where_off, sorted_where_name}
use Rattle.run_meaning.specs.Meaning.{Scene, Env, Flow}
use Rattle.run_meaning.specs.Spending.{Spending, Got, Failed, Spent, runs}
use Rattle.visit_meaning.specs.Underway.{HasNoLocals}
use Rattle.visit_meaning.specs.Whole.{without_defs, env_after, outcome_of}
use Rattle.visit_meaning.proofs.Kept.{AllGot, ChangesOnly, run_changes}
use Rattle.py_tree.proofs.NamesOf.{not_bound}

-- only these names change, none with a leading underscore is bound, and the bindings stay in order
pub record Settles (names : List Name) (env after : Env) : Type 0 where
  pub others : (x : Name) → is_among x names ≡ false → look_up x after ≡ look_up x env
  pub plain : HasNoLocals after
  pub sorted : IsSortedMap env → IsSortedMap after

one_settles : (names : List Name) (env between after : Env) → Settles names env between → Settles names between after → Settles names env after
one_settles names env between after first second =
    record {
      others = λ x h. second.others x h ∙ first.others x h;
      plain = second.plain;
      sorted = λ s. second.sorted (first.sorted s);
    }

stays : (names : List Name) (env : Env) → HasNoLocals env → Settles names env env
stays names env plain = record { others = λ x h. refl; plain = plain; sorted = λ s. s }

-- the definitions are removed
without_settles : (code : Cell) (env : Env) → HasNoLocals env → Settles (defs code) env (without_defs code env)
without_settles code env plain =
    let others = λ (x : Name). not (is_among x (defs code)) in
    record {
      others = λ x h. look_up-where_on others x env (ap not h);
      plain = λ x h. look_up-where_none others x env (plain x h);
      sorted = sorted_where_name others env;
    }

pub without_unbound : (code : Cell) (env : Env) (x : Name) → is_among x (defs code) ≡ true → look_up x (without_defs code env) ≡ None
without_unbound code env x h = look_up-where_off (λ y. not (is_among y (defs code))) x env (ap not h)

-- names with a leading underscore vanish after a run that ended ok
got_settles : (code : Cell) (from : Env) (flow : Flow) → HasNoLocals from → ChangesOnly (bound code.body) from flow.env
    → Settles (defs code) from (where_name (λ x. not (is_local x)) flow.env)
got_settles code from flow plain changes =
    let kept = λ (x : Name). not (is_local x) in
    record {
      others = λ x h. ⊎_elim
          (λ local. look_up-where_off kept x flow.env (ap not local) ∙ sym (plain x local))
          (λ apart. look_up-where_on kept x flow.env (ap not apart) ∙ changes.others x (not_bound x code h apart))
          (cases_Bool (is_local x));
      plain = λ x h. look_up-where_off kept x flow.env (ap not h);
      sorted = λ s. sorted_where_name kept flow.env (changes.sorted s);
    }

run_settles : (code : Cell) (from : Env) (run : Spending Flow) → HasNoLocals from
    → AllGot (λ (after : Flow). ChangesOnly (bound code.body) from after.env) run → Settles (defs code) from (env_after from run)
run_settles code from (Got flow left console) plain changes = got_settles code from flow plain changes
run_settles code from (Failed kind line left console) plain changes = stays (defs code) from plain
run_settles code from (Spent line left console) plain changes = stays (defs code) from plain

-- a cell that runs or is cancelled
pub outcome_settles : (budget : ℕ) (ui : Map Value) (may_run : Bool) (c : ℕ) (env : Env) (code : Cell) → HasNoLocals env
    → Settles (defs code) env (outcome_of budget ui may_run c env code).env
outcome_settles budget ui true c env code plain =
    let from = without_defs code env in
    let first = without_settles code env plain in
    let scene : Scene = record { own = elements code; present = ui } in
    one_settles (defs code) env from _ first
    (run_settles code from (runs scene from code.body budget) first.plain (run_changes scene from code.body budget))
outcome_settles budget ui false c env code plain = without_settles code env plain

-- its result is that of the cell
pub outcome_cell : (budget : ℕ) (ui : Map Value) (may_run : Bool) (c : ℕ) (env : Env) (code : Cell)
    → (outcome_of budget ui may_run c env code).frame.cell ≡ c
outcome_cell budget ui true c env code = refl
outcome_cell budget ui false c env code = refl
