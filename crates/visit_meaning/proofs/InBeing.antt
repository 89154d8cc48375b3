-- The elements in being in the whole: those of the cells that have ended ok and create them.
use Rattle.std.proofs.Common.{◌≡◌, ◌∙◌, refl, sym, ap, ℕ, Bool, true, false, List, Option, Some, None}
use Rattle.std.specs.Prelude.{◌↔◌}
use Rattle.std.specs.Str.{bytes_eq}
use Rattle.std.proofs.lemmas.Bool.{both_ways, true_from_ne_false}
use Rattle.std.proofs.lemmas.Option.{cond_some, none-some}
use Rattle.py_tree.specs.Elements.{elements}
use Rattle.py_tree.specs.Names.{Name, is_among}
use Rattle.py_tree.specs.Scope.{defs}
use Rattle.py_tree.specs.Trees.{Cell}
use Rattle.py_value.specs.ElementData.{ElementData}
use Rattle.py_value.specs.Maps.{Map, look_up}
use Rattle.py_value.specs.declared.types.Value.{Value}
use Rattle.py_value.specs.declared.types.Value.TheVariants as V
use Rattle.visit_meaning.specs.Answer.{element_in, named_so}
use Rattle.graph_meaning.specs.Graph.{defs_of, elements_of, names_at}
use Rattle.run_meaning.specs.Meaning.{Env, Flow}
use Rattle.visit_meaning.specs.Runnable.{IsMade}
use Rattle.run_meaning.specs.Spending.{Spending, Got, Failed, Spent, runs}
use Rattle.visit_meaning.specs.Underway.{HasNoElements}
use Rattle.visit_meaning.specs.Whole.{ended_ok, env_after, is_ok, outcome_of, status_of, whole, without_defs}
use Rattle.run_meaning.specs.declared.binding.Binding.{Binding}
use Rattle.run_meaning.specs.declared.binding.Binding.TheVariants.{Plain}
use Rattle.visit_meaning.proofs.FixedPoint.{code_there, defs_are, ran_defined, ran_so}
use Rattle.visit_meaning.proofs.Going.{Runs}
use Rattle.visit_meaning.proofs.InOrder.{definer_below}
use Rattle.visit_meaning.proofs.Outcomes.{without_unbound}

pub element_bound : (x : Name) (o : Option Binding) (e : ElementData) → named_so x o ≡ Some e → o ≡ Some (Plain (V.Element e))
element_bound x (Some (Plain (V.Element f))) e h = ap (λ f. Some (Plain (V.Element f))) (cond_some (bytes_eq f.name x) f e h).1
element_bound x o e h = absurd (none-some e h)

-- ---- a cell that isn't ok defines nothing

after_none : (x : Name) (from : Env) (run : Spending Flow) → look_up x from ≡ None → is_ok (status_of run) ≡ false
    → look_up x (env_after from run) ≡ None
after_none x from (Got flow left console) none off = absurd (both_ways true off refl)
after_none x from (Failed kind line left console) none off = none
after_none x from (Spent line left console) none off = none

outcome_none : (budget : ℕ) (ui : Map Value) (may_run : Bool) (c : ℕ) (env : Env) (code : Cell) (x : Name) → is_among x (defs code) ≡ true
    → is_ok (outcome_of budget ui may_run c env code).frame.status ≡ false → look_up x (outcome_of budget ui may_run c env code).env ≡ None
outcome_none budget ui false c env code x defined off = without_unbound code env x defined
outcome_none budget ui true c env code x defined off =
    after_none x (without_defs code env) (runs (record { own = elements code; present = ui }) (without_defs code env) code.body budget)
    (without_unbound code env x defined) off

-- ---- the whole

module _ (nb : List Cell) (budget : ℕ) (ui : Map Value) (runs : Runs nb) where
  -- a name that is bound where the whole ends has been defined by a cell that has ended ok
  defined_ok : (c : ℕ) (x : Name) (b : Binding) → is_among x (defs_of nb c) ≡ true → look_up x (whole nb budget ui).env ≡ Some b
      → ended_ok (whole nb budget ui).frames c ≡ true
  defined_ok c x b defined bound = true_from_ne_false _
      (λ off.
      let there = code_there nb c (definer_below nb c x defined) in
      let r = ran_so nb budget ui c there.0 there.1 runs.once runs.free in
      let here : is_among x (defs there.0) ≡ true = sym (defs_are nb c there.0 x there.1) ∙ defined in
      none-some b (sym (outcome_none budget ui _ c r.env there.0 x here (sym r.ended ∙ off)) ∙ r.defined x here ∙ bound))

  -- the cell that creates an element in being, which has ended ok
  pub creator : HasNoElements ui → (x : Name) (e : ElementData) → element_in (whole nb budget ui).env x ≡ Some e
      → (c : ℕ) × (is_among x (elements_of nb c) ≡ true) × (ended_ok (whole nb budget ui).frames c ≡ true)
  creator kept x e h =
      let w = runs.runnable.only_made budget ui x e kept h in
      let bound = element_bound x (look_up x (whole nb budget ui).env) e h in
      (w.0, w.1, defined_ok w.0 x (Plain (V.Element e)) (runs.runnable.created w.0 x w.1) bound)

  -- what a cell that has ended ok creates
  pub created_bound : (c : ℕ) (x : Name) → is_among x (elements_of nb c) ≡ true → ended_ok (whole nb budget ui).frames c ≡ true
      → IsMade ui x (whole nb budget ui).env
  created_bound c x here ok =
      let defined = runs.runnable.created c x here in
      let there = code_there nb c (definer_below nb c x defined) in
      let code : Cell = there.0 in
      let r = ran_so nb budget ui c code there.1 runs.once runs.free in
      let own : is_among x (elements code) ≡ true = sym (ap (λ o. is_among x (names_at elements o)) there.1) ∙ here in
      let m = runs.runnable.made budget ui _ c code r.env x there.1 (ran_defined r) own (sym r.ended ∙ ok) in
      (m.0, ap (named_so x) (sym (r.defined x (sym (defs_are nb c code x there.1) ∙ defined))) ∙ m.1, m.2)

  -- An element is in being exactly where a cell that has ended ok creates one of this name.
  pub in_being : HasNoElements ui → (x : Name) → (((e : ElementData) × (element_in (whole nb budget ui).env x ≡ Some e))
      ↔ ((c : ℕ) × (is_among x (elements_of nb c) ≡ true) × (ended_ok (whole nb budget ui).frames c ≡ true)))
  in_being kept x = (λ h. creator kept x h.0 h.1, λ h. let m = created_bound h.0 x h.1 h.2 in (m.0, m.1))
