-- A notebook of the thin form is one that a kernel can run.
use Rattle.std.proofs.Common.{◌≡◌, ◌∙◌, refl, ℕ, true, List, Option, Some, None, slice_get, arith}
use Rattle.py_tree.specs.Elements.{elements}
use Rattle.py_tree.specs.Names.{Name, is_among}
use Rattle.py_tree.specs.Scope.{defs}
use Rattle.py_tree.specs.Trees.{Cell}
use Rattle.graph_meaning.specs.Graph.{defs_of, elements_of, names_at}
use Rattle.visit_meaning.specs.Runnable.{Runnable, itself}
use Rattle.form_meaning.specs.Thin.{are_thin}
use Rattle.form_meaning.specs.Thin as thin_form
use Rattle.visit_meaning.proofs.FixedPoint.{defs_are, refs_are}
use Rattle.thin_runs.proofs.ThinBindings.{thin_only_made}
use Rattle.thin_runs.proofs.ThinCells.{nothing, thin_but_present, thin_cell, thin_element, thin_same}
use Rattle.thin_runs.proofs.ThinCode.{thin_few, thin_good}
use Rattle.thin_runs.proofs.ThinMakes.{outcome_own}

-- the elements that a cell creates are among its definitions
elements_defined : (nb : List Cell) (c : ℕ) (x : Name) → are_thin nb ≡ true → is_among x (elements_of nb c) ≡ true → is_among x (defs_of nb c) ≡ true
elements_defined nb c x thin h = by (slice_get nb c) refl h
  where
    by : (o : Option Cell) → slice_get nb c ≡ o → is_among x (names_at elements o) ≡ true → is_among x (names_at defs (slice_get nb c)) ≡ true
    by None e here = nothing here
    by (Some code) e here =
        let t = thin_cell nb c code thin e in
        defs_are nb c code x e ∙ thin_element (thin_form.elements_of nb) t.0 code x t.1 here

pub thin_runnable : (nb : List Cell) → are_thin nb ≡ true → Runnable nb
thin_runnable nb thin = record {
  few = omega (arith, thin_few nb thin);
  meant = λ c code e. (thin_good nb c code thin e).0;
  plain = λ c code e. (thin_good nb c code thin e).1;
  by_reads = λ budget ui may_run c code env env' e bind bind' agree.
      let t = thin_cell nb c code thin e in
      thin_same (thin_form.elements_of nb) t.0 budget ui may_run c env env' code t.1
      (λ x read. agree x (itself (refs_are nb c code x e ∙ read)));
  but_present = λ budget ui ui' may_run c code env e bind.
      let t = thin_cell nb c code thin e in thin_but_present (thin_form.elements_of nb) t.0 budget ui ui' may_run c env code t.1;
  created = λ c x here. elements_defined nb c x thin here;
  made = λ budget ui may_run c code env x e bind here ok.
      let t = thin_cell nb c code thin e in outcome_own (thin_form.elements_of nb) t.0 budget ui may_run c env code x t.1 here ok;
  only_made = λ budget ui x e kept there. thin_only_made nb budget ui x e thin kept there;
}
