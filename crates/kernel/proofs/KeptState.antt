-- What stands by what a kernel keeps, and how many frames are to come.
use Rattle.std.proofs.Common.{◌≡◌, ◌∙◌, refl, sym, ap, subst, ℕ, ◌+◌, ◌<◌, Bool, true, false, ◌==◌, List, [], ◌∷◌, length, drop, None, ⊎_elim, length-append, length-drop, arith}
use Rattle.std.specs.Prelude.{All, flat_map}
use Rattle.std.proofs.lemmas.Bool.{both_ways, eqb-true, or_cases}
use Rattle.std.proofs.lemmas.List.{length-map}
use Rattle.std.proofs.lemmas.List.Elements.{All-head, All-tail}
use Rattle.graph_meaning.proofs.Orders.{free_is_listed}
use Rattle.visit_meaning.proofs.ResultsOf.{one_each}
use Rattle.visit_meaning.proofs.Standing as standing
use Rattle.visit_meaning.specs.Answer.{Part, Before, On, Ended, at_no_cost, results_of}
use Rattle.graph_meaning.specs.Graph.{is_in, NoneCyclic}
use Rattle.visit_meaning.specs.Rerun.{IsAfresh}
use Rattle.visit_meaning.specs.Underway.{Going}
use Rattle.frames.specs.declared.frame.Frame.TheVariants as frame
use Rattle.py_tree.specs.Trees.{Cell}
use Rattle.py_tree.specs.View.{view_cell, view_cells}
use Rattle.py_value.specs.Maps.{Map}
use Rattle.py_value.specs.declared.types.Value.{Value}
use Rattle.kernel.specs.Pending.{cells_of, count_of, left_of, parts_of}
use Rattle.kernel.specs.KernelState.{IsKept, StandsBy, state_of, visit_of}
use Rattle.kernel.specs.Visit.{Visit, IsWhole, Stands, newest_in}
use Rattle.kernel.specs.declared.pending.Pending.{Pending}
use Rattle.kernel.specs.declared.pending.Pending.TheVariants as pending
use Rattle.kernel.specs.declared.state.KernelState.{KernelState}
use Rattle.kernel.specs.declared.state.Phase.{Phase}
use Rattle.kernel.specs.declared.state.Phase.TheVariants as phases

-- ---- what is to come

-- a number in the list is below the bound of all
is_below : (n c : ℕ) (cs : List ℕ) → All (λ d. d < n) cs → is_in c cs ≡ true → c < n
is_below n c [] all on = absurd (both_ways false refl on)
is_below n c (d ∷ ds) all on = ⊎_elim
    (λ same. subst (λ k. k < n) (eqb-true d c same) (All-head (λ d. d < n) d ds all))
    (λ later. is_below n c ds (All-tail (λ d. d < n) d ds all) later)
    (or_cases (d == c) _ on)

-- the parts are as many as are counted
parts_counted : (nb : List Cell) (budget : ℕ) (ui : Map Value) (rest : Pending) → NoneCyclic nb → All (λ c. c < length nb) (left_of rest)
    → length (parts_of nb budget ui rest) ≡ count_of rest
parts_counted nb budget ui pending.Nothing free below = refl
parts_counted nb budget ui (pending.Refusal why) free below = refl
parts_counted nb budget ui (pending.Results cells taken) free below =
    let left : List ℕ = drop taken (cells_of cells) in
    length-append (flat_map (λ c. results_of nb budget ui (c ∷ [])) left) (at_no_cost (frame.Done (length (cells_of cells))) ∷ [])
    ∙ ap (λ n. n + 1) (one_each nb budget ui left (λ c on. free_is_listed nb free c (is_below (length nb) c left below on)) ∙ length-drop taken (cells_of cells))

-- where no part is to come, no cell is left
none_left : (nb : List Cell) (budget : ℕ) (ui : Map Value) (rest : Pending) → parts_of nb budget ui rest ≡ [] → left_of rest ≡ []
none_left nb budget ui pending.Nothing none = refl
none_left nb budget ui (pending.Refusal why) none = refl
none_left nb budget ui (pending.Results cells taken) none =
    let results : List Part = flat_map (λ c. results_of nb budget ui (c ∷ [])) (drop taken (cells_of cells)) in
    let long = length-append results (at_no_cost (frame.Done (length (cells_of cells))) ∷ []) in
    let empty = ap length none in
    absurd (omega arith)

pub kept_counted : (s : KernelState) → IsKept s → length (parts_of (view_cells s.notebook.now) s.budget s.present s.pending) ≡ count_of s.pending
kept_counted s kept =
    parts_counted (view_cells s.notebook.now) s.budget s.present s.pending kept.free
    (subst (λ n. All (λ c. c < n) (left_of s.pending)) (sym (length-map s.notebook.now view_cell)) kept.cells)

-- ---- what stands

before_by : (p : Phase) (s : KernelState) → StandsBy p s → state_of p s.present ≡ Before → (c : ℕ) → newest_in s.newest.items c ≡ None
before_by phases.Before s by e c = by.newest c
before_by phases.On s by e c = let bad : On s.present ≡ Before = e in absurd cc
before_by phases.Ended s by e c = let bad : Ended ≡ Before = e in absurd cc

whole_by : (p : Phase) (spoiled : Bool) (s : KernelState) (ui : Map Value) → StandsBy p s → state_of p s.present ≡ On ui → left_of s.pending ≡ []
    → IsWhole (visit_of spoiled s) ui
whole_by phases.Before spoiled s ui by e none = let bad : Before ≡ On ui = e in absurd cc
whole_by phases.On spoiled s ui by e none =
    let nb : List Cell = view_cells s.notebook.now in
    let is : On s.present ≡ On ui = e in
    let same : s.present ≡ ui = cc in
    let at : IsAfresh nb s.budget s.present (record { env = s.env; newest = newest_in s.newest.items }) =
    standing.stands by.values (subst (λ left. Going nb s.budget s.present left s.env (newest_in s.newest.items)) none by.going) in
    let count : length nb ≡ length s.notebook.now = length-map s.notebook.now view_cell in
    subst (λ ui. IsWhole (visit_of spoiled s) ui) same (record { env = at.env_is; newest = λ c below. at.newest_is c (omega arith) })
whole_by phases.Ended spoiled s ui by e none = let bad : Ended ≡ On ui = e in absurd cc

pub stands_of : (spoiled : Bool) (s : KernelState) (v : Visit) → visit_of spoiled s ≡ v → (spoiled ≡ false → IsKept s) → v.spoiled ≡ false → Stands v
stands_of spoiled s v is kept sound =
    let k : IsKept s = kept (ap (λ (v : Visit). v.spoiled) is ∙ sound) in
    subst Stands is (record {
      before = before_by s.phase s k.stands;
      on = λ ui e none. whole_by s.phase spoiled s ui k.stands e (none_left (view_cells s.notebook.now) s.budget s.present s.pending none);
    })

pub stands_now : (s : KernelState) → IsKept s → Stands (visit_of false s)
stands_now s kept = stands_of false s (visit_of false s) refl (λ sound. kept) refl

pub pending_of : (spoiled : Bool) (s : KernelState) (v : Visit) (n : ℕ) → visit_of spoiled s ≡ v → (spoiled ≡ false → IsKept s) → v.spoiled ≡ false
    → n ≡ count_of s.pending → n ≡ length v.pending
pending_of spoiled s v n is kept sound counted =
    let k : IsKept s = kept (ap (λ (v : Visit). v.spoiled) is ∙ sound) in
    counted ∙ sym (kept_counted s k) ∙ ap (λ (v : Visit). length v.pending) is
