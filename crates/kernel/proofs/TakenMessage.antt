-- What is kept when a message was taken, and that it is as the message's answer says.
use Rattle.std.proofs.Common.{◌≡◌, ◌∙◌, refl, sym, ap, subst, ℕ, ◌+◌, ◌^◌, ◌≤◌, ◌<◌, false, List, [], ◌∷◌, ◌++◌, length, arith}
use Rattle.std.specs.Prelude.{All, Some, flat_map}
use Rattle.std.proofs.lemmas.List.{length-map}
use Rattle.messages.specs.declared.message.Message.TheVariants.{Open}
use Rattle.py_tree.specs.Trees.{Cell}
use Rattle.py_tree.specs.View.{view_cell, view_cells}
use Rattle.py_tree.specs.declared.tree.CellCode.{CellCode}
use Rattle.visit_meaning.specs.Answer.{On, Part, at_no_cost, results, results_of, counted, answer}
use Rattle.graph_meaning.specs.Graph.{order}
use Rattle.visit_meaning.specs.Runnable.{Runnable}
use Rattle.visit_meaning.specs.Underway.{Going, HasNoElements}
use Rattle.frames.specs.declared.frame.Frame.TheVariants as frame
use Rattle.visit_meaning.proofs.AtKept.{none_kept}
use Rattle.visit_meaning.proofs.Going.{Runs, going_opens}
use Rattle.visit_meaning.proofs.ResultsOf.{all_results_one_by_one, one_each_all}
use Rattle.kernel.specs.Pending.{cells_of}
use Rattle.kernel.specs.KernelState.{IsBefore, IsKept, StandsBy, state_of, visit_of}
use Rattle.kernel.specs.Visit.{Takes, newest_in}
use Rattle.kernel.specs.declared.pending.Cells.{Cells}
use Rattle.kernel.specs.declared.pending.Pending.TheVariants as pending
use Rattle.kernel.specs.declared.state.KernelState.{KernelState}
use Rattle.kernel.specs.declared.state.Phase.TheVariants as phases
use Rattle.kernel.proofs.Bounds.{order_below, order_length}

pub runs_of : (s : KernelState) → IsKept s → Runs (view_cells s.notebook.now)
runs_of s kept = record { runnable = kept.runnable; once = kept.once; free = kept.free }

-- ---- cells of the order

-- their frames can be counted
pub few : (nb : List CellCode) (cells : List ℕ) → Runnable (view_cells nb) → length cells ≤ length (order (view_cells nb))
    → (0 ≤ length cells) × (length cells + 1 < 2 ^ 32)
few nb cells runnable h = (omega arith, omega (arith, runnable.few, order_length (view_cells nb)))

pub order_there : (nb : List CellCode) → All (λ c. c < length nb) (order (view_cells nb))
order_there nb = subst (λ n. All (λ c. c < n) (order (view_cells nb))) (length-map nb view_cell) (order_below (view_cells nb))

-- their results, one for each, are counted by them
pub counted_cells : (parts : List Part) (f : ℕ → List Part) (cells : List ℕ) → parts ≡ flat_map f cells → length (flat_map f cells) ≡ length cells
    → flat_map f cells ++ at_no_cost (frame.Done (length cells)) ∷ [] ≡ counted parts
counted_cells parts f cells is long = ap (λ n. flat_map f cells ++ at_no_cost (frame.Done n) ∷ []) (sym long) ∙ ap counted (sym is)

-- ---- the opening

abbrev pub opened : KernelState → Cells → KernelState
opened s cells = record s { phase = phases.On; pending = pending.Results cells 0 }

before_by : (s : KernelState) → IsKept s → s.phase ≡ phases.Before → IsBefore s
before_by s kept off = subst (λ p. StandsBy p s) off kept.stands

pub opened_kept : (s : KernelState) (cells : Cells) → IsKept s → s.phase ≡ phases.Before → cells_of cells ≡ order (view_cells s.notebook.now) → IsKept (opened s cells)
opened_kept s cells kept off is =
    let nb : List Cell = view_cells s.notebook.now in
    let before : IsBefore s = before_by s kept off in
    record {
      runnable = kept.runnable;
      once = kept.once;
      free = kept.free;
      count = kept.count;
      plain = kept.plain;
      cells = subst (All (λ c. c < length s.notebook.now)) (sym is) (order_there s.notebook.now);
      within = few s.notebook.now (cells_of cells) kept.runnable (omega (arith, ap length is));
      stands = record {
        values = subst HasNoElements (sym before.present) none_kept;
        going = subst (λ left. Going nb s.budget s.present left s.env (newest_in s.newest.items)) (sym is)
            (subst (λ env. Going nb s.budget s.present (order nb) env (newest_in s.newest.items)) (sym before.env)
            (going_opens nb s.budget s.present (runs_of s kept)));
      };
    }

pub opened_taken : (s : KernelState) (cells : Cells) → IsKept s → s.phase ≡ phases.Before → cells_of cells ≡ order (view_cells s.notebook.now)
    → Takes (Some Open) (visit_of false s) (visit_of false (opened s cells))
opened_taken s cells kept off is =
    let nb : List Cell = view_cells s.notebook.now in
    let none : s.present ≡ [] = (before_by s kept off).present in
    record {
      state = ap On none ∙ ap (λ p. (answer nb s.budget (state_of p s.present) (Some Open)).state) (sym off);
      pending = ap (λ cs. flat_map (λ c. results_of nb s.budget s.present (c ∷ [])) cs ++ at_no_cost (frame.Done (length cs)) ∷ []) is
          ∙ counted_cells (results nb s.budget s.present) (λ c. results_of nb s.budget s.present (c ∷ [])) (order nb)
          (all_results_one_by_one nb s.budget s.present) (one_each_all nb s.budget s.present)
          ∙ ap (λ ui. counted (results nb s.budget ui)) none
          ∙ ap (λ p. (answer nb s.budget (state_of p s.present) (Some Open)).parts) (sym off);
      newest = refl;
      kept = λ why e. refl;
      nb = refl;
      budget = refl;
      spoiled = refl;
    }
