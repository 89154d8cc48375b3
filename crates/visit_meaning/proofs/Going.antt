-- Cells that run one after the other towards a whole: what the next one does to where they stand.
use Rattle.std.proofs.Common.{◌≡◌, ◌∙◌, refl, sym, ap, subst, ℕ, Bool, false, ◌==◌, List, [], ◌∷◌, Option, Some, slice_get, ⊎_elim}
use Rattle.std.specs.List.{list_all}
use Rattle.std.proofs.lemmas.Bool.{cases_Bool, or_from, both_ways, eqb-true}
use Rattle.py_tree.specs.Scope.{defs}
use Rattle.py_tree.specs.Trees.{Cell}
use Rattle.py_value.specs.Maps.{Map}
use Rattle.py_value.specs.declared.types.Value.{Value}
use Rattle.visit_meaning.specs.Answer.{results_of}
use Rattle.graph_meaning.specs.Graph.{all_cells, edge, is_in, parents, order, NoneDoubled, NoneCyclic}
use Rattle.run_meaning.specs.Meaning.{Env}
use Rattle.visit_meaning.specs.Runnable.{Runnable, SameOutcome}
use Rattle.visit_meaning.specs.Underway.{Going, ended, frame_at, outcome_now}
use Rattle.visit_meaning.specs.Whole.{Outcome, Progress, outcome_of, ended_ok, whole}
use Rattle.frames.specs.declared.frame.CellFrame.{CellFrame}
use Rattle.frames.specs.declared.frame.Frame.TheVariants as frame
use Rattle.visit_meaning.proofs.FixedPoint.{ended_newest, ran_defined, ran_so, whole_defined, whole_only}
use Rattle.visit_meaning.proofs.InOrder.{all_agree}
use Rattle.visit_meaning.proofs.OneByOne.{Reaches, but_defined, like_ran, order_first, reaches}
use Rattle.graph_meaning.proofs.Orders.{free_is_listed, from_cell}
use Rattle.visit_meaning.proofs.ResultsOf.{once_framed, one_result}

-- a notebook that runs
pub record Runs (nb : List Cell) : Type 0 where
  pub runnable : Runnable nb
  pub once : NoneDoubled nb
  pub free : NoneCyclic nb

module _ (nb : List Cell) (budget : ℕ) (ui : Map Value) where
  abbrev goal : Progress
  goal = whole nb budget ui

  -- The next cell has the result and the cost that it has in the whole, and the bindings after it are on their way.
  next_reaches : Runs nb → (left : List ℕ) (env : Env) (newest : ℕ → Option CellFrame) (c : ℕ) (code : Cell) → Going nb budget ui (c ∷ left) env newest
      → slice_get nb c ≡ Some code → Reaches nb (whole nb budget ui) c left (outcome_now nb budget ui env newest c code)
  next_reaches runs left env newest c code g e =
      let ok : ℕ → Bool = λ a. ended (newest a) in
      let r = ran_so nb budget ui c code e runs.once runs.free in
      let may : list_all ok (parents nb c) ≡ list_all (ended_ok goal.frames) (parents nb c) =
      all_agree (λ a. edge nb a c) ok (ended_ok goal.frames) (all_cells nb)
      (λ a on. ap ended (g.newest_is a (from_cell nb a c on) (g.first.0 a ([], (on, tt)))) ∙ ended_newest goal.frames a (once_framed nb budget ui)) in
      let same = runs.runnable.by_reads budget ui (list_all ok (parents nb c)) c code env r.env e
      (but_defined nb (c ∷ left) env goal.env g.but (whole_defined nb budget ui)) (ran_defined r)
      (like_ran nb budget ui left goal c code env runs.once r g.first g.but) in
      reaches nb budget ui (list_all ok (parents nb c)) (order nb) left goal c code env e r g.but
      (subst (λ b. SameOutcome (defs code) (outcome_now nb budget ui env newest c code) (outcome_of budget ui b c r.env code)) may same)

  -- so this is its result
  pub next_result : {left : List ℕ} {env : Env} {newest : ℕ → Option CellFrame} {c : ℕ} {code : Cell} → Runs nb → Going nb budget ui (c ∷ left) env newest
      → slice_get nb c ≡ Some code
      → results_of nb budget ui (c ∷ [])
      ≡ record { frame = frame.Cell (outcome_now nb budget ui env newest c code).frame; cost = (outcome_now nb budget ui env newest c code).cost } ∷ []
  next_result {left = left} {env = env} {newest = newest} {c = c} {code = code} runs g e =
      let r = next_reaches runs left env newest c code g e in
      let o : Outcome = outcome_now nb budget ui env newest c code in
      one_result nb budget ui c o.frame o.cost r.frame r.cost

  -- So it stands with one cell less, where this one has the new frame and the others have the frames that they had.
  pub going_next : {left : List ℕ} {env : Env} {newest : ℕ → Option CellFrame} {c : ℕ} {code : Cell} → Runs nb → Going nb budget ui (c ∷ left) env newest
      → slice_get nb c ≡ Some code → (next : ℕ → Option CellFrame) → next c ≡ Some (outcome_now nb budget ui env newest c code).frame
      → ((a : ℕ) → (c == a) ≡ false → next a ≡ newest a)
      → Going nb budget ui left (outcome_now nb budget ui env newest c code).env next
  going_next {left = left} {env = env} {newest = newest} {c = c} {code = code} runs g e next here others =
      let r = next_reaches runs left env newest c code g e in
      record {
        first = g.first.2;
        but = r.but;
        newest_is = λ a below off. ⊎_elim
            (λ same. subst (λ n. next n ≡ frame_at goal.frames n) (eqb-true c a same) (here ∙ sym r.frame))
            (λ apart. others a apart ∙ g.newest_is a below (or_from (c == a) (is_in a left) apart off))
            (cases_Bool (c == a));
      }

  -- where all cells are to run, from nothing, whatever frames they had
  pub going_opens : {newest : ℕ → Option CellFrame} → Runs nb → Going nb budget ui (order nb) [] newest
  going_opens runs = record {
    first = order_first nb;
    but = record { same = λ x h. sym (whole_only nb budget ui x h); plain = λ x h. refl; sorted = tt };
    newest_is = λ a below off. absurd (both_ways _ off (free_is_listed nb runs.free a below));
  }
