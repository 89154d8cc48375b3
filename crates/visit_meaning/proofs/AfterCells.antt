-- Cells that run one after the other, each from what is kept then: where they lead, and what they give.
use Rattle.std.proofs.Common.{◌≡◌, ◌∙◌, refl, sym, ap, subst, ℕ, ◌<◌, true, cond, ◌==◌, List, [], ◌∷◌, ◌++◌, length, Option, Some, slice_get}
use Rattle.std.specs.Prelude.{flat_map}
use Rattle.std.proofs.lemmas.Bool.{eq-eqb, or_left, or_right}
use Rattle.messages.specs.declared.message.Message.TheVariants.{Set}
use Rattle.messages.specs.declared.message.SetItem.{SetItem}
use Rattle.py_tree.specs.Names.{Name}
use Rattle.py_tree.specs.Trees.{Cell}
use Rattle.py_value.specs.Maps.{Map}
use Rattle.py_value.specs.declared.types.Value.{Value}
use Rattle.frames.specs.declared.frame.CellFrame.{CellFrame}
use Rattle.graph_meaning.specs.Graph.{is_in, order}
use Rattle.graph_meaning.specs.Reruns.{is_within, rerun}
use Rattle.visit_meaning.specs.Answer.{On, answer, counted, names_of, present_after, results_of, values_sent}
use Rattle.visit_meaning.specs.Rerun.{AllSent, IsAfresh, Kept, after_cells, after_code, after_outcome, given_by, given_by_code, nothing_bound, with_values}
use Rattle.visit_meaning.specs.Underway.{Going, HasNoElements, outcome_now}
use Rattle.visit_meaning.specs.Whole.{Outcome}
use Rattle.graph_meaning.proofs.Orders.{places_below}
use Rattle.visit_meaning.proofs.AtKept.{next_plain}
use Rattle.visit_meaning.proofs.FixedPoint.{code_there}
use Rattle.visit_meaning.proofs.Going.{Runs, going_next, going_opens, next_result}
use Rattle.visit_meaning.proofs.InOrder.{in_all}
use Rattle.visit_meaning.proofs.ResultsOf.{results_one_by_one}
use Rattle.visit_meaning.proofs.SentValues.{none_unfit, none_unknown, sent_set}
use Rattle.visit_meaning.proofs.Standing.{answered, sets_going, stands}

-- the cells are cells of the notebook
abbrev AreThere : List Cell → List ℕ → Type 0
AreThere nb cells = (c : ℕ) → is_in c cells ≡ true → c < length nb

head_there : (nb : List Cell) (c : ℕ) (cs : List ℕ) → AreThere nb (c ∷ cs) → c < length nb
head_there nb c cs there = there c (or_left (c == c) _ (eq-eqb c c refl))

tail_there : (nb : List Cell) (c : ℕ) (cs : List ℕ) → AreThere nb (c ∷ cs) → AreThere nb cs
tail_there nb c cs there d on = there d (or_right (c == d) _ on)

module _ (nb : List Cell) (budget : ℕ) (ui : Map Value) (runs : Runs nb) where
  -- With each cell that has run one less is left.
  going_one : (c : ℕ) (code : Cell) (cs : List ℕ) (kept : Kept) → slice_get nb c ≡ Some code → Going nb budget ui (c ∷ cs) kept.env kept.newest
      → let now : Kept = after_code nb budget ui c (Some code) kept in Going nb budget ui cs now.env now.newest
  going_one c code cs kept e g =
      let o : Outcome = outcome_now nb budget ui kept.env kept.newest c code in
      going_next nb budget ui runs g e (after_outcome c o kept).newest
      (ap (λ b. cond b (Some o.frame) (kept.newest c)) (eq-eqb c c refl))
      (λ a apart. ap (λ b. cond b (Some o.frame) (kept.newest a)) apart)

  -- so none is left when all have run
  pub going_through : (cells : List ℕ) (kept : Kept) → AreThere nb cells → Going nb budget ui cells kept.env kept.newest
      → let end : Kept = after_cells nb budget ui cells kept in Going nb budget ui [] end.env end.newest
  going_through [] kept there g = g
  going_through (c ∷ cs) kept there g =
      let here = code_there nb c (head_there nb c cs there) in
      subst (λ o. let end : Kept = after_cells nb budget ui cs (after_code nb budget ui c o kept) in Going nb budget ui [] end.env end.newest)
      (sym here.1)
      (going_through cs (after_code nb budget ui c (Some here.0) kept) (tail_there nb c cs there) (going_one c here.0 cs kept here.1 g))

  -- They give their results in the whole.
  pub given_are : (cells : List ℕ) (kept : Kept) → AreThere nb cells → Going nb budget ui cells kept.env kept.newest
      → given_by nb budget ui cells kept ≡ flat_map (λ c. results_of nb budget ui (c ∷ [])) cells
  given_are [] kept there g = refl
  given_are (c ∷ cs) kept there g =
      let here = code_there nb c (head_there nb c cs there) in
      let first = next_result nb budget ui runs g here.1 in
      let rest = given_are cs (after_code nb budget ui c (Some here.0) kept) (tail_there nb c cs there) (going_one c here.0 cs kept here.1 g) in
      ap (λ o. given_by_code nb budget ui c o kept ++ given_by nb budget ui cs (after_code nb budget ui c o kept)) here.1
      ∙ λ i. sym first i ++ rest i

  -- the opening: all cells run, from nothing
  pub opened_afresh : (newest : ℕ → Option CellFrame)
      → HasNoElements ui → IsAfresh nb budget ui (after_cells nb budget ui (order nb) (nothing_bound newest))
  opened_afresh newest plain = stands plain
      (going_through (order nb) (nothing_bound newest) (places_below nb (length nb)) (going_opens nb budget ui runs))

-- ---- values that are set

rerun_there : (nb : List Cell) (names : List Name) → AreThere nb (rerun nb names)
rerun_there nb names c on = places_below nb (length nb) c (in_all (is_within nb names (length nb)) c (order nb) on)

module _ (nb : List Cell) (budget : ℕ) (ui : Map Value) (items : List SetItem) (kept : Kept) (runs : Runs nb) (afresh : IsAfresh nb budget ui kept)
    (all : AllSent kept.env items) where
  abbrev sets : Map Value
  sets = values_sent items

  abbrev present : Map Value
  present = present_after nb kept.env ui sets

  abbrev again : List ℕ
  again = rerun nb (names_of sets)

  going : Going nb budget present again (with_values sets kept).env kept.newest
  going = sets_going afresh sets runs (sent_set kept.env items all)

  -- The cells that run again lead to what is computed afresh,
  pub rerun_afresh : IsAfresh nb budget present (after_cells nb budget present again (with_values sets kept))
  rerun_afresh = stands (next_plain nb kept.env ui sets afresh.plain)
      (going_through nb budget present runs again (with_values sets kept) (rerun_there nb (names_of sets)) going)

  -- and give the answer.
  pub rerun_answers : answer nb budget (On ui) (Some (Set items))
      ≡ record { state = On present; parts = counted (given_by nb budget present again (with_values sets kept)) }
  rerun_answers =
      answered afresh items (none_unknown kept.env items all) (none_unfit kept.env items all)
      ∙ ap (λ parts. record { state = On present; parts = counted parts })
      (results_one_by_one nb budget present (is_within nb (names_of sets) (length nb))
      ∙ sym (given_are nb budget present runs again (with_values sets kept) (rerun_there nb (names_of sets)) going))
