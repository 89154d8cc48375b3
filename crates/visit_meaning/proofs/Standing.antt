-- Where no cell is left to run, what is kept is what is computed afresh; and from what is so, where the cells start that run again when
-- values are set, and what the message is answered.
use Rattle.std.proofs.Common.{◌≡◌, ◌∙◌, refl, sym, ap, subst, ℕ, List, [], Option, Some, None}
use Rattle.messages.specs.declared.message.Message.TheVariants.{Set}
use Rattle.messages.specs.declared.message.SetItem.{SetItem}
use Rattle.py_tree.specs.Trees.{Cell}
use Rattle.py_value.specs.Maps.{Map}
use Rattle.py_value.specs.declared.types.Value.{Value}
use Rattle.visit_meaning.specs.Answer.{On, Answered, answer, answer_by, answer_with, first_unfit, first_unknown, names_of, present_after, refused, values_sent}
use Rattle.run_meaning.specs.Meaning.{Env}
use Rattle.graph_meaning.specs.Reruns.{rerun}
use Rattle.visit_meaning.specs.Rerun.{AllSet, IsAfresh, Kept, laid_over}
use Rattle.visit_meaning.specs.Underway.{Going, HasNoElements}
use Rattle.visit_meaning.specs.Whole.{whole}
use Rattle.frames.specs.declared.frame.Frame.TheVariants as frame
use Rattle.visit_meaning.proofs.FixedPoint.{whole_sorted}
use Rattle.visit_meaning.proofs.Going.{Runs}
use Rattle.visit_meaning.proofs.OneByOne.{but_none}
use Rattle.visit_meaning.proofs.RerunSuffices.{AreTaken, going_again}

-- What stands when no cell is left is what is computed afresh.
pub stands : {nb : List Cell} {budget : ℕ} {ui : Map Value} {kept : Kept} → HasNoElements ui → Going nb budget ui [] kept.env kept.newest
    → IsAfresh nb budget ui kept
stands {nb = nb} {budget = budget} {ui = ui} {kept = kept} plain g = record {
  plain = plain;
  env_is = but_none nb kept.env (whole nb budget ui).env g.but (whole_sorted nb budget ui);
  newest_is = λ a below. g.newest_is a below refl;
}

-- ---- values that are set

module _ {nb : List Cell} {budget : ℕ} {ui : Map Value} {kept : Kept} (at : IsAfresh nb budget ui kept) (sets : Map Value) where
  -- Where each value is admitted, the cells that run again start from the kept bindings with the values laid over.
  pub sets_going : Runs nb → AllSet kept.env sets
      → Going nb budget (present_after nb kept.env ui sets) (rerun nb (names_of sets)) (laid_over sets kept.env) kept.newest
  sets_going runs all =
      let taken : AreTaken nb budget ui sets = record { runs = runs; plain = at.plain; all = subst (λ e. AllSet e sets) at.env_is all } in
      subst (λ e. Going nb budget (present_after nb e ui sets) (rerun nb (names_of sets)) (laid_over sets e) kept.newest) (sym at.env_is)
      (going_again nb budget ui sets taken kept.newest at.newest_is)

module _ {nb : List Cell} {budget : ℕ} {ui : Map Value} {kept : Kept} (at : IsAfresh nb budget ui kept) (items : List SetItem) where
  abbrev from : Env
  from = (whole nb budget ui).env

  abbrev sent : Map Value
  sent = values_sent items

  abbrev reply : Option SetItem → Option SetItem → Answered
  reply unknown unfit = answer_by nb budget from ui sent unknown unfit

  -- The answer is by what is found in the kept bindings.
  found : answer nb budget (On ui) (Some (Set items)) ≡ reply (first_unknown kept.env items) (first_unfit kept.env items)
  found = ap (λ e. reply (first_unknown e items) (first_unfit e items)) (sym at.env_is)

  -- Where a name is no element's, this is the answer, and nothing changes;
  pub no_element : (i : SetItem) → first_unknown kept.env items ≡ Some i
      → answer nb budget (On ui) (Some (Set items)) ≡ refused (On ui) (frame.NoElement i.name)
  no_element i h = found ∙ ap (λ o. reply o (first_unfit kept.env items)) h

  -- where an element doesn't admit what is sent, this one;
  pub no_value : first_unknown kept.env items ≡ None → (i : SetItem) → first_unfit kept.env items ≡ Some i
      → answer nb budget (On ui) (Some (Set items)) ≡ refused (On ui) (frame.NoValue i.name)
  no_value there i h = found ∙ λ k. reply (there k) (h k)

  -- where each element admits its value, it is this one: the results of the cells that run again, with the next present values.
  pub answered : first_unknown kept.env items ≡ None → first_unfit kept.env items ≡ None
      → answer nb budget (On ui) (Some (Set items))
      ≡ answer_with nb budget (present_after nb kept.env ui sent) (rerun nb (names_of sent))
  answered there fit =
      found ∙ (λ k. reply (there k) (fit k))
      ∙ ap (λ e. answer_with nb budget (present_after nb e ui sent) (rerun nb (names_of sent))) (sym at.env_is)
