-- Values that are set for elements, and messages that set none.
use Rattle.std.proofs.Common.{◌≡◌, ◌∙◌, refl, sym, ap, subst, ℕ, ◌≤◌, ◌<◌, Bool, true, false, cond, not, List, [], ◌∷◌, ◌++◌, length, map, Some, ⊎_elim, arith}
use Rattle.std.specs.Prelude.{All, filter, flat_map, fold}
use Rattle.std.proofs.lemmas.Bool.{cases_Bool}
use Rattle.std.proofs.lemmas.List.Elements.{All-filter}
use Rattle.messages.specs.declared.message.Message.TheVariants.{Set}
use Rattle.messages.specs.declared.message.SetItem.{SetItem}
use Rattle.py_tree.specs.Names.{Name, is_local}
use Rattle.py_tree.specs.Trees.{Cell}
use Rattle.py_tree.specs.View.{view_cells}
use Rattle.py_tree.specs.declared.tree.CellCode.{CellCode}
use Rattle.py_value.specs.Maps.{Map, where_name, IsSortedMap}
use Rattle.py_value.specs.declared.types.Value.{Value}
use Rattle.py_value.proofs.SortedMaps.{look_up-where_off, look_up-where_on, same_maps, sorted_where_name}
use Rattle.visit_meaning.specs.Answer.{Part, Answered, answer, answer_set, answer_with, at_no_cost, counted, names_of, present_after, refused, results_of, values_sent}
use Rattle.graph_meaning.specs.Graph.{elements_of, order}
use Rattle.run_meaning.specs.Meaning.{Env}
use Rattle.graph_meaning.specs.Reruns.{is_within, rerun}
use Rattle.visit_meaning.specs.Rerun.{AllSent, IsAfresh, laid_over}
use Rattle.visit_meaning.specs.Underway.{Going, HasNoLocals}
use Rattle.frames.specs.declared.frame.Frame.{Frame}
use Rattle.frames.specs.declared.frame.Frame.TheVariants as frame
use Rattle.visit_meaning.proofs.AtKept.{next_plain}
use Rattle.visit_meaning.proofs.ResultsOf.{one_each_kept, results_one_by_one}
use Rattle.visit_meaning.proofs.SentValues.{none_unfit, none_unknown, sent_names, sent_set}
use Rattle.visit_meaning.proofs.Standing as standing
use Rattle.kernel.specs.Pending.{cells_of, left_of}
use Rattle.kernel.specs.KernelState.{IsAfter, IsKept, IsPlain, StandsBy, state_of, visit_of}
use Rattle.kernel.specs.Sets.{AreAdmitted, IsRefused, with_kept, with_set}
use Rattle.kernel.specs.Visit.{Takes, newest_in}
use Rattle.kernel.specs.declared.pending.Cells.{Cells}
use Rattle.kernel.specs.declared.pending.Pending.TheVariants as pending
use Rattle.kernel.specs.declared.state.KernelState.{KernelState}
use Rattle.kernel.specs.declared.state.Phase.TheVariants as phases
use Rattle.kernel.proofs.DroppedNames.{apart_from}
use Rattle.kernel.proofs.Sets.{all_kept, all_laid, all_sent, names_set}
use Rattle.kernel.proofs.TakenMessage.{counted_cells, few, order_there, runs_of}

-- bindings in order without names with leading underscores
plain_of : (env : Env) → HasNoLocals env → IsSortedMap env → IsPlain env
plain_of env none sorted =
    let plain : Name → Bool = λ x. not (is_local x) in
    same_maps (where_name plain env) env (sorted_where_name plain env sorted) sorted
    (λ x. ⊎_elim
    (λ local. look_up-where_off plain x env (ap not local) ∙ sym (none x local))
    (λ other. look_up-where_on plain x env (ap not other))
    (cases_Bool (is_local x)))

-- results that are counted are no refusal
no_refusal : (parts : List Part) (why : Frame) → counted parts ≡ at_no_cost why ∷ at_no_cost (frame.Done 0) ∷ [] → ⊥
no_refusal [] why h = cc
no_refusal (p ∷ []) why h =
    let last : at_no_cost (frame.Done (length (p ∷ []))) ≡ at_no_cost (frame.Done 0) = cc in
    let done : frame.Done (length (p ∷ [])) ≡ frame.Done 0 = ap (λ (q : Part). q.frame) last in
    let count : length (p ∷ []) ≡ 0 = cc in
    absurd (omega (arith, count))
no_refusal (p ∷ q ∷ []) why h = cc
no_refusal (p ∷ q ∷ r ∷ rest) why h = cc

-- fewer cells than the order has
kept_few : (t : ℕ → Bool) (cells : List ℕ) → length (filter t cells) ≤ length cells
kept_few t [] = omega arith
kept_few t (c ∷ cs) =
    elim (t c) as (λ b. length (cond b (c ∷ filter t cs) (filter t cs)) ≤ length (c ∷ cs))
    [ true ↦ omega (arith, kept_few t cs) | false ↦ omega (arith, kept_few t cs) ]

-- cells that run again are cells of the notebook
pub again_there : (nb : List CellCode) (names : List Name) (again : List ℕ) → again ≡ rerun (view_cells nb) names → All (λ c. c < length nb) again
again_there nb names again is =
    subst (All (λ c. c < length nb)) (sym is)
    (All-filter (is_within (view_cells nb) names (length (view_cells nb))) (λ c. c < length nb) (order (view_cells nb)) (order_there nb))

module _ (s : KernelState) (kept : IsKept s) (free : s.pending ≡ pending.Nothing) (on : s.phase ≡ phases.On) where
  abbrev nb : List Cell
  nb = view_cells s.notebook.now

  after : IsAfter s
  after = subst (λ p. StandsBy p s) on kept.stands

  at : IsAfresh nb s.budget s.present (record { env = s.env; newest = newest_in s.newest.items })
  at = standing.stands after.values (subst (λ left. Going nb s.budget s.present left s.env (newest_in s.newest.items)) (ap left_of free) after.going)

  -- a message that is refused
  pub refused_taken : (items : List SetItem) (why : Frame) → IsRefused s.env items why
      → Takes (Some (Set items)) (visit_of false s) (visit_of false (record s { pending = pending.Refusal why }))
  refused_taken items why h =
      let says : answer nb s.budget (state_of s.phase s.present) (Some (Set items)) ≡ refused (state_of s.phase s.present) why =
      subst (λ p. answer nb s.budget (state_of p s.present) (Some (Set items)) ≡ refused (state_of p s.present) why) (sym on)
      (ap (λ e. answer_set nb s.budget e s.present items) (sym at.env_is) ∙ h.1 nb s.budget s.present) in
      record {
        state = sym (ap (λ (a : Answered). a.state) says);
        pending = sym (ap (λ (a : Answered). a.parts) says);
        newest = refl;
        kept = λ why e. refl;
        nb = refl;
        budget = refl;
        spoiled = refl;
      }

  -- items that are admitted, and the values that are set for them
  module _ (items : List SetItem) (sets : Map Value) (fit : AreAdmitted s.env items sets) where
    abbrev sent : Map Value
    sent = values_sent items

    all : AllSent s.env items
    all = all_sent s.env items sets fit

    abbrev cells : List ℕ
    cells = rerun nb (names_of sent)

    pub cells_again : rerun nb (map (λ (s : Name × Value). s.0) sets) ≡ cells
    cells_again = ap (rerun nb) (names_set s.env items sets fit ∙ sym (sent_names s.env items all))

    abbrev later : Map Value
    later = present_after nb s.env s.present sent

    answered : answer nb s.budget (state_of s.phase s.present) (Some (Set items)) ≡ answer_with nb s.budget later cells
    answered =
        ap (λ p. answer nb s.budget (state_of p s.present) (Some (Set items))) on
        ∙ standing.answered at items (none_unknown s.env items all) (none_unfit s.env items all)

    present_next : apart_from (flat_map (elements_of nb) cells) (fold with_kept s.present sets) ≡ later
    present_next = ap (apart_from (flat_map (elements_of nb) cells)) (all_kept s.env items sets s.present fit)

    going : Going nb s.budget later cells (laid_over sent s.env) (newest_in s.newest.items)
    going = standing.sets_going at sent (runs_of s kept) (sent_set s.env items all)

    -- what is kept then
    abbrev pub set_so : Map Value → Env → Cells → KernelState
    set_so present env again = record s { present = present; env = env; pending = pending.Results again 0 }

    so_kept : (again : Cells) → cells_of again ≡ cells → IsKept (set_so later (laid_over sent s.env) again)
    so_kept again is =
        let env : Env = laid_over sent s.env in
        record {
          runnable = kept.runnable;
          once = kept.once;
          free = kept.free;
          count = kept.count;
          plain = plain_of env going.but.plain going.but.sorted;
          cells = again_there s.notebook.now (names_of sent) (cells_of again) is;
          within = few s.notebook.now (cells_of again) kept.runnable
              (omega (arith, ap length is, kept_few (is_within nb (names_of sent) (length nb)) (order nb)));
          stands = subst (λ p. StandsBy p (set_so later env again)) (sym on) (record {
            values = next_plain nb s.env s.present sent after.values;
            going = subst (λ left. Going nb s.budget later left env (newest_in s.newest.items)) (sym is) going;
          });
        }

    so_taken : (again : Cells) → cells_of again ≡ cells
        → Takes (Some (Set items)) (visit_of false s) (visit_of false (set_so later (laid_over sent s.env) again))
    so_taken again is =
        let t : ℕ → Bool = is_within nb (names_of sent) (length nb) in
        let one : ℕ → List Part = λ c. results_of nb s.budget later (c ∷ []) in
        record {
          state = ap (λ p. state_of p later) on ∙ sym (ap (λ (a : Answered). a.state) answered);
          pending = ap (λ cs. flat_map one cs ++ at_no_cost (frame.Done (length cs)) ∷ []) is
              ∙ counted_cells (results_of nb s.budget later cells) one cells (results_one_by_one nb s.budget later t) (one_each_kept nb s.budget later t)
              ∙ sym (ap (λ (a : Answered). a.parts) answered);
          newest = refl;
          kept = λ why e. absurd (no_refusal (results_of nb s.budget later cells) why
              (sym (ap (λ (a : Answered). a.parts) answered) ∙ ap (λ (a : Answered). a.parts) e));
          nb = refl;
          budget = refl;
          spoiled = refl;
        }

    -- the same of what the code has
    module _ (present : Map Value) (env : Env) (again : Cells) (cells_are : cells_of again ≡ rerun nb (map (λ (s : Name × Value). s.0) sets))
        (env_is : env ≡ fold with_set s.env sets)
        (present_is : present ≡ apart_from (flat_map (elements_of nb) (cells_of again)) (fold with_kept s.present sets)) where
      now_cells : cells_of again ≡ cells
      now_cells = cells_are ∙ cells_again

      now_present : later ≡ present
      now_present = sym (present_is ∙ ap (λ cs. apart_from (flat_map (elements_of nb) cs) (fold with_kept s.present sets)) now_cells ∙ present_next)

      now_env : laid_over sent s.env ≡ env
      now_env = sym (env_is ∙ all_laid s.env items sets fit)

      pub set_kept : IsKept (set_so present env again)
      set_kept = subst (λ p. IsKept (set_so p env again)) now_present (subst (λ e. IsKept (set_so later e again)) now_env (so_kept again now_cells))

      pub set_taken : Takes (Some (Set items)) (visit_of false s) (visit_of false (set_so present env again))
      set_taken =
          subst (λ p. Takes (Some (Set items)) (visit_of false s) (visit_of false (set_so p env again))) now_present
          (subst (λ e. Takes (Some (Set items)) (visit_of false s) (visit_of false (set_so later e again))) now_env (so_taken again now_cells))
