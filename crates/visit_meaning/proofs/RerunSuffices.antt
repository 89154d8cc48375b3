-- Kept under changes is computed afresh: when values are set, the cells that don't run again have in the new whole what they had in the
-- old one, and the others, one after the other, have from the kept bindings what they have in the new whole.
use Rattle.std.proofs.Common.{◌≡◌, ◌∙◌, refl, sym, ap, subst, ℕ, ◌<◌, ◌≤◌, arith, Bool, true, false, cond, ◌==◌, List, [], ◌∷◌, length, Option, Some, None, ⊎_elim}
use Rattle.std.specs.List.{list_all}
use Rattle.std.proofs.lemmas.Bool.{cases_Bool, cases_lt, false_from_ne_true, or_parts, both_ways}
use Rattle.std.proofs.lemmas.Option.{none-some}
use Rattle.py_tree.specs.Names.{Name, is_among}
use Rattle.py_tree.specs.Scope.{defs}
use Rattle.py_tree.specs.Trees.{Cell}
use Rattle.py_value.specs.ElementData.{ElementData, with_present}
use Rattle.py_value.specs.Elements.{at_kept}
use Rattle.py_value.specs.Maps.{Map, look_up, IsSortedMap}
use Rattle.py_value.specs.View.{value_of}
use Rattle.py_value.specs.declared.types.Data.{Data}
use Rattle.py_value.specs.declared.types.Value.{Value}
use Rattle.py_value.specs.declared.types.Value.TheVariants as V
use Rattle.py_value.proofs.Levels.{data_of-value_of}
use Rattle.visit_meaning.specs.Answer.{element_in, named_so, names_of, present_after}
use Rattle.graph_meaning.specs.Graph.{defs_of, refs_of, elements_of, edge, is_in, parents, order}
use Rattle.graph_meaning.specs.Reruns.{is_within, rerun}
use Rattle.visit_meaning.specs.Rerun.{AllSet, laid_over}
use Rattle.visit_meaning.specs.Runnable.{MayRead, itself, above, beside, LikeOutcome, SameOutcome, SameBinding, same_bound, one_element}
use Rattle.visit_meaning.specs.Underway.{Going, Leads, HasNoElements, HasNoLocals, defined_in, frame_at}
use Rattle.visit_meaning.specs.Whole.{Outcome, Progress, outcome_of, ended_ok, whole}
use Rattle.run_meaning.specs.declared.binding.Binding.{Binding}
use Rattle.run_meaning.specs.declared.binding.Binding.TheVariants.{Plain}
use Rattle.frames.specs.declared.frame.CellFrame.{CellFrame}
use Rattle.visit_meaning.proofs.AtKept.{next_plain, whole_at_kept}
use Rattle.visit_meaning.proofs.Coincidence.{one_binding}
use Rattle.visit_meaning.proofs.FixedPoint.{by_parents, cells_of, code_there, defs_are, may_run_alike, outcome_in, ran_defined, ran_so, whole_frames, whole_only, whole_plain, whole_sorted}
use Rattle.visit_meaning.proofs.Going.{Runs}
use Rattle.visit_meaning.proofs.InBeing.{element_bound}
use Rattle.visit_meaning.proofs.InOrder.{any_at, any_name, definer_below, one_definer, some_at}
use Rattle.visit_meaning.proofs.OneByOne.{SameResult, definer_leads, first_filter, last_edge, leads_below, order_first, ran_reads, related_defined, same_result}
use Rattle.graph_meaning.proofs.Orders.{free_is_listed, places_below}
use Rattle.graph_meaning.proofs.Reachability.{is_kept, near_next, near_reader, passes}
use Rattle.visit_meaning.proofs.SetValues.{laid_at, laid_by, laid_is, laid_passed, next_kept, set_there, sets_passed, sorted_laid}

-- Values are set in a notebook that runs: no element is kept as a value, and each value that is set is admitted by its element.
pub record AreTaken (nb : List Cell) (budget : ℕ) (ui sets : Map Value) : Type 0 where
  pub runs : Runs nb
  pub plain : HasNoElements ui
  pub all : AllSet (whole nb budget ui).env sets

-- ---- elements

abbrev element_or : ElementData → Option Binding → ElementData
element_or e (Some (Plain (V.Element f))) = f
element_or e o = e

present_over : (d : Data) (o : Option Value) (e : ElementData) → with_present d e ≡ with_present d (at_kept o e)
present_over d None e = refl
present_over d (Some v) e = refl

kept_now : (d : Data) (o : Option Value) (e : ElementData) → o ≡ Some (value_of d) → at_kept o e ≡ with_present d e
kept_now d o e is = ap (λ k. at_kept k e) is ∙ ap (λ v. with_present v e) (data_of-value_of d)

-- an element that two wholes have is in the second one at the present value that is set there
laid_binding : (ui present : Map Value) (x : Name) (d : Data) (e : ElementData) {o p : Option Binding} → SameBinding ui present x o p
    → look_up x present ≡ Some (value_of d) → ((f : ElementData) → named_so x p ≡ Some f → at_kept (look_up x present) f ≡ f)
    → named_so x o ≡ Some e → p ≡ Some (Plain (V.Element (with_present d e)))
laid_binding ui present x d e (same_bound {o = o}) is kept there =
    element_bound x o e there ∙ ap (λ f. Some (Plain (V.Element f))) (sym (kept e there) ∙ kept_now d (look_up x present) e is)
laid_binding ui present x d e (one_element f) is kept there =
    let bound = element_bound x (Some (Plain (V.Element (at_kept (look_up x ui) f)))) e there in
    ap (λ f. Some (Plain (V.Element f)))
    (kept_now d (look_up x present) f is ∙ present_over d (look_up x ui) f ∙ ap (with_present d) (ap (element_or e) bound))

-- ---- outcomes and frames

-- an outcome that is the same as one that is like another
same_then_like : {ui ui' : Map Value} {names : List Name} {o p q : Outcome} → SameOutcome names o p → LikeOutcome ui ui' names p q
    → LikeOutcome ui ui' names o q
same_then_like {ui = ui} {ui' = ui'} {q = q} same like = record {
  frame = same.frame ∙ like.frame;
  cost = same.cost ∙ like.cost;
  defined = λ x h. subst (λ b. SameBinding ui ui' x b (look_up x q.env)) (sym (same.defined x h)) (like.defined x h);
}

-- no frame is that of a cell past the last one
unframed : (frames : List CellFrame) (c : ℕ) → is_in c (cells_of frames) ≡ false → frame_at frames c ≡ None
unframed [] c off = refl
unframed (f ∷ frames) c off =
    let parts = or_parts (f.cell == c) _ off in
    ap (λ b. cond b (Some f) (frame_at frames c)) parts.0 ∙ unframed frames c parts.1

past_framed : (nb : List Cell) (budget : ℕ) (ui : Map Value) (c : ℕ) → length nb ≤ c → frame_at (whole nb budget ui).frames c ≡ None
past_framed nb budget ui c past =
    unframed (whole nb budget ui).frames c
    (ap (is_in c) (whole_frames nb budget ui) ∙ false_from_ne_true _ (λ h. let below = places_below nb (length nb) c h in absurd (omega arith)))

-- `old` is the whole before values are set, `new` the one afterwards, with these present values, and `again` are the cells that run
-- again.
module _ (nb : List Cell) (budget : ℕ) (ui sets : Map Value) (taken : AreTaken nb budget ui sets) where
  abbrev pub old : Progress
  old = whole nb budget ui

  abbrev pub present : Map Value
  present = present_after nb old.env ui sets

  abbrev pub new : Progress
  new = whole nb budget present

  abbrev pub again : List ℕ
  again = rerun nb (names_of sets)

  -- ---- cells that don't run again

  not_again : (c : ℕ) → c < length nb → is_in c again ≡ false → is_within nb (names_of sets) (length nb) c ≡ false
  not_again c below off = false_from_ne_true _
      (λ h. both_ways _ off (is_kept (is_within nb (names_of sets) (length nb)) (order nb) c (free_is_listed nb taken.runs.free c below) h))

  -- they reference no name for which a value is set
  reads_none : (c : ℕ) (x : Name) → c < length nb → is_in c again ≡ false → is_among x (refs_of nb c) ≡ true → is_among x (names_of sets) ≡ false
  reads_none c x below off read = false_from_ne_true _
      (λ h. both_ways _ (not_again c below off)
      (near_reader nb (names_of sets) (length nb) c (any_name (λ y. is_among y (names_of sets)) (refs_of nb c) x read h)))

  -- and none of their parents runs again
  parents_kept : (a c : ℕ) → c < length nb → edge nb a c ≡ true → is_in c again ≡ false → is_in a again ≡ false
  parents_kept a c below e off = false_from_ne_true _
      (λ h. both_ways _ (not_again c below off)
      (near_next nb (names_of sets) a c e (passes (is_within nb (names_of sets) (length nb)) (order nb) a h)))

  -- what they define is no element of a cell that runs again
  no_element : (c : ℕ) (x : Name) → is_in c again ≡ false → is_among x (defs_of nb c) ≡ true → (d : ℕ) → is_in d again ≡ true
      → is_among x (elements_of nb d) ≡ false
  no_element c x off defined d on = false_from_ne_true _
      (λ h.
      let same : d ≡ c = one_definer nb d c x taken.runs.once (taken.runs.runnable.created d x h) defined in
      both_ways _ off (ap (λ a. is_in a again) (sym same) ∙ on))

  -- a name that they define keeps its present value where none is set for it
  same_present : (c : ℕ) (x : Name) → is_in c again ≡ false → is_among x (defs_of nb c) ≡ true → is_among x (names_of sets) ≡ false
      → look_up x ui ≡ look_up x present
  same_present c x off defined unset =
      sym (next_kept nb old.env ui sets x (no_element c x off defined) ∙ sets_passed old.env sets ui x unset)

  -- a cell has the same result in both wholes, and what it defines is the same but for present values
  pub record Unchanged (c : ℕ) : Type 0 where
    pub result : SameResult old new c
    pub bindings : (x : Name) → is_among x (defs_of nb c) ≡ true → SameBinding ui present x (look_up x old.env) (look_up x new.env)

  -- so does one that a cell defines which doesn't run again, and that is no element of it
  unset_beside : (c : ℕ) (x : Name) → is_among x (defs_of nb c) ≡ true → is_among x (elements_of nb c) ≡ false → is_among x (names_of sets) ≡ false
  unset_beside c x defined apart = false_from_ne_true _
      (λ set.
      let there = set_there old.env sets x taken.all set in
      let w = taken.runs.runnable.only_made budget ui x there.0 taken.plain there.1 in
      let same : w.0 ≡ c = one_definer nb w.0 c x taken.runs.once (taken.runs.runnable.created w.0 x w.1) defined in
      both_ways _ (ap (λ a. is_among x (elements_of nb a)) same ∙ apart) w.1)

  -- a cell that doesn't run again, and what is known of it
  record Stays (c : ℕ) : Type 0 where
    off : is_in c again ≡ false
    unchanged_there : Unchanged c

  -- what a cell that doesn't run again may read is the same in both wholes, where the cells that lead to it stay
  reads_same : (c : ℕ) → c < length nb → is_in c again ≡ false → ((a : ℕ) → Leads nb a c → Stays a) → (x : Name) → MayRead nb c x
      → look_up x old.env ≡ look_up x new.env
  reads_same c below off stays x read = ⊎_elim
      (λ some.
      let w = some_at (λ a. is_among x (defs_of nb a)) (order nb) some in
      let s = stays w.0 (definer_leads nb c x taken.runs.once w.0 w.2 read) in
      one_binding ui present x (same_present w.0 x s.off w.2 (unset read)) (s.unchanged_there.bindings x w.2))
      (λ no. whole_only nb budget ui x no ∙ sym (whole_only nb budget present x no))
      (cases_Bool (defined_in nb (order nb) x))
    where
      unset : MayRead nb c x → is_among x (names_of sets) ≡ false
      unset (itself read) = reads_none c x below off read
      unset (above a leads read) = reads_none a x (leads_below nb a c leads) (stays a leads).off read
      unset (beside a leads here apart) = unset_beside a x here apart

  unchanged_next : (c : ℕ) → c < length nb → is_in c again ≡ false → ((a : ℕ) → Leads nb a c → Stays a) → Unchanged c
  unchanged_next c below off stays =
      let there = code_there nb c below in
      let code : Cell = there.0 in
      let e = there.1 in
      let r = ran_so nb budget ui c code e taken.runs.once taken.runs.free in
      let s = ran_so nb budget present c code e taken.runs.once taken.runs.free in
      let may : list_all (ended_ok old.frames) (parents nb c) ≡ list_all (ended_ok new.frames) (parents nb c) =
      may_run_alike nb old.frames new.frames c (λ a edge. (stays a ([], (edge, tt))).unchanged_there.result.ended) in
      let agree : (x : Name) → MayRead nb c x → look_up x r.env ≡ look_up x s.env =
      λ x read. ran_reads taken.runs.once r x read ∙ reads_same c below off stays x read ∙ sym (ran_reads taken.runs.once s x read) in
      let may_run : Bool = list_all (ended_ok old.frames) (parents nb c) in
      let alike = same_then_like
      (taken.runs.runnable.by_reads budget ui may_run c code r.env s.env e (ran_defined r) (ran_defined s) agree)
      (taken.runs.runnable.but_present budget ui present may_run c code s.env e (ran_defined s)) in
      let same : outcome_of budget present (list_all (ended_ok old.frames) (parents nb c)) c s.env code ≡ outcome_in nb budget present new.frames c s.env code =
      ap (λ b. outcome_of budget present b c s.env code) may in
      record {
        result = same_result nb budget ui present (order nb) old new c code r s (alike.frame ∙ ap (λ (o : Outcome). o.frame) same) (alike.cost ∙ ap (λ (o : Outcome). o.cost) same);
        bindings = λ x defined.
            let here : is_among x (defs code) ≡ true = sym (defs_are nb c code x e) ∙ defined in
            related_defined nb budget ui present (order nb) old new c code r s (SameBinding ui present x) x here
            (subst (λ (o : Outcome). SameBinding ui present x (look_up x (outcome_in nb budget ui old.frames c r.env code).env) (look_up x o.env)) same (alike.defined x here));
      }

  -- the cell stays, and so do those that lead to it
  record AllStay (c : ℕ) : Type 0 where
    here : Unchanged c
    higher : (a : ℕ) → Leads nb a c → Stays a

  all_stay : (c : ℕ) → c < length nb → ((a : ℕ) → edge nb a c ≡ true → is_in a again ≡ false → AllStay a) → is_in c again ≡ false → AllStay c
  all_stay c below before off =
      let higher : (a : ℕ) → Leads nb a c → Stays a = λ a leads. ⊎_elim
      (λ edge. let gone = parents_kept a c below edge off in record { off = gone; unchanged_there = (before a edge gone).here })
      (λ last. (before last.0 last.1 (parents_kept last.0 c below last.1 off)).higher a last.2)
      (last_edge nb a leads.0 c leads.1) in
      record { here = unchanged_next c below off higher; higher = higher }

  -- A cell that doesn't run again has in the new whole the result that it had in the old one.
  pub unchanged : (c : ℕ) → c < length nb → is_in c again ≡ false → Unchanged c
  unchanged c below off = (by_parents nb taken.runs.free (λ c. is_in c again ≡ false → AllStay c) all_stay c below off).here

  -- so it has the same frame
  pub frame_kept : (c : ℕ) → is_in c again ≡ false → frame_at new.frames c ≡ frame_at old.frames c
  frame_kept c off = ⊎_elim
      (λ below. let u = unchanged c below off in sym u.result.frame)
      (λ past. past_framed nb budget present c past ∙ sym (past_framed nb budget ui c past))
      (cases_lt c (length nb))

  -- ---- the bindings

  kept_definer : (x : Name) → defined_in nb again x ≡ false → (c : ℕ) → is_among x (defs_of nb c) ≡ true → is_in c again ≡ false
  kept_definer x off c defined = false_from_ne_true _ (λ on. both_ways _ off (any_at (λ a. is_among x (defs_of nb a)) again c on defined))

  bound_alike : (x : Name) → defined_in nb again x ≡ false → (c : ℕ) → is_among x (defs_of nb c) ≡ true → Unchanged c
  bound_alike x off c defined = unchanged c (definer_below nb c x defined) (kept_definer x off c defined)

  unset_kept : (x : Name) → defined_in nb again x ≡ false → is_among x (names_of sets) ≡ false → look_up x old.env ≡ look_up x new.env
  unset_kept x off unset = ⊎_elim
      (λ some.
      let w = some_at (λ a. is_among x (defs_of nb a)) (order nb) some in
      one_binding ui present x (same_present w.0 x (kept_definer x off w.0 w.2) w.2 unset) ((bound_alike x off w.0 w.2).bindings x w.2))
      (λ no. whole_only nb budget ui x no ∙ sym (whole_only nb budget present x no))
      (cases_Bool (defined_in nb (order nb) x))

  at_present : (x : Name) (e : ElementData) → element_in new.env x ≡ Some e → at_kept (look_up x present) e ≡ e
  at_present = whole_at_kept nb budget present taken.runs (next_plain nb old.env ui sets taken.plain)

  set_kept : (x : Name) → defined_in nb again x ≡ false → is_among x (names_of sets) ≡ true
      → look_up x (laid_by old.env sets old.env) ≡ look_up x new.env
  set_kept x off set =
      let there = set_there old.env sets x taken.all set in
      let e : ElementData = there.0 in
      let bound : look_up x old.env ≡ Some (Plain (V.Element e)) = element_bound x (look_up x old.env) e there.1 in
      let laid = laid_at old.env sets ui old.env x e taken.all set there.1 in
      ⊎_elim
      (λ some.
      let w = some_at (λ a. is_among x (defs_of nb a)) (order nb) some in
      let now : look_up x present ≡ Some (value_of laid.now) =
      next_kept nb old.env ui sets x (no_element w.0 x (kept_definer x off w.0 w.2) w.2) ∙ laid.value in
      laid.element ∙ sym (laid_binding ui present x laid.now e ((bound_alike x off w.0 w.2).bindings x w.2) now (at_present x) there.1))
      (λ no. absurd (none-some (Plain (V.Element e)) (sym (whole_only nb budget ui x no) ∙ bound)))
      (cases_Bool (defined_in nb (order nb) x))

  -- At each name that no cell defines which runs again, the new whole has what the old one had, with the values laid over that are set.
  pub bindings_kept : (x : Name) → defined_in nb again x ≡ false
      → look_up x (laid_over sets old.env) ≡ look_up x new.env
  bindings_kept x off = ap (look_up x) (laid_is sets old.env) ∙ ⊎_elim
      (set_kept x off)
      (λ unset. laid_passed old.env sets old.env x unset ∙ unset_kept x off unset)
      (cases_Bool (is_among x (names_of sets)))

  laid_plain : HasNoLocals (laid_over sets old.env)
  laid_plain x local = ap (look_up x) (laid_is sets old.env) ∙ ⊎_elim
      (λ set.
      let there = set_there old.env sets x taken.all set in
      absurd (none-some (Plain (V.Element there.0)) (sym (whole_plain nb budget ui x local) ∙ element_bound x (look_up x old.env) there.0 there.1)))
      (λ unset. laid_passed old.env sets old.env x unset ∙ whole_plain nb budget ui x local)
      (cases_Bool (is_among x (names_of sets)))

  -- ---- the cells that run again

  -- They start from those bindings, and with the frames that all cells had in the old whole.
  pub going_again : (newest : ℕ → Option CellFrame) → ((a : ℕ) → a < length nb → newest a ≡ frame_at old.frames a)
      → Going nb budget present again (laid_over sets old.env) newest
  going_again newest was = record {
    first = first_filter nb (is_within nb (names_of sets) (length nb)) (order nb) (order_first nb);
    but = record { same = bindings_kept; plain = laid_plain; sorted = subst IsSortedMap (sym (laid_is sets old.env)) (sorted_laid old.env sets old.env (whole_sorted nb budget ui)) };
    newest_is = λ a below off. was a below ∙ sym (frame_kept a off);
  }
