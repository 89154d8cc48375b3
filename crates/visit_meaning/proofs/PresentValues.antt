-- The present values that a visitor's messages leave: each is that of an element in being, which admits it.
use Rattle.std.proofs.Common.{◌≡◌, ◌∙◌, refl, sym, ap, subst, ℕ, ℤ, Bool, true, false, cond, not, ◌==◌, List, [], ◌∷◌, Option, Some, None, ⊎_elim}
use Rattle.std.specs.Prelude.{flat_map, option_and_then}
use Rattle.std.specs.Str.{bytes_eq}
use Rattle.std.proofs.lemmas.Bool.{both_ways, cases_Bool, eqb-true, false_from_ne_true, or_cases}
use Rattle.std.proofs.lemmas.Option.{cond_some, none-some, same_Some}
use Rattle.messages.specs.declared.message.Message.{Message}
use Rattle.messages.specs.declared.message.Message.TheVariants.{Open, Set, Close}
use Rattle.messages.specs.declared.message.SetItem.{SetItem}
use Rattle.py_tree.specs.Names.{Name, is_among}
use Rattle.py_tree.specs.Trees.{Cell}
use Rattle.py_value.specs.ElementData.{ElementData, with_present}
use Rattle.py_value.specs.Elements.{Range, admits_number, admitted, admitted_by, at_kept, is_in_range, number_in, range_at}
use Rattle.py_value.specs.Maps.{Map, look_up}
use Rattle.py_value.specs.View.{data_of, value_of}
use Rattle.py_value.specs.declared.kinds.Kind.{Kind}
use Rattle.py_value.specs.declared.kinds.Kind.TheVariants as kind
use Rattle.py_value.specs.declared.types.Data.{Data}
use Rattle.py_value.specs.declared.types.Data.TheVariants as D
use Rattle.py_value.specs.declared.types.Value.{Value}
use Rattle.py_value.specs.declared.types.Value.TheVariants as V
use Rattle.py_value.proofs.Levels.{data_of-value_of}
use Rattle.py_value.proofs.SortedMaps.{look_up-where_name}
use Rattle.visit_meaning.specs.Answer.{State, Before, On, Ended, answer, answer_by, element_in, first_unfit, first_unknown, named_so, names_of, present_after, state_after, value_set, values_sent, with_sets}
use Rattle.graph_meaning.specs.Graph.{elements_of, is_in}
use Rattle.run_meaning.specs.Meaning.{Env}
use Rattle.graph_meaning.specs.Reruns.{rerun}
use Rattle.visit_meaning.specs.Runnable.{SameBinding, same_bound, one_element}
use Rattle.visit_meaning.specs.Underway.{HasNoElements}
use Rattle.visit_meaning.specs.Whole.{Progress, whole}
use Rattle.run_meaning.specs.declared.binding.Binding.{Binding}
use Rattle.run_meaning.specs.declared.binding.Binding.TheVariants.{Plain}
use Rattle.visit_meaning.proofs.AtKept.{next_plain, none_kept}
use Rattle.visit_meaning.proofs.Going.{Runs}
use Rattle.visit_meaning.proofs.InBeing.{creator}
use Rattle.visit_meaning.proofs.InOrder.{definer_below}
use Rattle.visit_meaning.proofs.LookUps.{among_left, among_right}
use Rattle.visit_meaning.proofs.RerunSuffices.{AreTaken, unchanged}
use Rattle.visit_meaning.proofs.SentValues.{all_sent, sent_set}
use Rattle.visit_meaning.proofs.SetValues.{SameButPresent, no_element, laid_at, same_element, set_there, sets_passed, value_alike}
use Rattle.visit_meaning.proofs.SetValues as setting
use Rattle.py_value.proofs.Computes.{a_number}

-- ---- elements and what they admit

-- what an element has made of a value that it admits, it admits as it is
admitted_again : (e : ElementData) (d now : Data) → admitted e d ≡ Some now → admitted e now ≡ Some now
admitted_again e d now h = by e.kind h
  where
    number : (r : Option Range) (n : Option ℤ) → admits_number r n ≡ Some now → admits_number r (number_in (value_of now)) ≡ Some now
    number (Some r) (Some n) is =
        let c = cond_some (is_in_range r n) (D.Int n) now is in
        subst (λ f. admits_number (Some r) (number_in (value_of f)) ≡ Some f) c.1
        (ap (λ v. admits_number (Some r) (number_in v)) (a_number n) ∙ ap (λ b. cond b (Some (D.Int n)) None) c.0)
    number (Some r) None is = absurd (none-some now is)
    number None n is = absurd (none-some now is)

    by : (k : Kind) → admitted_by k e d ≡ Some now → admitted_by k e now ≡ Some now
    by kind.Slider is = number (range_at e.params) (number_in (value_of d)) is
    by k is = absurd (none-some now is)

-- the same element at two present values
kept_alike : (x : Name) (o p : Option Value) (e : ElementData)
    → SameButPresent (named_so x (Some (Plain (V.Element (at_kept o e))))) (named_so x (Some (Plain (V.Element (at_kept p e)))))
kept_alike x o p e = by o p
  where
    named : (b : Bool) (f : ElementData) (d : Data) → SameButPresent (cond b (Some f) None) (cond b (Some (with_present d f)) None)
    named true f d = setting.one_element f d
    named false f d = no_element

    by : (o p : Option Value) → SameButPresent (named_so x (Some (Plain (V.Element (at_kept o e))))) (named_so x (Some (Plain (V.Element (at_kept p e)))))
    by None None = named (bytes_eq e.name x) e e.present
    by None (Some w) = named (bytes_eq e.name x) e (data_of w)
    by (Some v) None = named (bytes_eq e.name x) (with_present (data_of v) e) e.present
    by (Some v) (Some w) = named (bytes_eq e.name x) (with_present (data_of v) e) (data_of w)

-- so are elements in two wholes
bound_alike : (ui present : Map Value) (x : Name) {o p : Option Binding} → SameBinding ui present x o p → SameButPresent (named_so x o) (named_so x p)
bound_alike ui present x (same_bound {o = o}) = same_element (named_so x o)
bound_alike ui present x (one_element e) = kept_alike x (look_up x ui) (look_up x present) e

there_alike : (e : ElementData) {o p : Option ElementData} → SameButPresent o p → o ≡ Some e → (f : ElementData) × (p ≡ Some f)
there_alike e no_element is = absurd (none-some e is)
there_alike e (setting.one_element f d) is = (with_present d f, refl)

-- a name that one of the numbers has is among those of all
among_each : (f : ℕ → List Name) (cs : List ℕ) (c : ℕ) (x : Name) → is_in c cs ≡ true → is_among x (f c) ≡ true → is_among x (flat_map f cs) ≡ true
among_each f [] c x on here = absurd (both_ways false refl on)
among_each f (d ∷ ds) c x on here = ⊎_elim
    (λ same. among_left x (f d) (flat_map f ds) (ap (λ a. is_among x (f a)) (eqb-true d c same) ∙ here))
    (λ later. among_right x (f d) (flat_map f ds) (among_each f ds c x later here))
    (or_cases (d == c) _ on)

-- ---- values of elements in being

-- the name is that of an element which admits the value as it is
abbrev pub IsAdmitted : Env → Name → Value → Type 0
IsAdmitted env x v = (e : ElementData) × (d : Data) × (element_in env x ≡ Some e) × (value_set env (x, v) ≡ Some d) × (v ≡ value_of d)

abbrev pub AreAdmitted : Env → Map Value → Type 0
AreAdmitted env ui = (x : Name) (v : Value) → look_up x ui ≡ Some v → IsAdmitted env x v

module _ (nb : List Cell) (budget : ℕ) (ui sets : Map Value) (taken : AreTaken nb budget ui sets) where
  abbrev old : Progress
  old = whole nb budget ui

  abbrev present : Map Value
  present = present_after nb old.env ui sets

  abbrev new : Progress
  new = whole nb budget present

  -- the values that are set are admitted, and the others were so before
  set_admitted : AreAdmitted old.env ui → AreAdmitted old.env (with_sets old.env sets ui)
  set_admitted was x v h = ⊎_elim
      (λ set.
      let there = set_there old.env sets x taken.all set in
      let e : ElementData = there.0 in
      let laid = laid_at old.env sets ui old.env x e taken.all set there.1 in
      let is : value_of laid.now ≡ v = same_Some (value_of laid.now) v (sym laid.value ∙ h) in
      let admits : admitted e (data_of v) ≡ Some laid.now =
      ap (λ w. admitted e (data_of w)) (sym is) ∙ ap (admitted e) (data_of-value_of laid.now) ∙ admitted_again e laid.fit.0 laid.now laid.fit.1 in
      (e, laid.now, there.1, ap (option_and_then (λ e. admitted e (data_of v))) there.1 ∙ admits, sym is))
      (λ unset. was x v (sym (sets_passed old.env sets ui x unset) ∙ h))
      (cases_Bool (is_among x (names_of sets)))

  -- an element that no cell creates which runs again is the same, but for its present value
  element_alike : (x : Name) (e : ElementData) → element_in old.env x ≡ Some e
      → is_among x (flat_map (elements_of nb) (rerun nb (names_of sets))) ≡ false → SameButPresent (element_in old.env x) (element_in new.env x)
  element_alike x e there off =
      let w = creator nb budget ui taken.runs taken.plain x e there in
      let defined = taken.runs.runnable.created w.0 x w.1 in
      let apart : is_in w.0 (rerun nb (names_of sets)) ≡ false = false_from_ne_true _
      (λ on. both_ways _ off (among_each (elements_of nb) (rerun nb (names_of sets)) w.0 x on w.1)) in
      let u = unchanged nb budget ui sets taken w.0 (definer_below nb w.0 x defined) apart in
      bound_alike ui present x (u.bindings x defined)

  -- So the next present values are admitted by the elements that are in being then.
  next_admitted : AreAdmitted old.env ui → AreAdmitted new.env present
  next_admitted was x v h = by (is_among x dropped) refl (sym (look_up-where_name (λ y. not (is_among y dropped)) x (with_sets old.env sets ui)) ∙ h)
    where
      dropped : List Name
      dropped = flat_map (elements_of nb) (rerun nb (names_of sets))

      by : (b : Bool) → is_among x dropped ≡ b → cond (not b) (look_up x (with_sets old.env sets ui)) None ≡ Some v → IsAdmitted new.env x v
      by true is found = absurd (none-some v found)
      by false is found =
          let a = set_admitted was x v found in
          let alike = element_alike x a.0 a.2 is in
          let now = there_alike a.0 alike a.2 in
          (now.0, a.1, now.1, value_alike (data_of v) alike ∙ a.3, a.4)

-- ---- the states that messages lead to

-- the present values of the state are no elements, and elements in being admit them
abbrev IsSettled : List Cell → ℕ → State → Type 0
IsSettled nb budget (On ui) = HasNoElements ui × AreAdmitted (whole nb budget ui).env ui
IsSettled nb budget state = Unit {0}

settled_by : (nb : List Cell) (budget : ℕ) (ui : Map Value) (items : List SetItem) → Runs nb → IsSettled nb budget (On ui)
    → (unknown unfit : Option SetItem) → first_unfit (whole nb budget ui).env items ≡ unfit
    → IsSettled nb budget (answer_by nb budget (whole nb budget ui).env ui (values_sent items) unknown unfit).state
settled_by nb budget ui items runs settled (Some i) unfit e = settled
settled_by nb budget ui items runs settled None (Some i) e = settled
settled_by nb budget ui items runs settled None None e =
    let env : Env = (whole nb budget ui).env in
    let sets : Map Value = values_sent items in
    let taken : AreTaken nb budget ui sets = record { runs = runs; plain = settled.0; all = sent_set env items (all_sent env items e) } in
    (next_plain nb env ui sets settled.0, next_admitted nb budget ui sets taken settled.1)

settled_next : (nb : List Cell) (budget : ℕ) (state : State) (m : Option Message) → Runs nb → IsSettled nb budget state
    → IsSettled nb budget (answer nb budget state m).state
settled_next nb budget Ended m runs settled = tt
settled_next nb budget Before None runs settled = tt
settled_next nb budget Before (Some Open) runs settled = (none_kept, λ x v h. absurd (none-some v h))
settled_next nb budget Before (Some (Set items)) runs settled = tt
settled_next nb budget Before (Some Close) runs settled = tt
settled_next nb budget (On ui) None runs settled = settled
settled_next nb budget (On ui) (Some Open) runs settled = settled
settled_next nb budget (On ui) (Some (Set items)) runs settled =
    let env : Env = (whole nb budget ui).env in
    settled_by nb budget ui items runs settled (first_unknown env items) (first_unfit env items) refl
settled_next nb budget (On ui) (Some Close) runs settled = tt

settled_after : (nb : List Cell) (budget : ℕ) (state : State) (ms : List (Option Message)) → Runs nb → IsSettled nb budget state
    → IsSettled nb budget (state_after nb budget state ms)
settled_after nb budget state [] runs settled = settled
settled_after nb budget state (m ∷ ms) runs settled =
    settled_after nb budget (answer nb budget state m).state ms runs (settled_next nb budget state m runs settled)

-- So are those that a visitor's messages leave.
pub settled : (nb : List Cell) (budget : ℕ) (ms : List (Option Message)) (ui : Map Value) → Runs nb → state_after nb budget Before ms ≡ On ui
    → HasNoElements ui × AreAdmitted (whole nb budget ui).env ui
settled nb budget ms ui runs e = subst (IsSettled nb budget) e (settled_after nb budget Before ms runs tt)
