-- Items that are admitted, and the values that are set for them one after the other.
use Rattle.std.proofs.Common.{◌≡◌, ◌∙◌, refl, sym, ap, subst, List, [], ◌∷◌, map, Option, Some, None}
use Rattle.std.specs.Prelude.{All, IsSome, fold}
use Rattle.std.proofs.lemmas.List.Elements.{All-cons, All-nil}
use Rattle.std.proofs.lemmas.Option.{option_and_then_some}
use Rattle.messages.specs.declared.message.SetItem.{SetItem}
use Rattle.py_tree.specs.Names.{Name}
use Rattle.py_value.specs.ElementData.{ElementData, with_present}
use Rattle.py_value.specs.Maps.{Map, put, IsSortedMap}
use Rattle.py_value.specs.View.{data_of}
use Rattle.py_value.specs.declared.types.Data.{Data}
use Rattle.py_value.specs.declared.types.Value.{Value}
use Rattle.py_value.specs.declared.types.Value.TheVariants as V
use Rattle.py_value.proofs.Levels.{value_of-data_of}
use Rattle.py_value.proofs.SortedMaps.{sorted_put}
use Rattle.run_meaning.specs.Meaning.{Env}
use Rattle.run_meaning.specs.declared.binding.Binding.TheVariants.{Plain}
use Rattle.visit_meaning.specs.Answer.{element_in, value_sent, value_set, values_sent, with_sent, with_sets, with_value}
use Rattle.visit_meaning.specs.Rerun.{AllSent, laid_over}
use Rattle.visit_meaning.specs.WithElement.{with_element}
use Rattle.visit_meaning.proofs.SetValues.{IsLike, SameButPresent, element_there, laid_alike, like_laid, like_value, no_element, one_element, same_element}
use Rattle.kernel.specs.Sets.{AreAdmitted, set_by, set_to, with_kept, with_set}

-- ---- the first of the items

record IsFirst (env : Env) (i : SetItem) (items : List SetItem) (s : Name × Value) (sets : Map Value) : Type 0 where
  value : Value
  sent : i.value ≡ Some value
  named : i.name ≡ s.0
  fit : value_set env (i.name, value) ≡ Some (data_of s.1)
  rest : AreAdmitted env items sets

first : (env : Env) (i : SetItem) (items : List SetItem) (s : Name × Value) (sets : Map Value)
    → AreAdmitted env (i ∷ items) (s ∷ sets) → IsFirst env i items s sets
first env i items s sets h =
    let both : set_by env i ≡ set_to s = cc in
    option_and_then_some (λ v. value_set env (i.name, v)) i.value (data_of s.1) (ap (λ p. p.1) both)
    (λ v is more. record { value = v; sent = is; named = ap (λ p. p.0) both; fit = more; rest = cc })

-- the values that are sent begin with its value
first_sent : {env : Env} {i : SetItem} {items : List SetItem} {s : Name × Value} {sets : Map Value} (f : IsFirst env i items s sets)
    → values_sent (i ∷ items) ≡ (i.name, f.value) ∷ values_sent items
first_sent {i = i} {items = items} f = ap (λ o. with_sent i.name o (values_sent items)) f.sent

-- ---- all of them

-- Each item is admitted,
pub all_sent : (env : Env) (items : List SetItem) (sets : Map Value) → AreAdmitted env items sets → AllSent env items
all_sent env [] sets h = tt
all_sent env (i ∷ items) [] h = absurd cc
all_sent env (i ∷ items) (s ∷ sets) h =
    let f = first env i items s sets h in
    let is : value_sent env i ≡ Some (data_of s.1) = cc in
    ((data_of s.1, is), all_sent env items sets f.rest)

-- the elements are in being,
pub all_there : (env : Env) (items : List SetItem) (sets : Map Value) → AreAdmitted env items sets → All (λ s. IsSome (element_in env s.0)) sets
all_there env items [] h = All-nil (λ s. IsSome (element_in env s.0))
all_there env [] (s ∷ sets) h = absurd cc
all_there env (i ∷ items) (s ∷ sets) h =
    let f = first env i items s sets h in
    let e = element_there env (i.name, f.value) (data_of s.1) f.fit in
    let there : IsSome (element_in env i.name) = subst (λ o. IsSome o) (sym e.1) refl in
    All-cons (λ s. IsSome (element_in env s.0)) s sets (subst (λ x. IsSome (element_in env x)) f.named there) (all_there env items sets f.rest)

-- and the names are those of the items.
pub names_set : (env : Env) (items : List SetItem) (sets : Map Value) → AreAdmitted env items sets
    → map (λ (s : Name × Value). s.0) sets ≡ map (λ (i : SetItem). i.name) items
names_set env [] [] h = refl
names_set env [] (s ∷ sets) h = absurd cc
names_set env (i ∷ items) [] h = absurd cc
names_set env (i ∷ items) (s ∷ sets) h =
    let f = first env i items s sets h in (λ k. sym f.named k ∷ names_set env items sets f.rest k)

-- ---- one value after the other

-- An element that is set stays like it was,
pub set_like : (before env : Env) (s : Name × Value) → IsLike before env → IsLike before (with_set env s)
set_like before env s like =
    subst (IsLike before) (sym (laid_alike s.0 (Some (data_of s.1)) env (like s.0)))
    (like_laid before env s.0 (element_in before s.0) (Some (data_of s.1)) refl like)

-- so it is there,
pub still_there : {o p : Option ElementData} → SameButPresent o p → IsSome o → IsSome p
still_there no_element there = there
still_there (one_element e d) there = refl

-- and the bindings stay in order.
sorted_element : (x : Name) (o : Option ElementData) (d : Data) (env : Env) → IsSortedMap env → IsSortedMap (with_element x o (Some d) env)
sorted_element x (Some e) d env sorted = sorted_put x (Plain (V.Element (with_present d e))) env sorted
sorted_element x None d env sorted = sorted

pub set_sorted : (env : Env) (s : Name × Value) → IsSortedMap env → IsSortedMap (with_set env s)
set_sorted env s sorted = sorted_element s.0 (element_in env s.0) (data_of s.1) env sorted

-- The bindings are those with the values laid over that are sent,
sets_laid : (before env : Env) (items : List SetItem) (sets : Map Value) → IsLike before env → AreAdmitted before items sets
    → fold with_set env sets ≡ laid_over (values_sent items) env
sets_laid before env [] [] like h = refl
sets_laid before env [] (s ∷ sets) like h = absurd cc
sets_laid before env (i ∷ items) [] like h = absurd cc
sets_laid before env (i ∷ items) (s ∷ sets) like h =
    let f = first before i items s sets h in
    let fit : value_set env (i.name, f.value) ≡ Some (data_of s.1) = like_value before env (i.name, f.value) like ∙ f.fit in
    sets_laid before (with_set env s) items sets (set_like before env s like) f.rest
    ∙ (λ k. laid_over (values_sent items) (with_element (sym f.named k) (element_in env (sym f.named k)) (sym fit k) env))
    ∙ ap (λ sent. laid_over sent env) (sym (first_sent f))

pub all_laid : (env : Env) (items : List SetItem) (sets : Map Value) → AreAdmitted env items sets → fold with_set env sets ≡ laid_over (values_sent items) env
all_laid env items sets h = sets_laid env env items sets (λ x. same_element (element_in env x)) h

-- and the present values those with what the elements make of them.
pub all_kept : (env : Env) (items : List SetItem) (sets ui : Map Value) → AreAdmitted env items sets
    → fold with_kept ui sets ≡ with_sets env (values_sent items) ui
all_kept env [] [] ui h = refl
all_kept env [] (s ∷ sets) ui h = absurd cc
all_kept env (i ∷ items) [] ui h = absurd cc
all_kept env (i ∷ items) (s ∷ sets) ui h =
    let f = first env i items s sets h in
    all_kept env items sets (with_kept ui s) f.rest
    ∙ (λ k. with_sets env (values_sent items) (put (sym f.named k) (sym (value_of-data_of s.1) k) ui))
    ∙ ap (λ o. with_sets env (values_sent items) (with_value i.name o ui)) (sym f.fit)
    ∙ ap (λ sent. with_sets env sent ui) (sym (first_sent f))
