-- What present values and bindings have at a name when values are set.
use Rattle.std.proofs.Common.{◌≡◌, ◌∙◌, refl, sym, ap, subst, ℕ, true, false, not, List, [], ◌∷◌, ◌==◌, flat_map, Option, Some, None, ⊎_elim}
use Rattle.std.specs.Prelude.{cond, option_and_then}
use Rattle.std.specs.Str.{bytes_eq}
use Rattle.std.proofs.lemmas.Bool.{cases_Bool, false_from_ne_true, or_cases, or_left, or_parts, or_right, both_ways, eq-eqb}
use Rattle.std.proofs.lemmas.Option.{cond_some, none-some, option_and_then_some}
use Rattle.py_tree.specs.Names.{Name, is_among}
use Rattle.py_tree.specs.Trees.{Cell}
use Rattle.py_value.specs.ElementData.{ElementData, with_present}
use Rattle.py_value.specs.Elements.{admitted, admitted_by}
use Rattle.py_value.specs.Maps.{Map, look_up, put, IsSortedMap}
use Rattle.py_value.specs.View.{data_of, value_of}
use Rattle.py_value.specs.declared.kinds.Kind.{Kind}
use Rattle.py_value.specs.declared.kinds.Kind.TheVariants as kind
use Rattle.py_value.specs.declared.types.Data.{Data}
use Rattle.py_value.specs.declared.types.Value.{Value}
use Rattle.py_value.specs.declared.types.Value.TheVariants as V
use Rattle.py_value.proofs.SortedMaps.{look_up-put, look_up-put_other, look_up-where_on, name_of, sorted_put}
use Rattle.visit_meaning.specs.Answer.{element_in, named_so, names_of, present_after, value_set, with_sets, with_value}
use Rattle.graph_meaning.specs.Graph.{elements_of, is_in}
use Rattle.run_meaning.specs.Meaning.{Env}
use Rattle.graph_meaning.specs.Reruns.{rerun}
use Rattle.visit_meaning.specs.Rerun.{AllSet, laid_over}
use Rattle.visit_meaning.specs.WithElement.{with_element}
use Rattle.run_meaning.specs.declared.binding.Binding.{Binding}
use Rattle.run_meaning.specs.declared.binding.Binding.TheVariants.{Plain}
use Rattle.py_tree.proofs.NamesOf.{among_append}

-- the bindings with values laid over that are set, as the elements of `before` admit them
abbrev pub laid_by : Env → Map Value → Env → Env
laid_by before [] env = env
laid_by before (s ∷ sets) env = laid_by before sets (with_element s.0 (element_in before s.0) (value_set before s) env)

-- an element that admits a value is there
pub element_there : (env : Env) (s : Name × Value) (d : Data) → value_set env s ≡ Some d → (e : ElementData) × (element_in env s.0 ≡ Some e)
element_there env s d h = option_and_then_some (λ e. admitted e (data_of s.1)) (element_in env s.0) d h (λ e is more. (e, is))

pub set_there : (env : Env) (sets : Map Value) (x : Name) → AllSet env sets → is_among x (names_of sets) ≡ true
    → (e : ElementData) × (element_in env x ≡ Some e)
set_there env [] x all h = absurd (both_ways false refl h)
set_there env (s ∷ sets) x all h = ⊎_elim
    (λ same. subst (λ y. (e : ElementData) × (element_in env y ≡ Some e)) (name_of s.0 x same) (element_there env s all.0.0 all.0.1))
    (λ later. set_there env sets x all.1 later)
    (or_cases (bytes_eq s.0 x) _ h)

-- ---- names for which no value is set

value_passed : (x y : Name) (o : Option Data) (ui : Map Value) → bytes_eq x y ≡ false → look_up y (with_value x o ui) ≡ look_up y ui
value_passed x y None ui off = refl
value_passed x y (Some d) ui off = look_up-put_other x y (value_of d) ui off

element_passed : (x y : Name) (o : Option ElementData) (p : Option Data) (env : Env) → bytes_eq x y ≡ false
    → look_up y (with_element x o p env) ≡ look_up y env
element_passed x y (Some e) (Some d) env off = look_up-put_other x y (Plain (V.Element (with_present d e))) env off
element_passed x y (Some e) None env off = refl
element_passed x y None p env off = refl

pub sets_passed : (before : Env) (sets ui : Map Value) (x : Name) → is_among x (names_of sets) ≡ false
    → look_up x (with_sets before sets ui) ≡ look_up x ui
sets_passed before [] ui x off = refl
sets_passed before (s ∷ sets) ui x off =
    let parts = or_parts (bytes_eq s.0 x) _ off in
    sets_passed before sets (with_value s.0 (value_set before s) ui) x parts.1 ∙ value_passed s.0 x (value_set before s) ui parts.0

pub laid_passed : (before : Env) (sets : Map Value) (env : Env) (x : Name) → is_among x (names_of sets) ≡ false
    → look_up x (laid_by before sets env) ≡ look_up x env
laid_passed before [] env x off = refl
laid_passed before (s ∷ sets) env x off =
    let parts = or_parts (bytes_eq s.0 x) _ off in
    laid_passed before sets (with_element s.0 (element_in before s.0) (value_set before s) env) x parts.1
    ∙ element_passed s.0 x (element_in before s.0) (value_set before s) env parts.0

-- ---- names for which one is

-- what is set at the name: its present value from now on, which the element has made of a value, and the element with it
pub record IsLaid (before : Env) (sets ui : Map Value) (env : Env) (x : Name) (e : ElementData) : Type 0 where
  pub now : Data
  pub fit : (d : Data) × (admitted e d ≡ Some now)
  pub value : look_up x (with_sets before sets ui) ≡ Some (value_of now)
  pub element : look_up x (laid_by before sets env) ≡ Some (Plain (V.Element (with_present now e)))

laid_here : (before : Env) (s : Name × Value) (sets ui : Map Value) (env : Env) (e : ElementData) (d : Data) → value_set before s ≡ Some d
    → element_in before s.0 ≡ Some e → is_among s.0 (names_of sets) ≡ false → IsLaid before (s ∷ sets) ui env s.0 e
laid_here before s sets ui env e d is there off = record {
  now = d;
  fit = (data_of s.1, sym (ap (option_and_then (λ e. admitted e (data_of s.1))) there) ∙ is);
  value = sets_passed before sets (with_value s.0 (value_set before s) ui) s.0 off
      ∙ ap (λ o. look_up s.0 (with_value s.0 o ui)) is ∙ look_up-put s.0 (value_of d) ui;
  element = laid_passed before sets (with_element s.0 (element_in before s.0) (value_set before s) env) s.0 off
      ∙ (λ i. look_up s.0 (with_element s.0 (there i) (is i) env)) ∙ look_up-put s.0 (Plain (V.Element (with_present d e))) env;
}

pub laid_at : (before : Env) (sets ui : Map Value) (env : Env) (x : Name) (e : ElementData) → AllSet before sets
    → is_among x (names_of sets) ≡ true → element_in before x ≡ Some e → IsLaid before sets ui env x e
laid_at before [] ui env x e all h there = absurd (both_ways false refl h)
laid_at before (s ∷ sets) ui env x e all h there = ⊎_elim
    (λ later.
    let r = laid_at before sets (with_value s.0 (value_set before s) ui) (with_element s.0 (element_in before s.0) (value_set before s) env) x e all.1 later there in
    record { now = r.now; fit = r.fit; value = r.value; element = r.element })
    (λ off. ⊎_elim
    (λ same.
    let is : s.0 ≡ x = name_of s.0 x same in
    subst (λ y. element_in before y ≡ Some e → is_among y (names_of sets) ≡ false → IsLaid before (s ∷ sets) ui env y e) is
    (λ k l. laid_here before s sets ui env e all.0.0 all.0.1 k l) there off)
    (λ later. absurd (both_ways _ off later))
    (or_cases (bytes_eq s.0 x) _ h))
    (cases_Bool (is_among x (names_of sets)))

-- ---- the bindings stay in order

sorted_element : (x : Name) (o : Option ElementData) (p : Option Data) (env : Env) → IsSortedMap env → IsSortedMap (with_element x o p env)
sorted_element x (Some e) (Some d) env s = sorted_put x (Plain (V.Element (with_present d e))) env s
sorted_element x (Some e) None env s = s
sorted_element x None p env s = s

pub sorted_laid : (before : Env) (sets : Map Value) (env : Env) → IsSortedMap env → IsSortedMap (laid_by before sets env)
sorted_laid before [] env sorted = sorted
sorted_laid before (s ∷ sets) env sorted =
    sorted_laid before sets (with_element s.0 (element_in before s.0) (value_set before s) env)
    (sorted_element s.0 (element_in before s.0) (value_set before s) env sorted)

-- ---- what is dropped

some_of : (f : ℕ → List Name) (cs : List ℕ) (x : Name) → is_among x (flat_map f cs) ≡ true
    → (c : ℕ) × (is_in c cs ≡ true) × (is_among x (f c) ≡ true)
some_of f [] x h = absurd (both_ways false refl h)
some_of f (c ∷ cs) x h = ⊎_elim
    (λ here. (c, or_left _ _ (eq-eqb c c refl), here))
    (λ later. let w = some_of f cs x later in (w.0, or_right (c == w.0) _ w.1, w.2))
    (or_cases (is_among x (f c)) (is_among x (flat_map f cs)) (sym (among_append x (f c) (flat_map f cs)) ∙ h))

-- a name keeps its present value where no cell that runs again creates an element of this name
pub next_kept : (nb : List Cell) (env : Env) (ui sets : Map Value) (x : Name)
    → ((c : ℕ) → is_in c (rerun nb (names_of sets)) ≡ true → is_among x (elements_of nb c) ≡ false)
    → look_up x (present_after nb env ui sets) ≡ look_up x (with_sets env sets ui)
next_kept nb env ui sets x none =
    let dropped : List Name = flat_map (elements_of nb) (rerun nb (names_of sets)) in
    let absent : is_among x dropped ≡ false = false_from_ne_true _
    (λ h. let w = some_of (elements_of nb) (rerun nb (names_of sets)) x h in both_ways _ (none w.0 w.1) w.2) in
    look_up-where_on (λ y. not (is_among y dropped)) x (with_sets env sets ui) (ap not absent)

-- ---- one value after the other

-- the same element, but for its present value, or none
pub data SameButPresent : Option ElementData → Option ElementData → Type 0 where
  no_element : SameButPresent None None
  one_element : (e : ElementData) (d : Data) → SameButPresent (Some e) (Some (with_present d e))

-- names stand for the same elements, but for present values
abbrev pub IsLike : Env → Env → Type 0
IsLike before env = (x : Name) → SameButPresent (element_in before x) (element_in env x)

pub same_element : (o : Option ElementData) → SameButPresent o o
same_element None = no_element
same_element (Some e) = one_element e e.present

admitted_alike : (k : Kind) (e : ElementData) (present d : Data) → admitted_by k (with_present present e) d ≡ admitted_by k e d
admitted_alike kind.Slider e present d = refl
admitted_alike k e present d = refl

pub value_alike : (d : Data) {o p : Option ElementData} → SameButPresent o p → option_and_then (λ e. admitted e d) p ≡ option_and_then (λ e. admitted e d) o
value_alike d no_element = refl
value_alike d (one_element e present) = admitted_alike e.kind e present d

-- so they admit the same
pub like_value : (before env : Env) (s : Name × Value) → IsLike before env → value_set env s ≡ value_set before s
like_value before env s like = value_alike (data_of s.1) (like s.0)

pub laid_alike : (x : Name) (v : Option Data) (env : Env) {o p : Option ElementData} → SameButPresent o p → with_element x p v env ≡ with_element x o v env
laid_alike x v env no_element = refl
laid_alike x None env (one_element e d) = refl
laid_alike x (Some now) env (one_element e d) = refl

pub like_laid : (before env : Env) (x : Name) (o : Option ElementData) (v : Option Data) → element_in before x ≡ o → IsLike before env
    → IsLike before (with_element x o v env)
like_laid before env x None v is like y = like y
like_laid before env x (Some e) None is like y = like y
like_laid before env x (Some e) (Some d) is like y = ⊎_elim
    (λ same.
    let named : bytes_eq e.name x ≡ true = named_itself x (look_up x before) e is in
    let here : element_in (put x (Plain (V.Element (with_present d e))) env) x ≡ Some (with_present d e) =
    ap (named_so x) (look_up-put x (Plain (V.Element (with_present d e))) env) ∙ ap (λ b. cond b (Some (with_present d e)) None) named in
    subst (λ z. SameButPresent (element_in before z) (element_in (put x (Plain (V.Element (with_present d e))) env) z)) (name_of x y same)
    (subst (SameButPresent (element_in before x)) (sym here) (subst (λ o. SameButPresent o (Some (with_present d e))) (sym is) (one_element e d))))
    (λ apart. subst (λ o. SameButPresent (element_in before y) (named_so y o)) (sym (look_up-put_other x y (Plain (V.Element (with_present d e))) env apart)) (like y))
    (cases_Bool (bytes_eq x y))
  where
    named_itself : (x : Name) (o : Option Binding) (e : ElementData) → named_so x o ≡ Some e → bytes_eq e.name x ≡ true
    named_itself x (Some (Plain (V.Element f))) e h =
        let c = cond_some (bytes_eq f.name x) f e h in ap (λ (g : ElementData). bytes_eq g.name x) (sym c.1) ∙ c.0
    named_itself x o e h = absurd (none-some e h)

like_next : (before env : Env) (s : Name × Value) → IsLike before env
    → with_element s.0 (element_in env s.0) (value_set env s) env ≡ with_element s.0 (element_in before s.0) (value_set before s) env
like_next before env s like =
    laid_alike s.0 (value_set env s) env (like s.0) ∙ ap (λ v. with_element s.0 (element_in before s.0) v env) (like_value before env s like)

laid_one_by_one : (before : Env) (sets : Map Value) (env : Env) → IsLike before env → laid_over sets env ≡ laid_by before sets env
laid_one_by_one before [] env like = refl
laid_one_by_one before (s ∷ sets) env like =
    ap (laid_over sets) (like_next before env s like)
    ∙ laid_one_by_one before sets (with_element s.0 (element_in before s.0) (value_set before s) env)
    (like_laid before env s.0 (element_in before s.0) (value_set before s) refl like)

-- Values that are laid over one after the other are admitted as they were before.
pub laid_is : (sets : Map Value) (env : Env) → laid_over sets env ≡ laid_by env sets env
laid_is sets env = laid_one_by_one env sets env (λ x. same_element (element_in env x))
