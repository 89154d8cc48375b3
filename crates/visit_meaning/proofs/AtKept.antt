-- In the whole each element in being is at the present value that is kept for its name, where no element is kept as a value; and none is
-- kept as a value after values were set.
use Rattle.std.proofs.Common.{◌≡◌, ◌∙◌, refl, sym, ap, subst, ℕ, ℤ, Bool, true, false, cond, not, List, [], ◌∷◌, Option, Some, None, ⊎_elim}
use Rattle.std.specs.Prelude.{flat_map}
use Rattle.std.specs.Str.{bytes_eq}
use Rattle.std.proofs.lemmas.Bool.{cases_Bool}
use Rattle.std.proofs.lemmas.Option.{cond_some, none-some, option_and_then_some, same_Some}
use Rattle.py_tree.specs.Names.{Name, is_among}
use Rattle.py_tree.specs.Trees.{Cell}
use Rattle.py_value.specs.ElementData.{ElementData}
use Rattle.py_value.specs.Elements.{Range, admits_number, admitted, admitted_by, at_kept, is_in_range, number_in, range_at}
use Rattle.py_value.specs.Maps.{Map, look_up, put, where_name}
use Rattle.py_value.specs.View.{data_of, value_of as value_in}
use Rattle.py_value.specs.declared.kinds.Kind.{Kind}
use Rattle.py_value.specs.declared.kinds.Kind.TheVariants as kind
use Rattle.py_value.specs.declared.types.Data.{Data}
use Rattle.py_value.specs.declared.types.Data.TheVariants as D
use Rattle.py_value.specs.declared.types.Value.{Value}
use Rattle.py_value.proofs.SortedMaps.{look_up-put, look_up-put_other, look_up-where_name, name_of}
use Rattle.visit_meaning.specs.Answer.{element_in, names_of, present_after, value_set, with_sets, with_value}
use Rattle.graph_meaning.specs.Graph.{elements_of}
use Rattle.run_meaning.specs.Meaning.{Env}
use Rattle.graph_meaning.specs.Reruns.{rerun}
use Rattle.visit_meaning.specs.Underway.{HasNoElements, is_element}
use Rattle.visit_meaning.specs.Whole.{whole}
use Rattle.visit_meaning.proofs.Going.{Runs}
use Rattle.visit_meaning.proofs.InBeing.{created_bound, creator}
use Rattle.visit_meaning.proofs.Makes.{int_plain}

-- ---- the whole

-- An element in being is at the value that is kept for its name.
pub whole_at_kept : (nb : List Cell) (budget : ℕ) (ui : Map Value) → Runs nb → HasNoElements ui → (x : Name) (e : ElementData)
    → element_in (whole nb budget ui).env x ≡ Some e → at_kept (look_up x ui) e ≡ e
whole_at_kept nb budget ui runs kept x e h =
    let w = creator nb budget ui runs kept x e h in
    let m = created_bound nb budget ui runs w.0 x w.1 w.2 in
    subst (λ f. at_kept (look_up x ui) f ≡ f) (same_Some m.0 e (sym m.1 ∙ h)) m.2

-- ---- the next present values

-- what an element admits is no element
admitted_plain : (e : ElementData) (d now : Data) → admitted e d ≡ Some now → is_element (value_in now) ≡ false
admitted_plain e d now h = by e.kind h
  where
    number : (r : Option Range) (n : Option ℤ) → admits_number r n ≡ Some now → is_element (value_in now) ≡ false
    number (Some r) (Some n) is = subst (λ f. is_element (value_in f) ≡ false) (cond_some (is_in_range r n) (D.Int n) now is).1 (int_plain n)
    number (Some r) None is = absurd (none-some now is)
    number None n is = absurd (none-some now is)

    by : (k : Kind) → admitted_by k e d ≡ Some now → is_element (value_in now) ≡ false
    by kind.Slider is = number (range_at e.params) (number_in (value_in d)) is
    by k is = absurd (none-some now is)

set_plain : (env : Env) (s : Name × Value) (now : Data) → value_set env s ≡ Some now → is_element (value_in now) ≡ false
set_plain env s now h = option_and_then_some (λ e. admitted e (data_of s.1)) (element_in env s.0) now h (λ e is more. admitted_plain e (data_of s.1) now more)

put_plain : (x : Name) (v : Value) (ui : Map Value) → is_element v ≡ false → HasNoElements ui → HasNoElements (put x v ui)
put_plain x v ui plain kept y w h = ⊎_elim
    (λ same.
    let found : look_up y (put x v ui) ≡ Some v = ap (λ z. look_up z (put x v ui)) (sym (name_of x y same)) ∙ look_up-put x v ui in
    sym (ap is_element (same_Some v w (sym found ∙ h))) ∙ plain)
    (λ apart. kept y w (sym (look_up-put_other x y v ui apart) ∙ h))
    (cases_Bool (bytes_eq x y))

value_plain : (x : Name) (o : Option Data) (ui : Map Value) → ((now : Data) → o ≡ Some now → is_element (value_in now) ≡ false)
    → HasNoElements ui → HasNoElements (with_value x o ui)
value_plain x None ui plain kept = kept
value_plain x (Some d) ui plain kept = put_plain x (value_in d) ui (plain d refl) kept

sets_plain : (env : Env) (sets ui : Map Value) → HasNoElements ui → HasNoElements (with_sets env sets ui)
sets_plain env [] ui kept = kept
sets_plain env (s ∷ sets) ui kept =
    sets_plain env sets (with_value s.0 (value_set env s) ui) (value_plain s.0 (value_set env s) ui (set_plain env s) kept)

where_plain : (p : Name → Bool) (ui : Map Value) → HasNoElements ui → HasNoElements (where_name p ui)
where_plain p ui kept x v h = by (p x) (sym (look_up-where_name p x ui) ∙ h)
  where
    by : (b : Bool) → cond b (look_up x ui) None ≡ Some v → is_element v ≡ false
    by true is = kept x v is
    by false is = absurd (none-some v is)

-- No element is kept as a value before the opening, and none after values were set.
pub none_kept : HasNoElements []
none_kept x v h = absurd (none-some v h)

pub next_plain : (nb : List Cell) (env : Env) (ui sets : Map Value) → HasNoElements ui → HasNoElements (present_after nb env ui sets)
next_plain nb env ui sets kept =
    where_plain (λ x. not (is_among x (flat_map (elements_of nb) (rerun nb (names_of sets))))) (with_sets env sets ui) (sets_plain env sets ui kept)
