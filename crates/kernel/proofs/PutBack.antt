-- What a map has at a name is taken out, and something is put back.
use Rattle.std.proofs.Common.{◌≡◌, ◌∙◌, refl, sym, ap, ℕ, Bool, true, false, cond, not, List, Some, None, ⊎_elim}
use Rattle.std.specs.Prelude.{IsSome}
use Rattle.std.specs.Str.{bytes_eq}
use Rattle.std.proofs.lemmas.Bool.{both_ways, cases_Bool, false_from_ne_true}
use Rattle.py_tree.specs.Names.{Name}
use Rattle.py_value.specs.ElementData.{ElementData, with_present}
use Rattle.py_value.specs.Maps.{Map, look_up, put, where_name, IsSortedMap}
use Rattle.py_value.specs.declared.types.Data.{Data}
use Rattle.py_value.specs.declared.types.Value.TheVariants as V
use Rattle.py_value.proofs.SortedMaps.{look_up-put, look_up-put_other, look_up-where_on, name_of, same_maps, same_name, sorted_put, sorted_where_name}
use Rattle.visit_meaning.specs.Answer.{element_in, named_so}
use Rattle.run_meaning.specs.Meaning.{Env}
use Rattle.visit_meaning.specs.WithElement.{with_element}
use Rattle.run_meaning.specs.declared.binding.Binding.TheVariants.{Plain}

other_name : (x y : List ℕ) → bytes_eq x y ≡ false → not (bytes_eq y x) ≡ true
other_name x y off =
    ap not (false_from_ne_true (bytes_eq y x) (λ same. both_ways (bytes_eq x y) off (same_name x y (sym (name_of y x same)))))

back_at : {X : Type 0} (x y : List ℕ) (v : X) (m : Map X) → look_up y (put x v (where_name (λ n. not (bytes_eq n x)) m)) ≡ look_up y (put x v m)
back_at {X = X} x y v m = ⊎_elim
    (λ same.
    let is : x ≡ y = name_of x y same in
    let rest : Map X = where_name (λ n. not (bytes_eq n x)) m in
    ap (λ z. look_up z (put x v rest)) (sym is) ∙ look_up-put x v rest ∙ sym (look_up-put x v m) ∙ ap (λ z. look_up z (put x v m)) is)
    (λ apart.
    let rest : Map X = where_name (λ n. not (bytes_eq n x)) m in
    look_up-put_other x y v rest apart ∙ look_up-where_on (λ n. not (bytes_eq n x)) y m (other_name x y apart) ∙ sym (look_up-put_other x y v m apart))
    (cases_Bool (bytes_eq x y))

-- it is as if it had been put in place
put_back : {X : Type 0} (x : List ℕ) (v : X) (m : Map X) → IsSortedMap m → put x v (where_name (λ n. not (bytes_eq n x)) m) ≡ put x v m
put_back x v m sorted =
    same_maps (put x v (where_name (λ n. not (bytes_eq n x)) m)) (put x v m) (sorted_put x v _ (sorted_where_name (λ n. not (bytes_eq n x)) m sorted))
    (sorted_put x v m sorted) (λ y. back_at x y v m)

-- the element that is bound to its name
named_there : (x : Name) (e : ElementData) (b : Bool) → IsSome (cond b (Some e) None) → cond b (Some e) None ≡ Some e
named_there x e true there = refl
named_there x e false there = let no : false ≡ true = there in absurd cc

element_there : (x : Name) (e : ElementData) (env : Env) → Some (Plain (V.Element e)) ≡ look_up x env → IsSome (element_in env x) → element_in env x ≡ Some e
element_there x e env is there =
    let named : element_in env x ≡ cond (bytes_eq e.name x) (Some e) None = ap (named_so x) (sym is) in
    rw named (named_there x e (bytes_eq e.name x) (rw named at there))

-- it has another present value
pub element_set : (x : Name) (e : ElementData) (d : Data) (env : Env) → Some (Plain (V.Element e)) ≡ look_up x env → IsSome (element_in env x) → IsSortedMap env
    → put x (Plain (V.Element (with_present d e))) (where_name (λ n. not (bytes_eq n x)) env) ≡ with_element x (element_in env x) (Some d) env
element_set x e d env is there sorted =
    put_back x (Plain (V.Element (with_present d e))) env sorted ∙ ap (λ o. with_element x o (Some d) env) (sym (element_there x e env is there))
