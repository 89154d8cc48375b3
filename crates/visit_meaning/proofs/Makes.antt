-- What a call makes that stands right of a name: an element of this name at the present value that is kept for it, which is no element.
use Rattle.std.proofs.Common.{◌≡◌, refl, ap, ◌∙◌, ℕ, ℤ, Bool, true, false, cond, [], Option, Some, None, Result, Ok, Err}
use Rattle.std.specs.Prelude.{codes}
use Rattle.std.specs.Str.{bytes_eq}
use Rattle.py_tree.specs.Names.{Name}
use Rattle.py_tree.specs.Trees as trees
use Rattle.py_value.specs.ElementData.{ElementData}
use Rattle.py_value.specs.Elements.{Arguments, Params, Range, at_kept, has_text, is_in_range, kind_called, made, number_at, param, params_of_call, range_at, slider, slider_by, slider_of, slider_parameters}
use Rattle.py_value.specs.Maps.{Map, look_up}
use Rattle.py_value.specs.View.{value_of as value_in}
use Rattle.py_value.specs.declared.kinds.Kind.{Kind}
use Rattle.py_value.specs.declared.kinds.Kind.TheVariants as kind
use Rattle.py_value.specs.declared.op_fault.OpFault.{OpFault}
use Rattle.py_value.specs.declared.types.Data.TheVariants as D
use Rattle.py_value.specs.declared.types.Value.{Value}
use Rattle.py_value.specs.declared.types.Value.TheVariants as V
use Rattle.py_value.proofs.Levels.{value_of-data_of}
use Rattle.run_meaning.specs.Meaning.{Env, Scene, call_of, element_at, element_by, read_module, values_after}
use Rattle.visit_meaning.specs.Underway.{is_element}
use Rattle.visit_meaning.proofs.Kept.{AllGiven, given_after}
use Rattle.visit_meaning.proofs.LookUps.{name_itself}

-- ---- what is made is at no element

-- a number is no element
pub int_plain : (n : ℤ) → is_element (value_in (D.Int n)) ≡ false
int_plain n = ap is_element (value_of-data_of (V.Int n))

-- an element that is made is at no element as its value
abbrev pub MadePlain : Result ElementData OpFault → Type 0
MadePlain (Ok e) = is_element (value_in e.present) ≡ false
MadePlain (Err fault) = Unit {0}

range_plain : (x : Name) (params : Params) (n : ℤ) (fault : OpFault) (b : Bool) → MadePlain (cond b (Ok (slider x params n)) (Err fault))
range_plain x params n fault true = int_plain n
range_plain x params n fault false = tt

slider_plain : (x : Name) (params : Params) (r : Option Range) (n : Option ℤ) (label : Bool) → MadePlain (slider_by x params r n label)
slider_plain x params (Some r) (Some n) true = range_plain x params n _ (is_in_range r n)
slider_plain x params (Some r) (Some n) false = tt
slider_plain x params (Some r) None label = tt
slider_plain x params None n label = tt

given_plain : (x : Name) (params : Option Params) → MadePlain (slider_of x params)
given_plain x None = tt
given_plain x (Some params) = slider_plain x params (range_at params) (number_at (codes "value") params) (has_text (param (codes "label") params))

pub made_plain : (k : Kind) (x : Name) (args : Arguments) → MadePlain (made k x args)
made_plain kind.Slider x args = given_plain x (params_of_call slider_parameters args)
made_plain other x args = tt

pub kept_plain : (o : Option Value) (e : ElementData) → ((v : Value) → o ≡ Some v → is_element v ≡ false) → is_element (value_in e.present) ≡ false
    → is_element (value_in (at_kept o e).present) ≡ false
kept_plain None e plain h = h
kept_plain (Some v) e plain h = ap is_element (value_of-data_of v) ∙ plain v refl

-- ---- what is made has the name of its target, and is at the value that is kept for the name

abbrev pub IsNamed : Map Value → Name → Value → Type 0
IsNamed ui x (V.Element e) = (bytes_eq e.name x ≡ true) × (at_kept (look_up x ui) e ≡ e)
IsNamed ui x v = ⊥

abbrev MadeNamed : Name → Result ElementData OpFault → Type 0
MadeNamed x (Ok e) = bytes_eq e.name x ≡ true
MadeNamed x (Err fault) = Unit {0}

range_named : (x : Name) (params : Params) (n : ℤ) (fault : OpFault) (b : Bool) → MadeNamed x (cond b (Ok (slider x params n)) (Err fault))
range_named x params n fault true = name_itself x
range_named x params n fault false = tt

by_named : (x : Name) (params : Params) (r : Option Range) (n : Option ℤ) (label : Bool) → MadeNamed x (slider_by x params r n label)
by_named x params (Some r) (Some n) true = range_named x params n _ (is_in_range r n)
by_named x params (Some r) (Some n) false = tt
by_named x params (Some r) None label = tt
by_named x params None n label = tt

given_named : (x : Name) (params : Option Params) → MadeNamed x (slider_of x params)
given_named x None = tt
given_named x (Some params) = by_named x params (range_at params) (number_at (codes "value") params) (has_text (param (codes "label") params))

made_named : (k : Kind) (x : Name) (args : Arguments) → MadeNamed x (made k x args)
made_named kind.Slider x args = given_named x (params_of_call slider_parameters args)
made_named other x args = tt

-- at the present value that is kept it has the name too
kept_named : (x : Name) (o : Option Value) (e : ElementData) → bytes_eq e.name x ≡ true → bytes_eq (at_kept o e).name x ≡ true
kept_named x None e h = h
kept_named x (Some v) e h = h

-- an element is at its kept value when it is put there
kept_twice : (o : Option Value) (e : ElementData) → at_kept o (at_kept o e) ≡ at_kept o e
kept_twice None e = refl
kept_twice (Some v) e = refl

at_named : (scene : Scene) (line : ℕ) (x : Name) (r : Result ElementData OpFault) → MadeNamed x r → AllGiven (IsNamed scene.present x) (element_at scene line x r)
at_named scene line x (Ok e) h = (kept_named x (look_up x scene.present) e h, kept_twice (look_up x scene.present) e)
at_named scene line x (Err fault) h = tt

element_named : (scene : Scene) (env : Env) (line : ℕ) (x : Name) (k : Option Kind) (args : trees.Arguments)
    → AllGiven (IsNamed scene.present x) (element_by scene env line x k args)
element_named scene env line x None args = tt
element_named scene env line x (Some k) args =
    given_after (IsNamed scene.present x) (read_module line (look_up (codes "mo") env)) _
    (λ _. given_after (IsNamed scene.present x) (values_after [] scene env line args) _ (λ vs. at_named scene line x (made k x _) (made_named k x _)))

-- the right side of a line with this target
pub call_named : (scene : Scene) (env : Env) (line : ℕ) (x : Name) (k : Option Name) (args : trees.Arguments)
    → AllGiven (IsNamed scene.present x) (call_of scene env line x k args)
call_named scene env line x None args = tt
call_named scene env line x (Some k) args = element_named scene env line x (kind_called k) args
