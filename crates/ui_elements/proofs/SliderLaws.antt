-- What every slider that a call makes has.
use Rattle.std.proofs.Common.{◌≡◌, ℕ, ℤ, Bool, true, false, cond, List, [], ◌∷◌, map, drop, refl, ap, ◌∙◌, subst, Option, Some, None, Ok, Err}
use Rattle.std.specs.Prelude.{codes, option_and_then, length}
use Rattle.py_value.specs.declared.types.Data.{Data}
use Rattle.py_value.specs.declared.types.Data.TheVariants as D
use Rattle.py_value.specs.declared.types.Value.{Value}
use Rattle.py_value.specs.declared.types.Value.TheVariants as V
use Rattle.py_value.specs.declared.kinds.Kind.{Kind}
use Rattle.py_value.specs.declared.kinds.Kind.TheVariants as kind
use Rattle.py_value.specs.declared.op_fault.OpFault.TheVariants as fault
use Rattle.py_value.specs.View.{data_of, value_of}
use Rattle.py_value.specs.Eq.{eq_of}
use Rattle.py_value.specs.ElementData.{ElementData}
use Rattle.py_value.specs.Dicts.{with_pair}
use Rattle.py_value.specs.Elements.{Named, Params, Parameter, Arguments, Range, slider_parameters, are_words_of, argument, params_after, params_of_call, number_in, range_at, is_in_range, slider, slider_by, slider_of, admits_number, admitted_by, admitted, made, param, number_at, has_text}
use Rattle.py_value.proofs.Levels.{data_of-value_of}
use Rattle.ui_elements.specs.Samples.{slider_names}
use Rattle.py_value.proofs.Computes.{same_text, a_number}

-- what a slider admits is the number itself
kept_number : (b : Bool) (n : ℤ) (c : Data) → cond b (Some (D.Int n)) None ≡ Some c → c ≡ D.Int n
kept_number true n c h = cc
kept_number false n c h = cc

kept_value : (r : Option Range) (v : Value) (c : Data) → admits_number r (number_in v) ≡ Some c → c ≡ data_of v
kept_value (Some r) (V.Int n) c h = kept_number (is_in_range r n) n c h
kept_value (Some r) v c h = cc
kept_value None v c h = cc

kept_by : (k : Kind) (e : ElementData) (d c : Data) → admitted_by k e d ≡ Some c → c ≡ d
kept_by kind.Slider e d c h = kept_value (range_at e.params) (value_of d) c h ∙ data_of-value_of d
kept_by other e d c h = cc

pub kept : (e : ElementData) (d c : Data) → admitted e d ≡ Some c → c ≡ d
kept e d c h = kept_by e.kind e d c h

-- a slider begins at a number of its range
begun_at : (b : Bool) (name : List ℕ) (params : Params) (r : Range) (n : ℤ) (e : ElementData) → range_at params ≡ Some r → is_in_range r n ≡ b → cond b (Ok (slider name params n)) (Err fault.Value) ≡ Ok e → admitted e e.initial ≡ Some e.initial
begun_at true name params r n e at in_range h =
    let is : slider name params n ≡ e = cc in
    subst (λ (f : ElementData). admitted f f.initial ≡ Some f.initial) is (rw (at, a_number n, in_range) refl)
begun_at false name params r n e at in_range h = cc

begun_by : (name : List ℕ) (params : Params) (r : Option Range) (n : Option ℤ) (label : Bool) (e : ElementData) → range_at params ≡ r → slider_by name params r n label ≡ Ok e → admitted e e.initial ≡ Some e.initial
begun_by name params (Some r) (Some n) true e at h = begun_at (is_in_range r n) name params r n e at refl h
begun_by name params (Some r) (Some n) false e at h = cc
begun_by name params (Some r) None label e at h = cc
begun_by name params None n label e at h = cc

begun_of : (name : List ℕ) (found : Option Params) (e : ElementData) → slider_of name found ≡ Ok e → admitted e e.initial ≡ Some e.initial
begun_of name None e h = cc
begun_of name (Some params) e h = begun_by name params (range_at params) (number_at (codes "value") params) (has_text (param (codes "label") params)) e refl h

pub begun : (name : List ℕ) (args : Arguments) (e : ElementData) → made kind.Slider name args ≡ Ok e → admitted e e.initial ≡ Some e.initial
begun name args e h = begun_of name (params_of_call slider_parameters args) e h

-- the keys of pairs
abbrev keys_of : Params → List Data
keys_of params = map (λ (p : Data × Data). p.0) params

-- the keys after one was set
abbrev with_key : Data → List Data → List Data
with_key key [] = key ∷ []
with_key key (k ∷ ks) = cond (eq_of key k) (k ∷ ks) (k ∷ with_key key ks)

keys_set : (key item : Data) (params : Params) → keys_of (with_pair key item params) ≡ with_key key (keys_of params)
keys_set key item [] = refl
keys_set key item (p ∷ params) =
    elim (eq_of key p.0) as (λ b. keys_of (cond b ((p.0, item) ∷ params) (p ∷ with_pair key item params)) ≡ cond b (p.0 ∷ keys_of params) (p.0 ∷ with_key key (keys_of params))) [
      | true ↦ refl
      | false ↦ ap (λ (ks : List Data). p.0 ∷ ks) (keys_set key item params)
    ]

-- the keys after the names of parameters were set
abbrev with_names : List Parameter → List Data → List Data
with_names [] ks = ks
with_names (p ∷ ps) ks = with_names ps (with_key (D.Text p.name) ks)

keys_filled : (ps : List Parameter) (places : List Data) (words : Named) (earlier params : Params) → params_after ps places words earlier ≡ Some params → keys_of params ≡ with_names ps (keys_of earlier)
keys_filled [] [] words earlier params h = let is : params ≡ earlier = cc in ap keys_of is
keys_filled [] (d ∷ ds) words earlier params h = cc
keys_filled (p ∷ ps) places words earlier params h =
    elim (argument p places words earlier) as (λ o. option_and_then (λ d. params_after ps (drop 1 places) words (with_pair (D.Text p.name) d earlier)) o ≡ Some params → keys_of params ≡ with_names ps (with_key (D.Text p.name) (keys_of earlier))) [
      | None ↦ λ none. cc
      | Some d ↦ λ some. keys_filled ps (drop 1 places) words (with_pair (D.Text p.name) d earlier) params some ∙ ap (with_names ps) (keys_set (D.Text p.name) d earlier)
    ]
    h

keys_given : (b : Bool) (places : List Data) (words : Named) (params : Params) → cond b (params_after slider_parameters places words []) None ≡ Some params → keys_of params ≡ slider_names
keys_given true places words params h = keys_filled slider_parameters places words [] params h ∙ simp same_text
keys_given false places words params h = cc

ordered_at : (b : Bool) (name : List ℕ) (params : Params) (n : ℤ) (e : ElementData) → keys_of params ≡ slider_names → cond b (Ok (slider name params n)) (Err fault.Value) ≡ Ok e → keys_of e.params ≡ slider_names
ordered_at true name params n e keys h = let is : slider name params n ≡ e = cc in subst (λ (f : ElementData). keys_of f.params ≡ slider_names) is keys
ordered_at false name params n e keys h = cc

ordered_by : (name : List ℕ) (params : Params) (r : Option Range) (n : Option ℤ) (label : Bool) (e : ElementData) → keys_of params ≡ slider_names → slider_by name params r n label ≡ Ok e → keys_of e.params ≡ slider_names
ordered_by name params (Some r) (Some n) true e keys h = ordered_at (is_in_range r n) name params n e keys h
ordered_by name params (Some r) (Some n) false e keys h = cc
ordered_by name params (Some r) None label e keys h = cc
ordered_by name params None n label e keys h = cc

ordered_of : (name : List ℕ) (found : Option Params) (e : ElementData) → ((params : Params) → found ≡ Some params → keys_of params ≡ slider_names) → slider_of name found ≡ Ok e → keys_of e.params ≡ slider_names
ordered_of name None e keys h = cc
ordered_of name (Some params) e keys h = ordered_by name params (range_at params) (number_at (codes "value") params) (has_text (param (codes "label") params)) e (keys params refl) h

pub ordered : (name : List ℕ) (args : Arguments) (e : ElementData) → made kind.Slider name args ≡ Ok e → keys_of e.params ≡ slider_names
ordered name args e h =
    ordered_of name (params_of_call slider_parameters args) e (λ params. keys_given (are_words_of (drop (length args.places) slider_parameters) args.words) args.places args.words params) h
