-- Values that are sent, each of which its element admits: they are the values that are set.
use Rattle.std.proofs.Common.{◌≡◌, ◌∙◌, refl, ap, cond, List, [], ◌∷◌, map, is_none, Option, Some, None}
use Rattle.std.specs.Prelude.{option_and_then}
use Rattle.std.proofs.lemmas.Option.{none-some, option_and_then_some}
use Rattle.messages.specs.declared.message.SetItem.{SetItem}
use Rattle.py_tree.specs.Names.{Name}
use Rattle.py_value.specs.Maps.{Map}
use Rattle.py_value.specs.declared.types.Data.{Data}
use Rattle.py_value.specs.declared.types.Value.{Value}
use Rattle.run_meaning.specs.Meaning.{Env}
use Rattle.visit_meaning.specs.Answer.{first_unfit, first_unknown, names_of, value_set, value_sent, values_sent, with_sent}
use Rattle.visit_meaning.specs.Rerun.{AllSent, AllSet}
use Rattle.visit_meaning.proofs.SetValues.{element_there}

set_step : (env : Env) (x : Name) (o : Option Value) (sets : Map Value) (d : Data) → option_and_then (λ v. value_set env (x, v)) o ≡ Some d
    → AllSet env sets → AllSet env (with_sent x o sets)
set_step env x None sets d is all = absurd (none-some d is)
set_step env x (Some v) sets d is all = ((d, is), all)

-- Each of the values is set,
pub sent_set : (env : Env) (items : List SetItem) → AllSent env items → AllSet env (values_sent items)
sent_set env [] all = tt
sent_set env (i ∷ items) all = set_step env i.name i.value (values_sent items) all.0.0 all.0.1 (sent_set env items all.1)

names_step : (env : Env) (x : Name) (o : Option Value) (sets : Map Value) (d : Data) → option_and_then (λ v. value_set env (x, v)) o ≡ Some d
    → names_of (with_sent x o sets) ≡ x ∷ names_of sets
names_step env x None sets d is = absurd (none-some d is)
names_step env x (Some v) sets d is = refl

-- by the names of all items;
pub sent_names : (env : Env) (items : List SetItem) → AllSent env items → names_of (values_sent items) ≡ map (λ (i : SetItem). i.name) items
sent_names env [] all = refl
sent_names env (i ∷ items) all =
    names_step env i.name i.value (values_sent items) all.0.0 all.0.1 ∙ ap (λ names. i.name ∷ names) (sent_names env items all.1)

-- the elements are there,
pub none_unknown : (env : Env) (items : List SetItem) → AllSent env items → first_unknown env items ≡ None
none_unknown env [] all = refl
none_unknown env (i ∷ items) all =
    let sent = option_and_then_some (λ v. value_set env (i.name, v)) i.value all.0.0 all.0.1
    (λ v is more. ap (λ o. is_none o) (element_there env (i.name, v) all.0.0 more).1) in
    ap (λ b. cond b (Some i) (first_unknown env items)) sent ∙ none_unknown env items all.1

-- and the message isn't refused.
pub none_unfit : (env : Env) (items : List SetItem) → AllSent env items → first_unfit env items ≡ None
none_unfit env [] all = refl
none_unfit env (i ∷ items) all =
    ap (λ o. cond (is_none o) (Some i) (first_unfit env items)) all.0.1 ∙ none_unfit env items all.1

found : (env : Env) (i : SetItem) (items : List SetItem) (o : Option Data) → value_sent env i ≡ o
    → cond (is_none o) (Some i) (first_unfit env items) ≡ None → ((d : Data) × (value_sent env i ≡ Some d)) × (first_unfit env items ≡ None)
found env i items None is e = absurd (cc)
found env i items (Some d) is e = ((d, is), e)

-- Where no item is unfit, each value is sent so.
pub all_sent : (env : Env) (items : List SetItem) → first_unfit env items ≡ None → AllSent env items
all_sent env [] e = tt
all_sent env (i ∷ items) e =
    let both = found env i items (value_sent env i) refl e in (both.0, all_sent env items both.1)
