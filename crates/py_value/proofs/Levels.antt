-- A value and the level that it is tell the same; so values, lists and pairs of one data are the same, and parts are less deep.
use Rattle.std.proofs.Common.{◌≡◌, ℕ, ◌<◌, ◌≤◌, List, [], ◌∷◌, length, get_or, arith, sym, ap, ◌∙◌, refl, zero, suc}
use Rattle.py_value.specs.declared.types.Data.{Data, out-Data, roll-Data}
use Rattle.py_value.specs.declared.types.Data.TheViews.{out-roll-Data, roll-out-Data}
use Rattle.py_value.specs.declared.types.Data.TheVariants.{rolls-None, rolls-Bool, rolls-Int, rolls-Text, rolls-List, rolls-Tuple, rolls-Dict, rolls-Element, rolls-Html}
use Rattle.py_value.specs.declared.types.Data.TheOpen.{Data-F}
use Rattle.py_value.specs.declared.types.Value.{Value}
use Rattle.py_value.specs.declared.types.Value.TheVariants as V
use Rattle.py_value.specs.declared.kinds.Kind.{Kind}
use Rattle.py_value.specs.ElementData.{ElementData, element}
use Rattle.py_value.specs.View.{data_of, value_of, value_step, all_of, pair_of, pairs_of}
use Rattle.py_value.specs.Depth.{depth_of, depth_of_all, depth_of_pairs, depth-List, depth-Tuple, depth-Dict, depth-Element}

-- the level that a value is
abbrev pub form_of : Value → Data-F Data
form_of V.None = Data-F.None
form_of (V.Bool b) = Data-F.Bool b
form_of (V.Int n) = Data-F.Int n
form_of (V.Text t) = Data-F.Text t
form_of (V.List items) = Data-F.List items
form_of (V.Tuple items) = Data-F.Tuple items
form_of (V.Dict pairs) = Data-F.Dict pairs
form_of (V.Element e) = Data-F.Element e.kind e.name e.params e.initial e.present
form_of (V.Html t) = Data-F.Html t

value_form : (v : Value) → value_step (form_of v) ≡ v
value_form V.None = refl
value_form (V.Bool b) = refl
value_form (V.Int n) = refl
value_form (V.Text t) = refl
value_form (V.List items) = refl
value_form (V.Tuple items) = refl
value_form (V.Dict pairs) = refl
value_form (V.Element e) = refl
value_form (V.Html t) = refl

rolled : (x : Data-F Data) → data_of (value_step x) ≡ roll-Data x
rolled Data-F.None = sym rolls-None
rolled (Data-F.Bool b) = sym (rolls-Bool b)
rolled (Data-F.Int n) = sym (rolls-Int n)
rolled (Data-F.Text t) = sym (rolls-Text t)
rolled (Data-F.List items) = sym (rolls-List items)
rolled (Data-F.Tuple items) = sym (rolls-Tuple items)
rolled (Data-F.Dict pairs) = sym (rolls-Dict pairs)
rolled (Data-F.Element kind name params initial present) = sym (rolls-Element kind name params initial present)
rolled (Data-F.Html t) = sym (rolls-Html t)

pub data_rolled : (v : Value) → data_of v ≡ roll-Data (form_of v)
data_rolled v = ap data_of (sym (value_form v)) ∙ rolled (form_of v)

pub value_of-data_of : (v : Value) → value_of (data_of v) ≡ v
value_of-data_of v = ap value_of (data_rolled v) ∙ ap value_step (out-roll-Data (form_of v)) ∙ value_form v

pub data_of-value_of : (d : Data) → data_of (value_of d) ≡ d
data_of-value_of d = rolled (out-Data d) ∙ roll-out-Data d

pub data_of_injective : (v w : Value) → data_of v ≡ data_of w → v ≡ w
data_of_injective v w h = sym (value_of-data_of v) ∙ ap value_of h ∙ value_of-data_of w

pub all_of_injective : (vs ws : List Value) → all_of vs ≡ all_of ws → vs ≡ ws
all_of_injective [] [] h = refl
all_of_injective [] (w ∷ ws) h = cc
all_of_injective (v ∷ vs) [] h = cc
all_of_injective (v ∷ vs) (w ∷ ws) h =
    let here : data_of v ≡ data_of w = cc in
    let rest : all_of vs ≡ all_of ws = cc in
    let e : v ≡ w = data_of_injective v w here in
    let f : vs ≡ ws = all_of_injective vs ws rest in cc

pair_of_injective : (p q : Value × Value) → pair_of p ≡ pair_of q → p ≡ q
pair_of_injective (a, b) (c, d) h =
    let e : a ≡ c = data_of_injective a c (ap (λ (p : Data × Data). p.0) h) in
    let f : b ≡ d = data_of_injective b d (ap (λ (p : Data × Data). p.1) h) in cc

pub pairs_of_injective : (ps qs : List (Value × Value)) → pairs_of ps ≡ pairs_of qs → ps ≡ qs
pairs_of_injective [] [] h = refl
pairs_of_injective [] (q ∷ qs) h = cc
pairs_of_injective (p ∷ ps) [] h = cc
pairs_of_injective (p ∷ ps) (q ∷ qs) h =
    let here : pair_of p ≡ pair_of q = cc in
    let rest : pairs_of ps ≡ pairs_of qs = cc in
    let e : p ≡ q = pair_of_injective p q here in
    let f : ps ≡ qs = pairs_of_injective ps qs rest in cc

pub depth_at : (vs : List Value) (i : ℕ) (d : Value) → i < length vs → depth_of (data_of (get_or vs i d)) ≤ depth_of_all (all_of vs)
depth_at [] i d h = omega arith
depth_at (v ∷ vs) zero d h = omega arith
depth_at (v ∷ vs) (suc i) d h = omega (arith, depth_at vs i d (omega arith))

pub depth_key : (ps : List (Value × Value)) (i : ℕ) (d : Value × Value) → i < length ps → depth_of (data_of (get_or ps i d).0) ≤ depth_of_pairs (pairs_of ps)
depth_key [] i d h = omega arith
depth_key (p ∷ ps) zero d h = omega arith
depth_key (p ∷ ps) (suc i) d h = omega (arith, depth_key ps i d (omega arith))

pub depth_item : (ps : List (Value × Value)) (i : ℕ) (d : Value × Value) → i < length ps → depth_of (data_of (get_or ps i d).1) ≤ depth_of_pairs (pairs_of ps)
depth_item [] i d h = omega arith
depth_item (p ∷ ps) zero d h = omega arith
depth_item (p ∷ ps) (suc i) d h = omega (arith, depth_item ps i d (omega arith))

same_parts : (k l : Kind) (s t : List ℕ) (ps qs : List (Data × Data)) (a b c d : Data) → k ≡ l → s ≡ t → ps ≡ qs → a ≡ b → c ≡ d → element k s ps a c ≡ element l t qs b d
same_parts k l s t ps qs a b c d same_kind same_name same_params same_initial same_present = cc

pub same_fields : (e f : ElementData) → e.kind ≡ f.kind → e.name ≡ f.name → e.params ≡ f.params → e.initial ≡ f.initial → e.present ≡ f.present → e ≡ f
same_fields e f kind name params initial present = same_parts _ _ _ _ _ _ _ _ _ _ kind name params initial present

-- what the proof of a recursion over values uses
pub ruleset levels = (depth-List, depth-Tuple, depth-Dict, depth-Element, depth_at, depth_key, depth_item, data_of_injective, all_of_injective, pairs_of_injective)
