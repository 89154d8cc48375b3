-- Each part is less deep than what holds it.
use Rattle.std.specs.Prelude.{ℕ, ◌≤◌, List, [], ◌∷◌, map, max}
use Rattle.std.proofs.Common.{arith}
use denote.Param.Weighed.{most}
use Rattle.py_value.specs.declared.types.Value.{Value}
use Rattle.py_value.specs.declared.types.Value.TheVariants as V
use Rattle.py_value.specs.declared.types.Element.TheDeep.{deep-Value}
use Rattle.py_value.specs.View.{data_of}
use Rattle.py_value.specs.Depth.{depth_of, depth_of_all, depth_of_pairs, depth-List, depth-Tuple, depth-Dict, depth-Element}

pub fall : (v : Value) → deep-Value v ≤ depth_of (data_of v)
fall V.None = omega arith
fall (V.Bool b) = omega arith
fall (V.Int n) = omega arith
fall (V.Text t) = omega arith
fall (V.List items) = omega (arith, depth-List items)
fall (V.Tuple items) = omega (arith, depth-Tuple items)
fall (V.Dict pairs) = omega (arith, depth-Dict pairs)
fall (V.Element e) = omega (arith, depth-Element e)
fall (V.Html t) = omega arith

pub falls : (values : List Value) → max (most deep-Value values) 0 ≤ depth_of_all (map data_of values)
falls [] = omega arith
falls (v ∷ values) = omega (arith, falls values, fall v)

pub falls_pairs : (weight : Value × Value → ℕ) → ((p : Value × Value) → weight p ≤ max (depth_of (data_of p.0)) (depth_of (data_of p.1))) → (pairs : List (Value × Value)) → max (most weight pairs) 0 ≤ depth_of_pairs (map (λ (p : Value × Value). (data_of p.0, data_of p.1)) pairs)
falls_pairs weight low [] = omega arith
falls_pairs weight low (p ∷ pairs) = omega (arith, falls_pairs weight low pairs, low p)
