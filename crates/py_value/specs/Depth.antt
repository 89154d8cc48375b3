-- How deep data nests: what falls in each recursion over values.
use Rattle.std.specs.Prelude.{◌≡◌, ℕ, ◌+◌, List, [], ◌∷◌, map, max}
use Rattle.std.proofs.Common.{sym, ap, ◌∙◌}
use Rattle.py_value.specs.declared.types.Data.{Data}
use Rattle.py_value.specs.declared.types.Data.TheVariants as D
use Rattle.py_value.specs.declared.types.Data.TheVariants.{rolls-List, rolls-Tuple, rolls-Dict, rolls-Element}
use Rattle.py_value.specs.declared.types.Data.TheOpen.{Data-F}
use Rattle.py_value.specs.declared.types.Data.TheFolds.{fold-Data, fold-roll-Data}
use Rattle.py_value.specs.ElementData.{ElementData}

-- the greatest of several
abbrev pub most_of : List ℕ → ℕ
most_of [] = 0
most_of (n ∷ ns) = max n (most_of ns)

abbrev pub most_of_pairs : List (ℕ × ℕ) → ℕ
most_of_pairs [] = 0
most_of_pairs (p ∷ ps) = max (max p.0 p.1) (most_of_pairs ps)

-- how deep a level nests, whose parts come as how deep they nest
abbrev pub depth_step : Data-F ℕ → ℕ
depth_step Data-F.None = 0
depth_step (Data-F.Bool b) = 0
depth_step (Data-F.Int n) = 0
depth_step (Data-F.Text t) = 0
depth_step (Data-F.List items) = most_of items + 1
depth_step (Data-F.Tuple items) = most_of items + 1
depth_step (Data-F.Dict pairs) = most_of_pairs pairs + 1
depth_step (Data-F.Element kind name params initial present) = max (most_of_pairs params + 1) (max initial present) + 1
depth_step (Data-F.Html t) = 0

abbrev pub depth_of : Data → ℕ
depth_of = fold-Data ℕ depth_step

abbrev pub depth_of_all : List Data → ℕ
depth_of_all items = most_of (map depth_of items)

abbrev pub depth_of_pairs : List (Data × Data) → ℕ
depth_of_pairs pairs = most_of_pairs (map (λ p. (depth_of p.0, depth_of p.1)) pairs)

abbrev pub depth_of_element : ElementData → ℕ
depth_of_element e = max (depth_of_pairs e.params + 1) (max (depth_of e.initial) (depth_of e.present))

-- the depth, level by level
pub depth-List : (items : List Data) → depth_of (D.List items) ≡ depth_of_all items + 1
depth-List items = ap (fold-Data ℕ depth_step) (sym (rolls-List items)) ∙ fold-roll-Data ℕ depth_step _

pub depth-Tuple : (items : List Data) → depth_of (D.Tuple items) ≡ depth_of_all items + 1
depth-Tuple items = ap (fold-Data ℕ depth_step) (sym (rolls-Tuple items)) ∙ fold-roll-Data ℕ depth_step _

pub depth-Dict : (pairs : List (Data × Data)) → depth_of (D.Dict pairs) ≡ depth_of_pairs pairs + 1
depth-Dict pairs = ap (fold-Data ℕ depth_step) (sym (rolls-Dict pairs)) ∙ fold-roll-Data ℕ depth_step _

pub depth-Element : (e : ElementData) → depth_of (D.Element e.kind e.name e.params e.initial e.present) ≡ depth_of_element e + 1
depth-Element e = ap (fold-Data ℕ depth_step) (sym (rolls-Element e.kind e.name e.params e.initial e.present)) ∙ fold-roll-Data ℕ depth_step _
