-- The results of some cells of the whole, cell by cell.
use Rattle.std.proofs.Common.{◌≡◌, ◌∙◌, refl, sym, ap, subst, ℕ, ◌+◌, Bool, true, false, cond, ◌&&◌, ◌||◌, ◌==◌, List, [], ◌∷◌, ◌++◌, length, filter, sum, Option, Some, ⊎_elim, length-append, arith}
use Rattle.std.specs.Prelude.{flat_map, sum_by}
use Rattle.std.proofs.lemmas.Bool.{cases_Bool, and_left, eq-eqb, eqb-true, false_from_ne_true, or_cases, or_from, or_left, or_parts, or_right, both_ways}
use Rattle.std.proofs.lemmas.List.Sums.{sum_by-cons}
use Rattle.py_tree.specs.Trees.{Cell}
use Rattle.py_value.specs.Maps.{Map}
use Rattle.py_value.specs.declared.types.Value.{Value}
use Rattle.visit_meaning.specs.Answer.{Part, priced, results, results_of}
use Rattle.graph_meaning.specs.Graph.{is_in, order}
use Rattle.visit_meaning.specs.Underway.{frame_at}
use Rattle.visit_meaning.specs.Whole.{whole}
use Rattle.frames.specs.declared.frame.CellFrame.{CellFrame}
use Rattle.frames.specs.declared.frame.Frame.{Frame}
use Rattle.frames.specs.declared.frame.Frame.TheVariants as frame
use Rattle.visit_meaning.proofs.FixedPoint.{cells_of, cost_at, whole_frames, whole_costs}
use Rattle.visit_meaning.proofs.InOrder.{EachOnce, in_all, is_in_filter, order_once}

-- ---- lists of numbers

-- functions that agree at each number of the list
each_agree : {A : Type 0} (g h : ℕ → List A) (cs : List ℕ) → ((c : ℕ) → is_in c cs ≡ true → g c ≡ h c) → flat_map g cs ≡ flat_map h cs
each_agree g h [] same = refl
each_agree g h (c ∷ cs) same =
    let first = same c (or_left (c == c) _ (eq-eqb c c refl)) in
    let rest = each_agree g h cs (λ d k. same d (or_right (c == d) _ k)) in
    λ i. first i ++ rest i

-- tests that agree at each number of the list
filter_same : (p q : ℕ → Bool) (cs : List ℕ) → ((c : ℕ) → is_in c cs ≡ true → p c ≡ q c) → filter p cs ≡ filter q cs
filter_same p q [] same = refl
filter_same p q (c ∷ cs) same =
    let first = same c (or_left (c == c) _ (eq-eqb c c refl)) in
    let rest = filter_same p q cs (λ d k. same d (or_right (c == d) _ k)) in
    λ i. cond (first i) (c ∷ rest i) (rest i)

-- what a test keeps of a list, kept of it again
filter_kept : (t : ℕ → Bool) (cs : List ℕ) → filter (λ c. is_in c (filter t cs)) cs ≡ filter t cs
filter_kept t cs = filter_same (λ c. is_in c (filter t cs)) t cs (λ c h. is_in_filter t c cs ∙ ap (λ b. b && t c) h)

keeps_all : {A : Type 0} (xs : List A) → filter (λ x. true) xs ≡ xs
keeps_all [] = refl
keeps_all (x ∷ xs) = ap (λ ys. x ∷ ys) (keeps_all xs)

-- a number is the only one of a list of one where it is the same the other way round
the_one : (a b : ℕ) → ((a == b) || false) ≡ (b == a)
the_one a b = ⊎_elim
    (λ same. or_left (a == b) false same ∙ sym (eq-eqb b a (sym (eqb-true a b same))))
    (λ apart. or_from (a == b) false apart refl
    ∙ sym (false_from_ne_true (b == a) (λ same. both_ways _ apart (eq-eqb a b (sym (eqb-true b a same))))))
    (cases_Bool (a == b))

-- ---- parts

abbrev passes : (ℕ → Bool) → Frame → Bool
passes t (frame.Cell f) = t f.cell
passes t f = false

-- the parts of the cells that pass a test, and those of one cell
abbrev kept : (ℕ → Bool) → List CellFrame → List ℕ → List Part
kept t frames costs = filter (λ (p : Part). passes t p.frame) (priced frames costs)

abbrev kept_of : List CellFrame → List ℕ → ℕ → List Part
kept_of frames costs c = kept (λ a. is_in a (c ∷ [])) frames costs

-- a frame and a cost, where both are there
abbrev part_of : Option CellFrame → Option ℕ → List Part
part_of (Some f) (Some n) = record { frame = frame.Cell f; cost = n } ∷ []
part_of f n = []

-- a cell without a frame has no part
none_of : (frames : List CellFrame) (costs : List ℕ) (c : ℕ) → is_in c (cells_of frames) ≡ false → kept_of frames costs c ≡ []
none_of [] costs c off = refl
none_of (f ∷ frames) [] c off = refl
none_of (f ∷ frames) (n ∷ costs) c off =
    let parts = or_parts (f.cell == c) _ off in
    let rest : List Part = kept_of frames costs c in
    ap (λ b. cond b (record { frame = frame.Cell f; cost = n } ∷ rest) rest) (the_one c f.cell ∙ parts.0) ∙ none_of frames costs c parts.1

-- a cell of other frames has its parts among theirs
later_of : (f : CellFrame) (n : ℕ) (frames : List CellFrame) (costs : List ℕ) (c : ℕ) → (f.cell == c) ≡ false
    → kept_of (f ∷ frames) (n ∷ costs) c ≡ kept_of frames costs c
later_of f n frames costs c apart =
    let rest : List Part = kept_of frames costs c in
    ap (λ b. cond b (record { frame = frame.Cell f; cost = n } ∷ rest) rest) (the_one c f.cell ∙ apart)

-- the cell of the first frame has this one alone, where each cell has one frame
first_of : (f : CellFrame) (n : ℕ) (frames : List CellFrame) (costs : List ℕ) (c : ℕ) → (f.cell == c) ≡ true → is_in f.cell (cells_of frames) ≡ false
    → kept_of (f ∷ frames) (n ∷ costs) c ≡ record { frame = frame.Cell f; cost = n } ∷ []
first_of f n frames costs c same off =
    let rest : List Part = kept_of frames costs c in
    ap (λ b. cond b (record { frame = frame.Cell f; cost = n } ∷ rest) rest) (the_one c f.cell ∙ same)
    ∙ ap (λ ps. record { frame = frame.Cell f; cost = n } ∷ ps)
    (none_of frames costs c (ap (λ a. is_in a (cells_of frames)) (sym (eqb-true f.cell c same)) ∙ off))

-- The part of a cell is its frame with its cost.
one_of : (frames : List CellFrame) (costs : List ℕ) (c : ℕ) → length costs ≡ length frames → EachOnce (cells_of frames)
    → kept_of frames costs c ≡ part_of (frame_at frames c) (cost_at frames costs c)
one_of [] costs c long once = refl
one_of (f ∷ frames) [] c long once = absurd (omega arith)
one_of (f ∷ frames) (n ∷ costs) c long once =
    let found = λ (b : Bool). part_of (cond b (Some f) (frame_at frames c)) (cond b (Some n) (cost_at frames costs c)) in
    ⊎_elim
    (λ same. first_of f n frames costs c same once.0 ∙ sym (ap found same))
    (λ apart. later_of f n frames costs c apart ∙ one_of frames costs c (omega arith) once.1 ∙ sym (ap found apart))
    (cases_Bool (f.cell == c))

-- a cell with a frame has one part
long_of : (frames : List CellFrame) (costs : List ℕ) (c : ℕ) → length costs ≡ length frames → EachOnce (cells_of frames)
    → is_in c (cells_of frames) ≡ true → length (kept_of frames costs c) ≡ 1
long_of [] costs c long once on = absurd (both_ways false refl on)
long_of (f ∷ frames) [] c long once on = absurd (omega arith)
long_of (f ∷ frames) (n ∷ costs) c long once on = ⊎_elim
    (λ same. ap length (first_of f n frames costs c same once.0))
    (λ apart. ap length (later_of f n frames costs c apart) ∙ long_of frames costs c (omega arith) once.1
    (⊎_elim (λ same. absurd (both_ways _ apart same)) (λ later. later) (or_cases (f.cell == c) _ on)))
    (cases_Bool (f.cell == c))

-- a number that isn't the first is another one than those in a list that the first isn't in
other_cell : (d c : ℕ) (t : ℕ → Bool) (cs : List ℕ) → is_in d cs ≡ false → is_in c (filter t cs) ≡ true → (d == c) ≡ false
other_cell d c t cs off on = false_from_ne_true (d == c)
    (λ same.
    let fails : is_in d (filter t cs) ≡ false = is_in_filter t d cs ∙ and_left (is_in d cs) (t d) off in
    both_ways (is_in c (filter t cs)) (ap (λ n. is_in n (filter t cs)) (sym (eqb-true d c same)) ∙ fails) on)

-- The parts of cells that pass a test are those of each of them, one after the other.
cell_by_cell : (t : ℕ → Bool) (frames : List CellFrame) (costs : List ℕ) → length costs ≡ length frames → EachOnce (cells_of frames)
    → kept t frames costs ≡ flat_map (kept_of frames costs) (filter t (cells_of frames))
cell_by_cell t [] costs long once = refl
cell_by_cell t (f ∷ frames) [] long once = absurd (omega arith)
cell_by_cell t (f ∷ frames) (n ∷ costs) long once =
    let cs : List ℕ = filter t (cells_of frames) in
    let others : List Part = kept t frames costs in
    let here : kept_of (f ∷ frames) (n ∷ costs) f.cell ≡ record { frame = frame.Cell f; cost = n } ∷ [] =
    first_of f n frames costs f.cell (eq-eqb f.cell f.cell refl) once.0 in
    let rest : others ≡ flat_map (kept_of (f ∷ frames) (n ∷ costs)) cs =
    cell_by_cell t frames costs (omega arith) once.1
    ∙ sym (each_agree (kept_of (f ∷ frames) (n ∷ costs)) (kept_of frames costs) cs
    (λ c h. later_of f n frames costs c (other_cell f.cell c t (cells_of frames) once.0 h))) in
    elim (t f.cell) as (λ b. cond b (record { frame = frame.Cell f; cost = n } ∷ others) others
    ≡ flat_map (kept_of (f ∷ frames) (n ∷ costs)) (cond b (f.cell ∷ cs) cs))
    [ true ↦ (λ i. sym here i ++ rest i) | false ↦ rest ]

-- each part is that of a cell
all_kept : (frames : List CellFrame) (costs : List ℕ) → kept (λ c. true) frames costs ≡ priced frames costs
all_kept [] costs = refl
all_kept (f ∷ frames) [] = refl
all_kept (f ∷ frames) (n ∷ costs) = ap (λ ps. record { frame = frame.Cell f; cost = n } ∷ ps) (all_kept frames costs)

costs_in : (frames : List CellFrame) (costs : List ℕ) → length costs ≡ length frames → sum_by (λ (p : Part). p.cost) (priced frames costs) ≡ sum costs
costs_in [] [] long = refl
costs_in [] (n ∷ costs) long = absurd (omega arith)
costs_in (f ∷ frames) [] long = absurd (omega arith)
costs_in (f ∷ frames) (n ∷ costs) long =
    sum_by-cons (λ (p : Part). p.cost) (record { frame = frame.Cell f; cost = n }) (priced frames costs)
    ∙ ap (λ r. n + r) (costs_in frames costs (omega arith)) ∙ sym (sum_by-cons (λ x. x) n costs)

-- ---- the whole

-- each cell of the whole has one frame
pub once_framed : (nb : List Cell) (budget : ℕ) (ui : Map Value) → EachOnce (cells_of (whole nb budget ui).frames)
once_framed nb budget ui = subst EachOnce (sym (whole_frames nb budget ui)) (order_once nb)

module _ (nb : List Cell) (budget : ℕ) (ui : Map Value) where
  -- the result of a cell is its frame in the whole, with its cost
  pub one_result : (c : ℕ) (f : CellFrame) (n : ℕ) → frame_at (whole nb budget ui).frames c ≡ Some f
      → cost_at (whole nb budget ui).frames (whole nb budget ui).costs c ≡ Some n
      → results_of nb budget ui (c ∷ []) ≡ record { frame = frame.Cell f; cost = n } ∷ []
  one_result c f n framed costs =
      one_of (whole nb budget ui).frames (whole nb budget ui).costs c (whole_costs nb budget ui) (once_framed nb budget ui)
      ∙ λ i. part_of (framed i) (costs i)

  -- The results of cells of the order that pass a test are those of each of them, one after the other.
  pub results_one_by_one : (t : ℕ → Bool)
      → results_of nb budget ui (filter t (order nb)) ≡ flat_map (λ c. results_of nb budget ui (c ∷ [])) (filter t (order nb))
  results_one_by_one t =
      cell_by_cell (λ c. is_in c (filter t (order nb))) (whole nb budget ui).frames (whole nb budget ui).costs
      (whole_costs nb budget ui) (once_framed nb budget ui)
      ∙ ap (flat_map (λ c. results_of nb budget ui (c ∷ [])))
      (ap (filter (λ c. is_in c (filter t (order nb)))) (whole_frames nb budget ui) ∙ filter_kept t (order nb))

  -- and so are the results of all cells
  pub all_results_one_by_one : results nb budget ui ≡ flat_map (λ c. results_of nb budget ui (c ∷ [])) (order nb)
  all_results_one_by_one =
      sym (all_kept (whole nb budget ui).frames (whole nb budget ui).costs)
      ∙ cell_by_cell (λ c. true) (whole nb budget ui).frames (whole nb budget ui).costs (whole_costs nb budget ui) (once_framed nb budget ui)
      ∙ ap (flat_map (λ c. results_of nb budget ui (c ∷ []))) (keeps_all (cells_of (whole nb budget ui).frames) ∙ whole_frames nb budget ui)

  -- cells of the order have one result each
  pub one_each : (cells : List ℕ) → ((c : ℕ) → is_in c cells ≡ true → is_in c (order nb) ≡ true)
      → length (flat_map (λ c. results_of nb budget ui (c ∷ [])) cells) ≡ length cells
  one_each [] within = refl
  one_each (c ∷ cells) within =
      let here : length (results_of nb budget ui (c ∷ [])) ≡ 1 =
      long_of (whole nb budget ui).frames (whole nb budget ui).costs c (whole_costs nb budget ui) (once_framed nb budget ui)
      (ap (is_in c) (whole_frames nb budget ui) ∙ within c (or_left (c == c) _ (eq-eqb c c refl))) in
      let rest : length (flat_map (λ c. results_of nb budget ui (c ∷ [])) cells) ≡ length cells =
      one_each cells (λ d h. within d (or_right (c == d) _ h)) in
      length-append (results_of nb budget ui (c ∷ [])) (flat_map (λ c. results_of nb budget ui (c ∷ [])) cells) ∙ (λ i. here i + rest i) ∙ omega arith

  pub one_each_all : length (flat_map (λ c. results_of nb budget ui (c ∷ [])) (order nb)) ≡ length (order nb)
  one_each_all = one_each (order nb) (λ c h. h)

  pub one_each_kept : (t : ℕ → Bool) → length (flat_map (λ c. results_of nb budget ui (c ∷ [])) (filter t (order nb))) ≡ length (filter t (order nb))
  one_each_kept t = one_each (filter t (order nb)) (λ c. in_all t c (order nb))

  -- the costs of all results, and their frames, are those of the whole
  pub all_costs : sum_by (λ (p : Part). p.cost) (results nb budget ui) ≡ sum (whole nb budget ui).costs
  all_costs = costs_in (whole nb budget ui).frames (whole nb budget ui).costs (whole_costs nb budget ui)
