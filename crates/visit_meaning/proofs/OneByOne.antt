-- Cells that run one by one: with each of them the bindings come closer to those of the whole.
use Rattle.std.proofs.Common.{◌≡◌, ◌∙◌, refl, sym, ap, subst, subst₂, ℕ, ◌<◌, length, Bool, true, false, ◌==◌, List, [], ◌∷◌, ◌++◌, Option, Some, filter, cond, slice_get, ◌⊎◌, inl, inr, ⊎_elim}
use Rattle.std.proofs.lemmas.Bool.{and_left, cases_Bool, false_from_ne_true, or_from, or_parts, both_ways}
use Rattle.py_tree.specs.Names.{Name, is_among}
use Rattle.py_tree.specs.Scope.{defs}
use Rattle.py_tree.specs.Trees.{Cell}
use Rattle.py_value.specs.Maps.{Map, look_up, IsSortedMap}
use Rattle.py_value.specs.declared.types.Value.{Value}
use Rattle.py_value.proofs.SortedMaps.{same_maps}
use Rattle.run_meaning.specs.declared.binding.Binding.{Binding}
use Rattle.frames.specs.declared.frame.CellFrame.{CellFrame}
use Rattle.graph_meaning.specs.Graph.{defs_of, edge, is_in, order, is_ready, IsPath, NoneDoubled}
use Rattle.run_meaning.specs.Meaning.{Env}
use Rattle.visit_meaning.specs.Runnable.{BindsDefined, MayRead, SameOutcome, itself, above, beside}
use Rattle.visit_meaning.specs.Underway.{AncestorsFirst, IsBut, Leads, defined_in, frame_at}
use Rattle.visit_meaning.specs.Whole.{Outcome, Progress, outcome_of, ended_ok, is_ok}
use Rattle.visit_meaning.proofs.InOrder.{ComesInOrder, comes_once, defined_nowhere, defines_edge, is_in_filter, is_last, one_definer, order_comes, some_at}
use Rattle.visit_meaning.proofs.FixedPoint.{RanSo, cost_at, defs_are, outcome_in}
use Rattle.graph_meaning.proofs.Orders.{from_cell, in_more, in_more_cases, parent_listed}
use Rattle.visit_meaning.proofs.Outcomes.{outcome_settles}

-- ---- cells without later ancestors

-- with a cell that is listed each of its parents is
abbrev IsClosed : List Cell → List ℕ → Type 0
IsClosed nb done = (a b : ℕ) → edge nb a b ≡ true → is_in b done ≡ true → is_in a done ≡ true

closed_next : (nb : List Cell) (done : List ℕ) (c : ℕ) → IsClosed nb done → is_ready nb done c ≡ true → IsClosed nb (done ++ c ∷ [])
closed_next nb done c closed ready a b e h = ⊎_elim
    (λ on. in_more a c done (closed a b e on))
    (λ same. in_more a c done (parent_listed nb done a c ready (subst (λ d. edge nb a d ≡ true) (sym same) e)))
    (in_more_cases b c done h)

-- so each cell that leads to one which is ready is listed
ancestors_listed : (nb : List Cell) (done : List ℕ) (a : ℕ) (between : List ℕ) (c : ℕ) → IsClosed nb done → is_ready nb done c ≡ true
    → IsPath nb (a ∷ between ++ c ∷ []) → is_in a done ≡ true
ancestors_listed nb done a [] c closed ready path = parent_listed nb done a c ready path.0
ancestors_listed nb done a (b ∷ between) c closed ready path =
    closed a b path.0 (ancestors_listed nb done b between c closed ready path.1)

comes_first : (nb : List Cell) (done cs : List ℕ) → IsClosed nb done → ComesInOrder nb done cs → AncestorsFirst nb cs
comes_first nb done [] closed comes = tt
comes_first nb done (c ∷ cs) closed comes = (
  (λ a leads. comes_once nb done (c ∷ cs) a comes (ancestors_listed nb done a leads.0 c closed comes.0 leads.1)),
  comes_once nb (done ++ c ∷ []) cs c comes.2 (is_last c done),
  comes_first nb (done ++ c ∷ []) cs (closed_next nb done c closed comes.0) comes.2,
)

not_kept : (t : ℕ → Bool) (a : ℕ) (cs : List ℕ) → is_in a cs ≡ false → is_in a (filter t cs) ≡ false
not_kept t a cs off = is_in_filter t a cs ∙ and_left (is_in a cs) (t a) off

-- ancestors are first among those cells that a test keeps
pub first_filter : (nb : List Cell) (t : ℕ → Bool) (cs : List ℕ) → AncestorsFirst nb cs → AncestorsFirst nb (filter t cs)
first_filter nb t [] h = tt
first_filter nb t (c ∷ cs) h =
    let rest = first_filter nb t cs h.2 in
    let none : (a : ℕ) → Leads nb a c → is_in a (c ∷ filter t cs) ≡ false =
    λ a e. let parts = or_parts (c == a) (is_in a cs) (h.0 a e) in or_from (c == a) (is_in a (filter t cs)) parts.0 (not_kept t a cs parts.1) in
    elim (t c) as (λ b. AncestorsFirst nb (cond b (c ∷ filter t cs) (filter t cs)))
    [ true ↦ (none, not_kept t c cs h.1, rest) | false ↦ rest ]

-- and the cells of the order
pub order_first : (nb : List Cell) → AncestorsFirst nb (order nb)
order_first nb = comes_first nb [] (order nb) (λ a b e h. h) (order_comes nb)

-- and the last ones
first_behind : (nb : List Cell) (before cs : List ℕ) → AncestorsFirst nb (before ++ cs) → AncestorsFirst nb cs
first_behind nb [] cs h = h
first_behind nb (b ∷ before) cs h = first_behind nb before cs h.2

-- A cell that defines what another may read leads to it.
pub definer_leads : (nb : List Cell) (c : ℕ) (x : Name) → NoneDoubled nb → (d : ℕ) → is_among x (defs_of nb d) ≡ true → MayRead nb c x → Leads nb d c
definer_leads nb c x once d defined (itself read) = ([], (defines_edge nb d c x read defined, tt))
definer_leads nb c x once d defined (above a leads read) = (a ∷ leads.0, (defines_edge nb d a x read defined, leads.1))
definer_leads nb c x once d defined (beside a leads here apart) = subst (λ b. Leads nb b c) (one_definer nb a d x once here defined) leads

-- a cell that leads to another is one of the notebook
pub leads_below : (nb : List Cell) (a c : ℕ) → Leads nb a c → a < length nb
leads_below nb a c ([], path) = from_cell nb a c path.0
leads_below nb a c (b ∷ between, path) = from_cell nb a b path.0

-- the last edge of a path
pub last_edge : (nb : List Cell) (a : ℕ) (between : List ℕ) (c : ℕ) → IsPath nb (a ∷ between ++ c ∷ [])
    → (edge nb a c ≡ true) ⊎ ((b : ℕ) × (edge nb b c ≡ true) × Leads nb a b)
last_edge nb a [] c path = inl path.0
last_edge nb a (b ∷ between) c path = ⊎_elim
    (λ edge. inr (b, edge, ([], (path.0, tt))))
    (λ last. inr (last.0, last.1, (b ∷ last.2.0, (path.0, last.2.1))))
    (last_edge nb b between c path.1)

-- What a cell may read is defined by none from it on.
reads_settled : (nb : List Cell) (c : ℕ) (cs : List ℕ) (x : Name) → NoneDoubled nb → AncestorsFirst nb (c ∷ cs) → MayRead nb c x
    → defined_in nb (c ∷ cs) x ≡ false
reads_settled nb c cs x once first read = false_from_ne_true (defined_in nb (c ∷ cs) x)
    (λ h.
    let w = some_at (λ a. is_among x (defs_of nb a)) (c ∷ cs) h in
    both_ways (is_in w.0 (c ∷ cs)) (first.0 w.0 (definer_leads nb c x once w.0 w.2 read)) w.1)

-- ---- bindings on their way

-- bindings on their way with no cell left are the goal
pub but_none : (nb : List Cell) (env goal : Env) → IsBut nb [] env goal → IsSortedMap goal → env ≡ goal
but_none nb env goal but sorted = same_maps env goal but.sorted sorted (λ x. but.same x refl)

-- they bind only names that cells define where the goal does
pub but_defined : (nb : List Cell) (left : List ℕ) (env goal : Env) → IsBut nb left env goal → BindsDefined nb goal → BindsDefined nb env
but_defined nb left env goal but within x none = but.same x (defined_nowhere nb left x none) ∙ within x none

-- the next cell brings its names to the goal
pub but_next : (nb : List Cell) (budget : ℕ) (ui : Map Value) (may_run : Bool) (c : ℕ) (code : Cell) (left : List ℕ) (env goal : Env)
    → slice_get nb c ≡ Some code → IsBut nb (c ∷ left) env goal
    → ((x : Name) → is_among x (defs code) ≡ true → look_up x (outcome_of budget ui may_run c env code).env ≡ look_up x goal)
    → IsBut nb left (outcome_of budget ui may_run c env code).env goal
but_next nb budget ui may_run c code left env goal e but defined =
    let settles = outcome_settles budget ui may_run c env code but.plain in
    record {
      same = λ x h. ⊎_elim
          (defined x)
          (λ other. settles.others x other ∙ but.same x (or_from (is_among x (defs_of nb c)) (defined_in nb left x) (defs_are nb c code x e ∙ other) h))
          (cases_Bool (is_among x (defs code)));
      plain = settles.plain;
      sorted = settles.sorted but.sorted;
    }

-- ---- one cell from bindings on their way

-- When a cell ran in the whole, what it may read was as the whole has it.
pub ran_reads : {nb : List Cell} {budget : ℕ} {ui : Map Value} {q : Progress} {c : ℕ} {code : Cell} → NoneDoubled nb
    → (r : RanSo nb budget ui (order nb) q c code) → (x : Name) → MayRead nb c x → look_up x r.env ≡ look_up x q.env
ran_reads {nb = nb} {c = c} once r x read =
    r.kept x (reads_settled nb c r.after x once (first_behind nb r.before (c ∷ r.after) (subst (AncestorsFirst nb) r.place (order_first nb))) read)

-- Bindings on their way to the whole's are so too, at what the next cell may read.
pub like_ran : (nb : List Cell) (budget : ℕ) (ui : Map Value) (left : List ℕ) (q : Progress) (c : ℕ) (code : Cell) (env : Env) → NoneDoubled nb
    → (r : RanSo nb budget ui (order nb) q c code) → AncestorsFirst nb (c ∷ left) → IsBut nb (c ∷ left) env q.env
    → (x : Name) → MayRead nb c x → look_up x env ≡ look_up x r.env
like_ran nb budget ui left q c code env once r first but x read =
    but.same x (reads_settled nb c left x once first read) ∙ sym (ran_reads once r x read)

-- A cell that has run has the result and the cost that it has in the whole, and the bindings after it are on their way.
pub record Reaches (nb : List Cell) (q : Progress) (c : ℕ) (left : List ℕ) (o : Outcome) : Type 0 where
  pub frame : frame_at q.frames c ≡ Some o.frame
  pub cost : cost_at q.frames q.costs c ≡ Some o.cost
  pub ended : ended_ok q.frames c ≡ is_ok o.frame.status
  pub but : IsBut nb left o.env q.env

-- The cell runs from bindings on their way, where its outcome is the same as from those that it ran from in the whole.
pub reaches : (nb : List Cell) (budget : ℕ) (ui : Map Value) (may_run : Bool) (cells left : List ℕ) (q : Progress) (c : ℕ) (code : Cell) (env : Env)
    → slice_get nb c ≡ Some code → (r : RanSo nb budget ui cells q c code) → IsBut nb (c ∷ left) env q.env
    → SameOutcome (defs code) (outcome_of budget ui may_run c env code) (outcome_in nb budget ui q.frames c r.env code)
    → Reaches nb q c left (outcome_of budget ui may_run c env code)
reaches nb budget ui may_run cells left q c code env e r but same = record {
  frame = r.frame ∙ ap Some (sym same.frame);
  cost = r.cost ∙ ap Some (sym same.cost);
  ended = r.ended ∙ ap (λ (f : CellFrame). is_ok f.status) (sym same.frame);
  but = but_next nb budget ui may_run c code left env q.env e but (λ x h. same.defined x h ∙ r.defined x h);
}

-- ---- one cell in two wholes

-- a cell has the same result and the same cost in two wholes
pub record SameResult (p q : Progress) (c : ℕ) : Type 0 where
  pub frame : frame_at p.frames c ≡ frame_at q.frames c
  pub cost : cost_at p.frames p.costs c ≡ cost_at q.frames q.costs c
  pub ended : ended_ok p.frames c ≡ ended_ok q.frames c

module _ (nb : List Cell) (budget : ℕ) (ui other : Map Value) (cells : List ℕ) (p q : Progress) (c : ℕ) (code : Cell)
    (r : RanSo nb budget ui cells p c code) (s : RanSo nb budget other cells q c code) where
  -- so it is where its outcome has the same result and the same cost in both
  pub same_result : (outcome_in nb budget ui p.frames c r.env code).frame ≡ (outcome_in nb budget other q.frames c s.env code).frame
      → (outcome_in nb budget ui p.frames c r.env code).cost ≡ (outcome_in nb budget other q.frames c s.env code).cost → SameResult p q c
  same_result frame cost = record {
    frame = r.frame ∙ ap Some frame ∙ sym s.frame;
    cost = r.cost ∙ ap Some cost ∙ sym s.cost;
    ended = r.ended ∙ ap (λ (f : CellFrame). is_ok f.status) frame ∙ sym s.ended;
  }

  -- The wholes are related at a name that it defines where its outcomes are.
  pub related_defined : (R : Option Binding → Option Binding → Type 0) (x : Name) → is_among x (defs code) ≡ true
      → R (look_up x (outcome_in nb budget ui p.frames c r.env code).env) (look_up x (outcome_in nb budget other q.frames c s.env code).env)
      → R (look_up x p.env) (look_up x q.env)
  related_defined R x h related = subst₂ R (r.defined x h) (s.defined x h) related
