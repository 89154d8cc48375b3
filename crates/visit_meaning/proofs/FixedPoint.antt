-- The whole notebook is determined cell by cell: each cell has the outcome that it has where its parents have ended as they end in the
-- whole, from bindings that have the names which neither it nor a later cell defines as the whole has them.
use Rattle.std.proofs.Common.{◌≡◌, ◌∙◌, refl, sym, ap, subst, ℕ, zero, suc, ◌<◌, Bool, true, false, cond, ◌&&◌, ◌||◌, ◌==◌, List, [], ◌∷◌, ◌++◌, length, map, Option, Some, None, slice_get, ⊎_elim, append_assoc, append-nil, length-append, ◌+◌, arith}
use Rattle.std.specs.List.{list_all}
use Rattle.std.proofs.lemmas.Bool.{cases_Bool, eq-eqb, eqb-true, and_left, or_cases, or_from, or_parts, both_ways}
use Rattle.std.proofs.lemmas.List.{length-map}
use Rattle.std.proofs.lemmas.List.Folds.{list_any-append}
use Rattle.std.proofs.lemmas.Option.{slice_get_within}
use Rattle.py_tree.specs.Names.{Name, is_among}
use Rattle.py_tree.specs.Scope.{defs, refs}
use Rattle.py_tree.specs.Trees.{Cell}
use Rattle.py_value.specs.Maps.{Map, look_up, IsSortedMap}
use Rattle.py_value.specs.declared.types.Value.{Value}
use Rattle.frames.specs.declared.frame.CellFrame.{CellFrame}
use Rattle.graph_meaning.specs.Graph.{names_at, defs_of, refs_of, edge, all_cells, is_in, parents, order, NoneDoubled, NoneCyclic}
use Rattle.run_meaning.specs.Meaning.{Env}
use Rattle.visit_meaning.specs.Runnable.{BindsDefined}
use Rattle.visit_meaning.specs.Underway.{HasNoLocals, defined_in, ended, frame_at}
use Rattle.visit_meaning.specs.Whole.{Outcome, Progress, outcome_of, ended_ok, is_ok, with_outcome, with_code, with_cell, with_cells, whole}
use Rattle.visit_meaning.proofs.InOrder.{ComesInOrder, EachOnce, all_agree, comes_once, defined_nowhere, defs_settled, is_last, order_comes, ready_unlisted}
use Rattle.graph_meaning.proofs.Orders.{free_is_listed, in_more_cases, parent_listed}
use Rattle.visit_meaning.proofs.Outcomes.{outcome_cell, outcome_settles}

-- the cells that have these frames
abbrev pub cells_of : List CellFrame → List ℕ
cells_of frames = map (λ (f : CellFrame). f.cell) frames

-- the cost of a cell
abbrev pub cost_at : List CellFrame → List ℕ → ℕ → Option ℕ
cost_at [] costs c = None
cost_at (f ∷ frames) [] c = None
cost_at (f ∷ frames) (n ∷ costs) c = cond (f.cell == c) (Some n) (cost_at frames costs c)

-- ---- one cell

-- what the cell does after this progress
abbrev next_outcome : List Cell → ℕ → Map Value → Progress → ℕ → Cell → Outcome
next_outcome nb budget ui p c code = outcome_of budget ui (list_all (ended_ok p.frames) (parents nb c)) c p.env code

cell_taken : (nb : List Cell) (budget : ℕ) (ui : Map Value) (p : Progress) (c : ℕ) (code : Cell) → slice_get nb c ≡ Some code
    → with_cell nb budget ui p c ≡ with_outcome p (next_outcome nb budget ui p c code)
cell_taken nb budget ui p c code e = ap (with_code nb budget ui p c) e

pub code_there : (nb : List Cell) (c : ℕ) → c < length nb → (code : Cell) × (slice_get nb c ≡ Some code)
code_there [] c h = absurd (omega arith)
code_there (d ∷ ds) zero h = (d, refl)
code_there (d ∷ ds) (suc c) h = code_there ds c (omega arith)

pub defs_are : (nb : List Cell) (c : ℕ) (code : Cell) (x : Name) → slice_get nb c ≡ Some code → is_among x (defs_of nb c) ≡ is_among x (defs code)
defs_are nb c code x e = ap (λ o. is_among x (names_at defs o)) e

pub refs_are : (nb : List Cell) (c : ℕ) (code : Cell) (x : Name) → slice_get nb c ≡ Some code → is_among x (refs_of nb c) ≡ is_among x (refs code)
refs_are nb c code x e = ap (λ o. is_among x (names_at refs o)) e

-- ---- cells one after the other

cells_of_both : (fs gs : List CellFrame) → cells_of (fs ++ gs) ≡ cells_of fs ++ cells_of gs
cells_of_both [] gs = refl
cells_of_both (f ∷ fs) gs = ap (λ cs. f.cell ∷ cs) (cells_of_both fs gs)

-- What these cells do to a progress: they change only the bindings of names that they define, and each has one frame and one cost.
pub record Adds (nb : List Cell) (cells : List ℕ) (p q : Progress) : Type 0 where
  pub others : (x : Name) → defined_in nb cells x ≡ false → look_up x q.env ≡ look_up x p.env
  pub plain : HasNoLocals q.env
  pub sorted : IsSortedMap p.env → IsSortedMap q.env
  pub frames : List CellFrame
  pub costs : List ℕ
  pub frames_are : q.frames ≡ p.frames ++ frames
  pub costs_are : q.costs ≡ p.costs ++ costs
  pub cells_are : cells_of frames ≡ cells
  pub long : length costs ≡ length cells

adds_none : (nb : List Cell) (p : Progress) → HasNoLocals p.env → Adds nb [] p p
adds_none nb p plain = record {
  others = λ x h. refl;
  plain = plain;
  sorted = λ s. s;
  frames = [];
  costs = [];
  frames_are = sym (append-nil p.frames);
  costs_are = sym (append-nil p.costs);
  cells_are = refl;
  long = refl;
}

adds_outcome : (nb : List Cell) (budget : ℕ) (ui : Map Value) (p : Progress) (c : ℕ) (code : Cell) → slice_get nb c ≡ Some code → HasNoLocals p.env
    → Adds nb (c ∷ []) p (with_outcome p (next_outcome nb budget ui p c code))
adds_outcome nb budget ui p c code e plain =
    let may_run = list_all (ended_ok p.frames) (parents nb c) in
    let o = next_outcome nb budget ui p c code in
    let settles = outcome_settles budget ui may_run c p.env code plain in
    record {
      others = λ x h. settles.others x (sym (defs_are nb c code x e) ∙ (or_parts _ false h).0);
      plain = settles.plain;
      sorted = settles.sorted;
      frames = o.frame ∷ [];
      costs = o.cost ∷ [];
      frames_are = refl;
      costs_are = refl;
      cells_are = ap (λ d. d ∷ []) (outcome_cell budget ui may_run c p.env code);
      long = refl;
    }

adds_cell : (nb : List Cell) (budget : ℕ) (ui : Map Value) (p : Progress) (c : ℕ) → c < length nb → HasNoLocals p.env
    → Adds nb (c ∷ []) p (with_cell nb budget ui p c)
adds_cell nb budget ui p c below plain =
    let there = code_there nb c below in
    subst (Adds nb (c ∷ []) p) (sym (cell_taken nb budget ui p c there.0 there.1)) (adds_outcome nb budget ui p c there.0 there.1 plain)

adds_both : (nb : List Cell) (cs ds : List ℕ) (p q r : Progress) → Adds nb cs p q → Adds nb ds q r → Adds nb (cs ++ ds) p r
adds_both nb cs ds p q r first later = record {
  others = λ x h.
      let parts = or_parts (defined_in nb cs x) (defined_in nb ds x) (sym (list_any-append (λ a. is_among x (defs_of nb a)) cs ds) ∙ h) in
      later.others x parts.1 ∙ first.others x parts.0;
  plain = later.plain;
  sorted = λ s. later.sorted (first.sorted s);
  frames = first.frames ++ later.frames;
  costs = first.costs ++ later.costs;
  frames_are = later.frames_are ∙ ap (λ fs. fs ++ later.frames) first.frames_are ∙ append_assoc p.frames first.frames later.frames;
  costs_are = later.costs_are ∙ ap (λ ns. ns ++ later.costs) first.costs_are ∙ append_assoc p.costs first.costs later.costs;
  cells_are = cells_of_both first.frames later.frames ∙ λ i. first.cells_are i ++ later.cells_are i;
  long = length-append first.costs later.costs ∙ (λ i. first.long i + later.long i) ∙ sym (length-append cs ds);
}

-- cells in order
adds_cells : (nb : List Cell) (budget : ℕ) (ui : Map Value) (done cs : List ℕ) (p : Progress) → ComesInOrder nb done cs → HasNoLocals p.env
    → Adds nb cs p (with_cells nb budget ui cs p)
adds_cells nb budget ui done [] p comes plain = adds_none nb p plain
adds_cells nb budget ui done (c ∷ cs) p comes plain =
    let first = adds_cell nb budget ui p c comes.1 plain in
    let q = with_cell nb budget ui p c in
    adds_both nb (c ∷ []) cs p q (with_cells nb budget ui cs q) first (adds_cells nb budget ui (done ++ c ∷ []) cs q comes.2 first.plain)

-- ---- the frame and the cost of a cell

frame_first : (fs : List CellFrame) (f : CellFrame) (gs : List CellFrame) (c : ℕ) → is_in c (cells_of fs) ≡ false → f.cell ≡ c
    → frame_at (fs ++ f ∷ [] ++ gs) c ≡ Some f
frame_first [] f gs c off is = ap (λ b. cond b (Some f) (frame_at gs c)) (eq-eqb f.cell c is)
frame_first (g ∷ fs) f gs c off is =
    let parts = or_parts (g.cell == c) _ off in
    ap (λ b. cond b (Some g) (frame_at (fs ++ f ∷ [] ++ gs) c)) parts.0 ∙ frame_first fs f gs c parts.1 is

cost_first : (fs : List CellFrame) (ns : List ℕ) (f : CellFrame) (n : ℕ) (gs : List CellFrame) (ms : List ℕ) (c : ℕ) → length ns ≡ length fs
    → is_in c (cells_of fs) ≡ false → f.cell ≡ c → cost_at (fs ++ f ∷ [] ++ gs) (ns ++ n ∷ [] ++ ms) c ≡ Some n
cost_first [] [] f n gs ms c long off is = ap (λ b. cond b (Some n) (cost_at gs ms c)) (eq-eqb f.cell c is)
cost_first [] (m ∷ ns) f n gs ms c long off is = absurd (omega arith)
cost_first (g ∷ fs) [] f n gs ms c long off is = absurd (omega arith)
cost_first (g ∷ fs) (m ∷ ns) f n gs ms c long off is =
    let parts = or_parts (g.cell == c) _ off in
    ap (λ b. cond b (Some m) (cost_at (fs ++ f ∷ [] ++ gs) (ns ++ n ∷ [] ++ ms) c)) parts.0
    ∙ cost_first fs ns f n gs ms c (omega arith) parts.1 is

-- frames of other cells don't say that the cell has ended ok
not_ended : (frames : List CellFrame) (a : ℕ) → is_in a (cells_of frames) ≡ false → ended_ok frames a ≡ false
not_ended [] a off = refl
not_ended (f ∷ frames) a off =
    let parts = or_parts (f.cell == a) _ off in
    or_from ((f.cell == a) && is_ok f.status) (ended_ok frames a) (and_left (f.cell == a) (is_ok f.status) parts.0) (not_ended frames a parts.1)

or_none : (b c : Bool) → c ≡ false → (b || c) ≡ b
or_none true c h = refl
or_none false c h = h

-- the one frame of the cell says it
ended_first : (fs : List CellFrame) (f : CellFrame) (gs : List CellFrame) (c : ℕ) → is_in c (cells_of fs) ≡ false → f.cell ≡ c
    → is_in c (cells_of gs) ≡ false → ended_ok (fs ++ f ∷ [] ++ gs) c ≡ is_ok f.status
ended_first [] f gs c off is none =
    ap (λ b. (b && is_ok f.status) || ended_ok gs c) (eq-eqb f.cell c is) ∙ or_none (is_ok f.status) (ended_ok gs c) (not_ended gs c none)
ended_first (g ∷ fs) f gs c off is none =
    let parts = or_parts (g.cell == c) _ off in
    ap (λ b. (b && is_ok g.status) || ended_ok (fs ++ f ∷ [] ++ gs) c) parts.0 ∙ ended_first fs f gs c parts.1 is none

-- where each cell has one frame, it is the newest one
pub ended_newest : (frames : List CellFrame) (c : ℕ) → EachOnce (cells_of frames) → ended (frame_at frames c) ≡ ended_ok frames c
ended_newest [] c once = refl
ended_newest (f ∷ frames) c once =
    let newest = λ (b : Bool). ended (cond b (Some f) (frame_at frames c)) in
    let some = λ (b : Bool). (b && is_ok f.status) || ended_ok frames c in
    ⊎_elim
    (λ same.
    let none : is_in c (cells_of frames) ≡ false = ap (λ a. is_in a (cells_of frames)) (sym (eqb-true f.cell c same)) ∙ once.0 in
    ap newest same ∙ sym (ap some same ∙ or_none (is_ok f.status) (ended_ok frames c) (not_ended frames c none)))
    (λ apart. ap newest apart ∙ ended_newest frames c once.1 ∙ sym (ap some apart))
    (cases_Bool (f.cell == c))

-- whether a cell has ended ok isn't changed by other cells
ended_before : (nb : List Cell) (cells : List ℕ) (p q : Progress) (a : ℕ) → Adds nb cells p q → is_in a cells ≡ false
    → ended_ok p.frames a ≡ ended_ok q.frames a
ended_before nb cells p q a adds off =
    let none : ended_ok adds.frames a ≡ false = not_ended adds.frames a (ap (is_in a) adds.cells_are ∙ off) in
    sym
    (ap (λ fs. ended_ok fs a) adds.frames_are ∙ list_any-append (λ (f : CellFrame). (f.cell == a) && is_ok f.status) p.frames adds.frames
    ∙ or_none (ended_ok p.frames a) (ended_ok adds.frames a) none)

-- ---- the fixed point

abbrev pub start : Progress
start = record { env = []; frames = []; costs = [] }

-- as many costs as frames
as_many : (nb : List Cell) (cells : List ℕ) (p : Progress) → Adds nb cells start p → length p.costs ≡ length p.frames
as_many nb cells p adds =
    ap length adds.costs_are ∙ adds.long ∙ sym (ap length adds.cells_are) ∙ length-map adds.frames (λ (f : CellFrame). f.cell) ∙ sym (ap length adds.frames_are)

-- the outcome of a cell from these bindings, where the cells have ended as these frames say
abbrev pub outcome_in : List Cell → ℕ → Map Value → List CellFrame → ℕ → Env → Cell → Outcome
outcome_in nb budget ui frames c env code = outcome_of budget ui (list_all (ended_ok frames) (parents nb c)) c env code

-- A cell stands once among the cells that ran in this order, with the outcome that it has from some bindings, where its parents have
-- ended as they end in the whole.
pub record RanSo (nb : List Cell) (budget : ℕ) (ui : Map Value) (cells : List ℕ) (q : Progress) (c : ℕ) (code : Cell) : Type 0 where
  -- the bindings when it ran, and the cells that ran before and after it
  pub env : Env
  pub before : List ℕ
  pub after : List ℕ
  pub place : cells ≡ before ++ c ∷ after
  pub first : is_in c before ≡ false
  pub last : is_in c after ≡ false
  -- its result, its cost, whether it has ended ok, and the names that it defines
  pub frame : frame_at q.frames c ≡ Some (outcome_in nb budget ui q.frames c env code).frame
  pub cost : cost_at q.frames q.costs c ≡ Some (outcome_in nb budget ui q.frames c env code).cost
  pub ended : ended_ok q.frames c ≡ is_ok (outcome_in nb budget ui q.frames c env code).frame.status
  pub defined : (x : Name) → is_among x (defs code) ≡ true → look_up x (outcome_in nb budget ui q.frames c env code).env ≡ look_up x q.env
  -- what those bindings have: the whole's at each name that neither it nor a later cell defines
  pub kept : (x : Name) → defined_in nb (c ∷ after) x ≡ false → look_up x env ≡ look_up x q.env
  -- no other names than those that cells before it define, and none with a leading underscore
  pub only : (x : Name) → defined_in nb before x ≡ false → look_up x env ≡ None
  pub plain : HasNoLocals env
  pub sorted : IsSortedMap env

-- so they bind only names that cells define
pub ran_defined : {nb : List Cell} {budget : ℕ} {ui : Map Value} {cells : List ℕ} {q : Progress} {c : ℕ} {code : Cell}
    → (r : RanSo nb budget ui cells q c code) → BindsDefined nb r.env
ran_defined {nb = nb} r x none = r.only x (defined_nowhere nb r.before x none)

module _ (nb : List Cell) (budget : ℕ) (ui : Map Value) (c : ℕ) (code : Cell) (e : slice_get nb c ≡ Some code) (once : NoneDoubled nb) where
  taken : (done ds : List ℕ) (p : Progress) → ComesInOrder nb done (c ∷ ds) → Adds nb done start p
      → RanSo nb budget ui (done ++ c ∷ ds) (with_cells nb budget ui ds (with_outcome p (next_outcome nb budget ui p c code))) c code
  taken done ds p comes so_far =
      let o = next_outcome nb budget ui p c code in
      let mid : Progress = with_outcome p o in
      let q : Progress = with_cells nb budget ui ds mid in
      let step = adds_outcome nb budget ui p c code e so_far.plain in
      let later = adds_cells nb budget ui (done ++ c ∷ []) ds mid comes.2 step.plain in
      let rest = adds_both nb (c ∷ []) ds p mid q step later in
      let listed : is_in c (done ++ c ∷ []) ≡ true = is_last c done in
      let may : list_all (ended_ok p.frames) (parents nb c) ≡ list_all (ended_ok q.frames) (parents nb c) =
      all_agree (λ a. edge nb a c) (ended_ok p.frames) (ended_ok q.frames) (all_cells nb)
      (λ a on. ended_before nb (c ∷ ds) p q a rest (comes_once nb done (c ∷ ds) a comes (parent_listed nb done a c comes.0 on))) in
      let same : o ≡ outcome_in nb budget ui q.frames c p.env code = ap (λ b. outcome_of budget ui b c p.env code) may in
      let absent : is_in c done ≡ false = ready_unlisted nb done c comes.0 in
      let unframed : is_in c (cells_of p.frames) ≡ false = ap (λ fs. is_in c (cells_of fs)) so_far.frames_are ∙ ap (is_in c) so_far.cells_are ∙ absent in
      let named : o.frame.cell ≡ c = outcome_cell budget ui (list_all (ended_ok p.frames) (parents nb c)) c p.env code in
      let others : (x : Name) → defined_in nb (c ∷ ds) x ≡ false → look_up x p.env ≡ look_up x q.env = λ x h. sym (rest.others x h) in
      record {
        env = p.env;
        before = done;
        after = ds;
        place = refl;
        first = absent;
        last = comes_once nb (done ++ c ∷ []) ds c comes.2 listed;
        frame = ap (λ fs. frame_at fs c) later.frames_are ∙ frame_first p.frames o.frame later.frames c unframed named ∙ ap (λ (o : Outcome). Some o.frame) same;
        cost = (λ i. cost_at (later.frames_are i) (later.costs_are i) c)
            ∙ cost_first p.frames p.costs o.frame o.cost later.frames later.costs c (as_many nb done p so_far) unframed named ∙ ap (λ (o : Outcome). Some o.cost) same;
        ended = ap (λ fs. ended_ok fs c) later.frames_are ∙ ended_first p.frames o.frame later.frames c unframed named (ap (is_in c) later.cells_are ∙ comes_once nb (done ++ c ∷ []) ds c comes.2 listed)
            ∙ ap (λ (o : Outcome). is_ok o.frame.status) same;
        defined = λ x h. ap (λ (o : Outcome). look_up x o.env) (sym same) ∙ sym (later.others x (defs_settled nb (done ++ c ∷ []) ds c x once comes.2 listed (defs_are nb c code x e ∙ h)));
        kept = others;
        only = so_far.others;
        plain = so_far.plain;
        sorted = so_far.sorted tt;
      }

  -- a cell of those that are left
  ran_within : (done cs : List ℕ) (p : Progress) → ComesInOrder nb done cs → Adds nb done start p → is_in c cs ≡ true
      → RanSo nb budget ui (done ++ cs) (with_cells nb budget ui cs p) c code
  ran_within done [] p comes so_far h = absurd (both_ways false refl h)
  ran_within done (d ∷ ds) p comes so_far h = ⊎_elim
      (λ same.
      let here : ComesInOrder nb done (c ∷ ds) → RanSo nb budget ui (done ++ c ∷ ds) (with_cells nb budget ui (c ∷ ds) p) c code =
      λ k. subst (λ q. RanSo nb budget ui (done ++ c ∷ ds) (with_cells nb budget ui ds q) c code) (sym (cell_taken nb budget ui p c code e)) (taken done ds p k so_far) in
      subst (λ d. ComesInOrder nb done (d ∷ ds) → RanSo nb budget ui (done ++ d ∷ ds) (with_cells nb budget ui (d ∷ ds) p) c code) (sym (eqb-true d c same)) here comes)
      (λ later.
      let q : Progress = with_cell nb budget ui p d in
      let next = adds_both nb done (d ∷ []) start p q so_far (adds_cell nb budget ui p d comes.1 so_far.plain) in
      subst (λ cells. RanSo nb budget ui cells (with_cells nb budget ui ds q) c code) (append_assoc done (d ∷ []) ds)
      (ran_within (done ++ d ∷ []) ds q comes.2 next later))
      (or_cases (d == c) _ h)

-- what the whole has: the frames of the cells in order, as many costs, and bindings in order of defined names alone
pub whole_adds : (nb : List Cell) (budget : ℕ) (ui : Map Value) → Adds nb (order nb) start (whole nb budget ui)
whole_adds nb budget ui = adds_cells nb budget ui [] (order nb) start (order_comes nb) (λ x h. refl)

-- each cell of the whole
pub ran_so : (nb : List Cell) (budget : ℕ) (ui : Map Value) (c : ℕ) (code : Cell) → slice_get nb c ≡ Some code → NoneDoubled nb → NoneCyclic nb
    → RanSo nb budget ui (order nb) (whole nb budget ui) c code
ran_so nb budget ui c code e once free =
    ran_within nb budget ui c code e once [] (order nb) start (order_comes nb) (adds_none nb start (λ x h. refl))
    (free_is_listed nb free c (slice_get_within nb c code e))

-- ---- the whole

-- one frame for each cell of the order, and one cost
pub whole_frames : (nb : List Cell) (budget : ℕ) (ui : Map Value) → cells_of (whole nb budget ui).frames ≡ order nb
whole_frames nb budget ui = let adds = whole_adds nb budget ui in ap cells_of adds.frames_are ∙ adds.cells_are

pub whole_costs : (nb : List Cell) (budget : ℕ) (ui : Map Value) → length (whole nb budget ui).costs ≡ length (whole nb budget ui).frames
whole_costs nb budget ui = as_many nb (order nb) (whole nb budget ui) (whole_adds nb budget ui)

-- it binds only names that cells define, none with a leading underscore, and in order
pub whole_only : (nb : List Cell) (budget : ℕ) (ui : Map Value) (x : Name) → defined_in nb (order nb) x ≡ false → look_up x (whole nb budget ui).env ≡ None
whole_only nb budget ui x h = (whole_adds nb budget ui).others x h

pub whole_defined : (nb : List Cell) (budget : ℕ) (ui : Map Value) → BindsDefined nb (whole nb budget ui).env
whole_defined nb budget ui x none = whole_only nb budget ui x (defined_nowhere nb (order nb) x none)

pub whole_plain : (nb : List Cell) (budget : ℕ) (ui : Map Value) → HasNoLocals (whole nb budget ui).env
whole_plain nb budget ui = (whole_adds nb budget ui).plain

pub whole_sorted : (nb : List Cell) (budget : ℕ) (ui : Map Value) → IsSortedMap (whole nb budget ui).env
whole_sorted nb budget ui = (whole_adds nb budget ui).sorted tt

-- What holds of no bindings, and is kept by each cell, holds of the whole's.
pub whole_keeps : (nb : List Cell) (budget : ℕ) (ui : Map Value) (P : Env → Type 0) → P []
    → ((may_run : Bool) (c : ℕ) (code : Cell) (env : Env) → slice_get nb c ≡ Some code → P env → P (outcome_of budget ui may_run c env code).env)
    → P (whole nb budget ui).env
whole_keeps nb budget ui P none keeps = cells (order nb) start none
  where
    one : (p : Progress) (c : ℕ) (o : Option Cell) → slice_get nb c ≡ o → P p.env → P (with_code nb budget ui p c o).env
    one p c None e h = h
    one p c (Some code) e h = keeps (list_all (ended_ok p.frames) (parents nb c)) c code p.env e h

    cells : (cs : List ℕ) (p : Progress) → P p.env → P (with_cells nb budget ui cs p).env
    cells [] p h = h
    cells (c ∷ cs) p h = cells cs (with_cell nb budget ui p c) (one p c (slice_get nb c) refl h)

-- ---- two wholes

-- What holds of a cell where it holds of its parents holds of all cells.
by_parents_in : (nb : List Cell) (P : ℕ → Type 0) (done cs : List ℕ) → ComesInOrder nb done cs → ((a : ℕ) → is_in a done ≡ true → P a)
    → ((c : ℕ) → c < length nb → ((a : ℕ) → edge nb a c ≡ true → P a) → P c) → (c : ℕ) → is_in c cs ≡ true → P c
by_parents_in nb P done [] comes before next c h = absurd (both_ways false refl h)
by_parents_in nb P done (d ∷ ds) comes before next c h =
    let here : P d = next d comes.1 (λ a e. before a (parent_listed nb done a d comes.0 e)) in
    ⊎_elim
    (λ same. subst P (eqb-true d c same) here)
    (λ later.
    by_parents_in nb P (done ++ d ∷ []) ds comes.2 (λ a k. ⊎_elim (before a) (λ same. subst P same here) (in_more_cases a d done k)) next c later)
    (or_cases (d == c) _ h)

pub by_parents : (nb : List Cell) → NoneCyclic nb → (P : ℕ → Type 0) → ((c : ℕ) → c < length nb → ((a : ℕ) → edge nb a c ≡ true → P a) → P c)
    → (c : ℕ) → c < length nb → P c
by_parents nb free P next c below =
    by_parents_in nb P [] (order nb) (order_comes nb) (λ a h. absurd (both_ways false refl h)) next c (free_is_listed nb free c below)

-- Where the parents of a cell have ended alike in two wholes, it may run in both or in neither.
pub may_run_alike : (nb : List Cell) (frames others : List CellFrame) (c : ℕ) → ((a : ℕ) → edge nb a c ≡ true → ended_ok frames a ≡ ended_ok others a)
    → list_all (ended_ok frames) (parents nb c) ≡ list_all (ended_ok others) (parents nb c)
may_run_alike nb frames others c same = all_agree (λ a. edge nb a c) (ended_ok frames) (ended_ok others) (all_cells nb) same
