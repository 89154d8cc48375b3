-- The next frame of an answer, and what is kept after it.
use Rattle.std.proofs.Common.{◌≡◌, ◌∙◌, refl, sym, ap, subst, ℕ, ◌+◌, ◌<◌, ◌≤◌, ◌≢◌, true, false, ◌==◌, List, [], ◌∷◌, ◌++◌, length, drop, get_or, get_or-set_same, get_or-set_other, arith}
use Rattle.std.specs.Prelude.{All, Some, None, flat_map, set, slice_get}
use Rattle.std.specs.Vec.{with_item}
use Rattle.std.proofs.Math.ListN.{length-set}
use Rattle.std.proofs.lemmas.Bool.Decides.{nat_tests}
use Rattle.std.proofs.lemmas.List.{drop_more, length-map}
use Rattle.std.proofs.lemmas.List.Elements.{All-head, All-tail}
use Rattle.std.proofs.lemmas.Option.{get_or_from_slice_get, slice_get_read, slice_get_within}
use Rattle.visit_meaning.proofs.FixedPoint.{code_there}
use Rattle.visit_meaning.proofs.Going.{Runs, going_next, next_result}
use Rattle.visit_meaning.proofs.Outcomes.{outcome_cell}
use Rattle.visit_meaning.specs.Answer.{Part, at_no_cost, results_of}
use Rattle.run_meaning.specs.Meaning.{Env}
use Rattle.visit_meaning.specs.Underway.{Going}
use Rattle.frames.specs.declared.frame.CellFrame.{CellFrame}
use Rattle.frames.specs.declared.frame.Frame.TheVariants as frame
use Rattle.py_tree.specs.Trees.{Cell}
use Rattle.py_tree.specs.View.{view_cell, view_cells}
use Rattle.py_tree.specs.declared.tree.CellCode.{CellCode}
use Rattle.kernel.specs.Pending.{cells_of, left_of}
use Rattle.kernel.specs.KernelState.{IsAfter, IsKept, IsPlain, StandsBy, outcome_at, visit_of}
use Rattle.kernel.specs.Visit.{Gives, first_cost, newest_in}
use Rattle.kernel.specs.declared.pending.Cells.{Cells}
use Rattle.kernel.specs.declared.pending.Pending.TheVariants as pending
use Rattle.kernel.specs.declared.state.KernelState.{KernelState}
use Rattle.kernel.specs.declared.state.Phase.{Phase}
use Rattle.kernel.specs.declared.state.Phase.TheVariants as phases
use Rattle.kernel.proofs.CellStep.{parents_ok}

-- ---- the cells that are left

-- the cell that is at a place
pub next_at : (xs ys : List ℕ) (i c : ℕ) → xs ≡ ys → i < length xs → c ≡ get_or xs i c → slice_get ys i ≡ Some c
next_at xs ys i c same h is = subst (λ zs. slice_get zs i ≡ Some c) same (slice_get_read xs (length xs) i c refl h is)

-- it is the first that is left there
cut : (xs : List ℕ) (i c : ℕ) → slice_get xs i ≡ Some c → drop i xs ≡ c ∷ drop (i + 1) xs
cut xs i c e = drop_more xs i c (slice_get_within xs i c e) ∙ ap (λ x. x ∷ drop (i + 1) xs) (get_or_from_slice_get xs i c c e)

-- what is kept, where these cells are to come from a place on
abbrev pub standing : KernelState → Cells → ℕ → KernelState
standing s cells taken = record s { pending = pending.Results cells taken }

-- what is kept after a cell
abbrev pub after : KernelState → Cells → ℕ → ℕ → Env → CellFrame → KernelState
after s cells taken c env f = record s { env = env; newest = with_item s.newest c (Some f); pending = pending.Results cells (taken + 1) }

-- Where a cell is left, the notebook is open.
on_by : (p : Phase) (s : KernelState) (c : ℕ) (cs : List ℕ) → left_of s.pending ≡ c ∷ cs → StandsBy p s → (p ≡ phases.On) × IsAfter s
on_by phases.Before s c cs e by = let no : [] ≡ c ∷ cs = sym by.left ∙ e in absurd cc
on_by phases.On s c cs e by = (refl, by)
on_by phases.Ended s c cs e by = let no : [] ≡ c ∷ cs = sym by.left ∙ e in absurd cc

runs_of : (s : KernelState) → IsKept s → Runs (view_cells s.notebook.now)
runs_of s kept = record { runnable = kept.runnable; once = kept.once; free = kept.free }

-- the cell is one of the notebook
pub cell_there : (s : KernelState) (cells : Cells) (taken c : ℕ) → IsKept (standing s cells taken) → slice_get (cells_of cells) taken ≡ Some c → c < length s.notebook.now
cell_there s cells taken c kept e =
    All-head (λ d. d < length s.notebook.now) c (drop (taken + 1) (cells_of cells)) (subst (All (λ d. d < length s.notebook.now)) (cut (cells_of cells) taken c e) kept.cells)

-- it has code
code_of : (cells : List CellCode) (c : ℕ) → c < length cells → (code : Cell) × (slice_get (view_cells cells) c ≡ Some code)
code_of cells c there = code_there (view_cells cells) c (omega (arith, there, length-map cells view_cell))

-- A cell of the notebook comes next.
pub record IsNext (s : KernelState) (cells : Cells) (taken c : ℕ) (code : Cell) : Type 0 where
  pub kept : IsKept (standing s cells taken)
  pub next : slice_get (cells_of cells) taken ≡ Some c
  pub code_is : slice_get (view_cells s.notebook.now) c ≡ Some code

pub next_here : (s : KernelState) (cells : Cells) (taken c : ℕ) → IsKept (standing s cells taken) → slice_get (cells_of cells) taken ≡ Some c
    → (code : Cell) × IsNext s cells taken c code
next_here s cells taken c kept next =
    let code = code_of s.notebook.now c (cell_there s cells taken c kept next) in
    (code.0, record { kept = kept; next = next; code_is = code.1 })

-- a count that rises by no more than this
pub at_most : (a b count count_after : ℕ) → a ≡ b → count_after ≤ count + b → count_after ≤ count + a
at_most a b count count_after same le = omega (arith, same, le)

-- It has run or was cancelled.
pub record Did (s : KernelState) (cells : Cells) (taken c : ℕ) (code : Cell) (env : Env) (f : CellFrame) : Type 0 where
  pub next : IsNext s cells taken c code
  pub frame : f ≡ (outcome_at s c code).frame
  pub env_is : env ≡ (outcome_at s c code).env
  pub plain : IsPlain env

module _ (s : KernelState) (cells : Cells) (taken c : ℕ) (code : Cell) where
  was : IsNext s cells taken c code → (s.phase ≡ phases.On) × IsAfter (standing s cells taken)
  was at = on_by s.phase (standing s cells taken) c (drop (taken + 1) (cells_of cells)) (cut (cells_of cells) taken c at.next) at.kept.stands

  going_here : IsNext s cells taken c code → Going (view_cells s.notebook.now) s.budget s.present (c ∷ drop (taken + 1) (cells_of cells)) s.env (newest_in s.newest.items)
  going_here at =
      subst (λ cs. Going (view_cells s.notebook.now) s.budget s.present cs s.env (newest_in s.newest.items)) (cut (cells_of cells) taken c at.next) (was at).1.going

  -- the part of an outcome of the cell
  abbrev part_here : CellFrame → Part
  part_here f = record { frame = frame.Cell f; cost = (outcome_at s c code).cost }

  -- its part is the first of those that are to come
  first_part : IsNext s cells taken c code
      → (visit_of false (standing s cells taken)).pending ≡ part_here (outcome_at s c code).frame ∷ (visit_of false (standing s cells (taken + 1))).pending
  first_part at =
      let nb : List Cell = view_cells s.notebook.now in
      let each = λ (k : ℕ). results_of nb s.budget s.present (k ∷ []) in
      let rest : List ℕ = drop (taken + 1) (cells_of cells) in
      let done : List Part = at_no_cost (frame.Done (length (cells_of cells))) ∷ [] in
      ap (λ cs. flat_map each cs ++ done) (cut (cells_of cells) taken c at.next)
      ∙ ap (λ ps. (ps ++ flat_map each rest) ++ done) (next_result nb s.budget s.present (runs_of (standing s cells taken) at.kept) (going_here at) at.code_is)

  -- what it costs
  pub first_costs : IsNext s cells taken c code → first_cost (visit_of false (standing s cells taken)).pending ≡ (outcome_at s c code).cost
  first_costs at = ap first_cost (first_part at)

module _ (s : KernelState) (cells : Cells) (taken c : ℕ) (code : Cell) (env : Env) (f : CellFrame) where
  here : Did s cells taken c code env f → newest_in (set s.newest.items c (Some f)) c ≡ Some (outcome_at s c code).frame
  here did =
      let there : c < length s.newest.items = omega (arith, did.next.kept.count, cell_there s cells taken c did.next.kept did.next.next) in
      get_or-set_same s.newest.items c (Some f) None there ∙ ap Some did.frame

  others : (a : ℕ) → (c == a) ≡ false → newest_in (set s.newest.items c (Some f)) a ≡ newest_in s.newest.items a
  others a apart = let ne : a ≢ c = grind (arith, nat_tests, apart) in get_or-set_other s.newest.items c a (Some f) None ne

  going_on : Did s cells taken c code env f → IsAfter (after s cells taken c env f)
  going_on did =
      let at = did.next in
      record {
        values = (was s cells taken c code at).1.values;
        going = subst
            (λ e. Going (view_cells s.notebook.now) s.budget s.present (drop (taken + 1) (cells_of cells)) e (newest_in (set s.newest.items c (Some f))))
            (sym did.env_is)
            (going_next (view_cells s.notebook.now) s.budget s.present (runs_of (standing s cells taken) at.kept) (going_here s cells taken c code at) at.code_is
            (newest_in (set s.newest.items c (Some f))) (here did) others);
      }

  -- it is kept that the cell is done
  pub did_kept : Did s cells taken c code env f → IsKept (after s cells taken c env f)
  did_kept did =
      let at = did.next in
      record {
        runnable = at.kept.runnable;
        once = at.kept.once;
        free = at.kept.free;
        count = length-set s.newest.items c (Some f) ∙ at.kept.count;
        plain = did.plain;
        cells = All-tail (λ d. d < length s.notebook.now) c (drop (taken + 1) (cells_of cells))
            (subst (All (λ d. d < length s.notebook.now)) (cut (cells_of cells) taken c at.next) at.kept.cells);
        within = (omega (arith, slice_get_within (cells_of cells) taken c at.next), at.kept.within.1);
        stands = subst (λ p. StandsBy p (after s cells taken c env f)) (sym (was s cells taken c code at).0) (going_on did);
      }

  -- and its frame is given
  pub did_gives : Did s cells taken c code env f → (given : CellFrame) → given ≡ f → (count count_after : ℕ)
      → count_after ≡ count + (outcome_at s c code).cost
      → Gives (frame.Cell given) (visit_of false (standing s cells taken)) (visit_of false (after s cells taken c env f)) count count_after
  did_gives did given same count count_after steps =
      let named : given.cell ≡ c = ap (λ (x : CellFrame). x.cell) (same ∙ did.frame) ∙ outcome_cell s.budget s.present (parents_ok s c) c s.env code in
      let rest : List Part = (visit_of false (standing s cells (taken + 1))).pending in
      record {
        cost = (outcome_at s c code).cost;
        pending = first_part s cells taken c code did.next ∙ ap (λ x. part_here s cells taken c code x ∷ rest) (sym (same ∙ did.frame));
        steps = steps;
        newest = ap (λ x. set s.newest.items c (Some x)) (sym same) ∙ ap (λ k. set s.newest.items k (Some given)) (sym named);
        state = refl;
        env = λ off. let no : true ≡ false = off in absurd cc;
        nb = refl;
        budget = refl;
        spoiled = refl;
      }
