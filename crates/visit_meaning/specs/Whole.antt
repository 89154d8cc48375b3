-- The results of all cells when the whole notebook runs from nothing.
use Rattle.std.specs.Prelude.{ℕ, Bool, true, false, cond, not, ◌&&◌, ◌==◌, List, [], ◌∷◌, ◌++◌, Option, Some, None, slice_get, option_and_then}
use Rattle.std.specs.Fmt.{signed_decimal}
use Rattle.std.specs.List.{list_any, list_all}
use Rattle.py_tree.specs.Elements.{elements}
use Rattle.py_tree.specs.Names.{is_among, is_local}
use Rattle.py_tree.specs.Scope.{defs}
use Rattle.py_tree.specs.Trees.{Cell}
use Rattle.py_value.specs.Maps.{Map, where_name}
use Rattle.py_value.specs.Texts.{str_of, element_text}
use Rattle.py_value.specs.View.{data_of}
use Rattle.py_value.specs.declared.types.Value.{Value}
use Rattle.py_value.specs.declared.types.Value.TheVariants as V
use Rattle.py_value.specs.declared.error_kind.ErrorKind.TheVariants as errors
use Rattle.frames.specs.declared.frame.Status.{Status}
use Rattle.frames.specs.declared.frame.Status.TheVariants as status
use Rattle.frames.specs.declared.frame.Output.{Output}
use Rattle.frames.specs.declared.frame.OutputKind.TheVariants as output
use Rattle.frames.specs.declared.frame.CellError.{CellError}
use Rattle.frames.specs.declared.frame.CellFrame.{CellFrame}
use Rattle.graph_meaning.specs.Graph.{parents, order}
use Rattle.run_meaning.specs.Meaning.{Env, Flow}
use Rattle.run_meaning.specs.Spending.{Spending, Got, Failed, Spent, runs, cost_of, console_of}

-- what a value shows as the output of a cell; nothing where it is None
abbrev pub shown : Value → Option Output
shown V.None = None
shown (V.Int n) = Some (record { text = signed_decimal n; kind = output.Plain })
shown (V.Element e) = Some (record { text = element_text e; kind = output.Element })
shown (V.Html t) = Some (record { text = t; kind = output.Html })
shown v = Some (record { text = str_of (data_of v); kind = output.Plain })

-- the status, output and error of a cell that ran
abbrev pub status_of : Spending Flow → Status
status_of (Got flow left console) = status.Ok
status_of (Failed kind line left console) = status.Error
status_of (Spent line left console) = status.Error

abbrev pub output_of : Spending Flow → Option Output
output_of (Got flow left console) = option_and_then shown flow.last
output_of (Failed kind line left console) = None
output_of (Spent line left console) = None

abbrev pub error_of : Spending Flow → Option CellError
error_of (Got flow left console) = None
error_of (Failed kind line left console) = Some (record { kind = kind; line = line })
error_of (Spent line left console) = Some (record { kind = errors.Spent; line = line })

-- the result of a cell that ran
abbrev pub ran_frame : ℕ → Spending Flow → CellFrame
ran_frame c run =
    record { cell = c; status = status_of run; output = output_of run; console = console_of run; error = error_of run }

-- the result of a cell with a parent that isn't ok
abbrev pub cancelled_frame : ℕ → CellFrame
cancelled_frame c = record { cell = c; status = status.Cancelled; output = None; console = []; error = None }

-- the bindings without the definitions of a cell
abbrev pub without_defs : Cell → Env → Env
without_defs c env = where_name (λ x. not (is_among x (defs c))) env

-- The bindings after a run that began with `env`: names with a leading underscore vanish, and a cell that isn't ok defines
-- nothing.
abbrev pub env_after : Env → Spending Flow → Env
env_after env (Got flow left console) = where_name (λ x. not (is_local x)) flow.env
env_after env (Failed kind line left console) = env
env_after env (Spent line left console) = env

-- what a cell of the order does: its result, the bindings after it, and its cost
pub record Outcome : Type 0 where
  pub frame : CellFrame
  pub env : Env
  pub cost : ℕ

-- a cell that runs, from these bindings
abbrev pub ran : ℕ → Env → ℕ → Spending Flow → Outcome
ran c env budget run = record { frame = ran_frame c run; env = env_after env run; cost = cost_of budget run }

abbrev pub cancelled : ℕ → Env → Outcome
cancelled c env = record { frame = cancelled_frame c; env = env; cost = 0 }

-- The cell with the number c. Its definitions are removed first; it runs where it may, and else it is cancelled.
abbrev pub outcome_of : ℕ → Map Value → Bool → ℕ → Env → Cell → Outcome
outcome_of budget ui may_run c env code =
    let from = without_defs code env in
    cond may_run (ran c from budget (runs (record { own = elements code; present = ui }) from code.body budget)) (cancelled c from)

-- where the run of a notebook stands: the bindings, and the results and costs of the cells so far
pub record Progress : Type 0 where
  pub env : Env
  pub frames : List CellFrame
  pub costs : List ℕ

abbrev pub is_ok : Status → Bool
is_ok status.Ok = true
is_ok status.Error = false
is_ok status.Stopped = false
is_ok status.Cancelled = false

-- the cell has ended ok
abbrev pub ended_ok : List CellFrame → ℕ → Bool
ended_ok frames c = list_any (λ (f : CellFrame). (f.cell == c) && is_ok f.status) frames

abbrev pub with_outcome : Progress → Outcome → Progress
with_outcome p o = record { env = o.env; frames = p.frames ++ o.frame ∷ []; costs = p.costs ++ o.cost ∷ [] }

-- one cell of the order: it may run where all its parents have ended ok
abbrev pub with_code : List Cell → ℕ → Map Value → Progress → ℕ → Option Cell → Progress
with_code nb budget ui p c None = p
with_code nb budget ui p c (Some code) =
    with_outcome p (outcome_of budget ui (list_all (ended_ok p.frames) (parents nb c)) c p.env code)

abbrev pub with_cell : List Cell → ℕ → Map Value → Progress → ℕ → Progress
with_cell nb budget ui p c = with_code nb budget ui p c (slice_get nb c)

abbrev pub with_cells : List Cell → ℕ → Map Value → List ℕ → Progress → Progress
with_cells nb budget ui [] p = p
with_cells nb budget ui (c ∷ cs) p = with_cells nb budget ui cs (with_cell nb budget ui p c)

-- the whole notebook from nothing, in order, each cell with the budget, the elements at the values of `ui`
abbrev pub whole : List Cell → ℕ → Map Value → Progress
whole nb budget ui = with_cells nb budget ui (order nb) (record { env = []; frames = []; costs = [] })
