-- What a cell's run leaves.
use Rattle.std.specs.Prelude.{ℕ, not, List, Option, Some, None, option_and_then}
use Rattle.frames.specs.declared.frame.CellError.{CellError}
use Rattle.frames.specs.declared.frame.CellFrame.{CellFrame}
use Rattle.frames.specs.declared.frame.Status.{Status}
use Rattle.frames.specs.declared.frame.Status.TheVariants as status
use Rattle.run_meaning.specs.Meaning.{Env}
use Rattle.visit_meaning.specs.Whole as whole
use Rattle.py_eval.specs.declared.run.End.{End}
use Rattle.py_eval.specs.declared.run.End.TheVariants as end
use Rattle.py_eval.specs.declared.run.Ran.{Ran}
use Rattle.py_tree.specs.Names.{Name, is_among}
use Rattle.py_value.specs.Maps.{where_name}
use Rattle.py_value.specs.declared.error_kind.ErrorKind.TheVariants as errors

-- the status and error of a cell whose run ended so
abbrev pub status_after : End → Status
status_after end.Done = status.Ok
status_after (end.Fault kind line) = status.Error
status_after (end.Spent line) = status.Error

abbrev pub error_after : End → Option CellError
error_after end.Done = None
error_after (end.Fault kind line) = Some (record { kind = kind; line = line })
error_after (end.Spent line) = Some (record { kind = errors.Spent; line = line })

-- the result of a cell after its run
abbrev pub frame_after : ℕ → Ran → CellFrame
frame_after c r =
    record { cell = c; status = status_after r.end; output = option_and_then whole.shown r.last; console = r.console; error = error_after r.end }

-- what a cell leaves bound after its run: nothing that it defines where it isn't ok
abbrev pub settled : End → List Name → Env → Env
settled end.Done defs env = env
settled (end.Fault kind line) defs env = where_name (λ x. not (is_among x defs)) env
settled (end.Spent line) defs env = where_name (λ x. not (is_among x defs)) env
