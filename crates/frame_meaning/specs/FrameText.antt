-- The text of a frame: compact JSON, the members in the order of their names.
use Rattle.std.specs.Prelude.{ℕ, ◌/◌, ◌%◌, false, if◌then◌else◌, ◌==◌, ◌||◌, nat_lt, List, [], ◌∷◌, ◌++◌, codes, decimal, flat_map, map, Option, Some, None}
use Rattle.std.specs.List.{join_with_byte}
use Rattle.std.specs.Fmt.{digit_glyph}
use Rattle.py_value.specs.declared.error_kind.ErrorKind.{ErrorKind}
use Rattle.py_value.specs.declared.error_kind.ErrorKind.TheVariants as kind
use Rattle.frames.specs.declared.frame.Status.{Status}
use Rattle.frames.specs.declared.frame.Status.TheVariants as status
use Rattle.frames.specs.declared.frame.Output.{Output}
use Rattle.frames.specs.declared.frame.OutputKind.{OutputKind}
use Rattle.frames.specs.declared.frame.OutputKind.TheVariants as output
use Rattle.frames.specs.declared.frame.CellError.{CellError}
use Rattle.frames.specs.declared.frame.CellFrame.{CellFrame}
use Rattle.frames.specs.declared.frame.Frame.{Frame}
use Rattle.frames.specs.declared.frame.Frame.TheVariants as frame

-- What stands in a JSON string for a byte of a text: a quote, a backslash and five control characters have a short
-- escape, the other bytes below 32 have `\u00` and two digits, and each other byte stands for itself.
abbrev pub escaped_byte : ℕ → List ℕ
escaped_byte b =
    if (b == 34) || (b == 92) then 92 ∷ b ∷ []
    else if b == 8 then codes "\\b"
    else if b == 9 then codes "\\t"
    else if b == 10 then codes "\\n"
    else if b == 12 then codes "\\f"
    else if b == 13 then codes "\\r"
    else if nat_lt b 32 then codes "\\u00" ++ digit_glyph false (b / 16) ∷ digit_glyph false (b % 16) ∷ []
    else b ∷ []

-- a text as a JSON string
abbrev pub json_string : List ℕ → List ℕ
json_string text = 34 ∷ flat_map escaped_byte text ++ 34 ∷ []

-- `"NAME":VALUE`
abbrev pub member : List ℕ → List ℕ → List ℕ
member name value = json_string name ++ 58 ∷ value

-- members in braces, items in brackets, with commas between them
abbrev pub object : List (List ℕ) → List ℕ
object members = 123 ∷ join_with_byte 44 members ++ 125 ∷ []

abbrev pub array : List (List ℕ) → List ℕ
array items = 91 ∷ join_with_byte 44 items ++ 93 ∷ []

abbrev pub null : List ℕ
null = codes "null"

abbrev pub kind_name : ErrorKind → List ℕ
kind_name kind.NameError = codes "NameError"
kind_name kind.TypeError = codes "TypeError"
kind_name kind.ValueError = codes "ValueError"
kind_name kind.IndexError = codes "IndexError"
kind_name kind.KeyError = codes "KeyError"
kind_name kind.AttributeError = codes "AttributeError"
kind_name kind.ZeroDivisionError = codes "ZeroDivisionError"
kind_name kind.RuntimeError = codes "RuntimeError"
kind_name kind.RecursionError = codes "RecursionError"
kind_name kind.IntRange = codes "IntRange"
kind_name kind.Subset = codes "Subset"
kind_name kind.Spent = codes "Spent"

abbrev pub status_name : Status → List ℕ
status_name status.Ok = codes "ok"
status_name status.Error = codes "error"
status_name status.Stopped = codes "stopped"
status_name status.Cancelled = codes "cancelled"

abbrev pub output_name : OutputKind → List ℕ
output_name output.Plain = codes "plain"
output_name output.Html = codes "html"
output_name output.Element = codes "element"

abbrev pub error_text : Option CellError → List ℕ
error_text None = null
error_text (Some e) = object (member (codes "kind") (json_string (kind_name e.kind)) ∷ member (codes "line") (decimal e.line) ∷ [])

abbrev pub output_text : Option Output → List ℕ
output_text None = null
output_text (Some o) = object (member (codes "text") (json_string o.text) ∷ member (codes "type") (json_string (output_name o.kind)) ∷ [])

abbrev pub cell_text : CellFrame → List ℕ
cell_text f =
    object (
    member (codes "cell") (decimal f.cell) ∷
    member (codes "console") (array (map json_string f.console)) ∷
    member (codes "error") (error_text f.error) ∷
    member (codes "output") (output_text f.output) ∷
    member (codes "status") (json_string (status_name f.status)) ∷ []
    )

-- a refusal says what was refused, and for an element its name
abbrev pub refused_text : List ℕ → List ℕ
refused_text what = object (member (codes "refused") (json_string what) ∷ [])

abbrev pub named_refused_text : List ℕ → List ℕ → List ℕ
named_refused_text name what = object (member (codes "name") (json_string name) ∷ member (codes "refused") (json_string what) ∷ [])

abbrev pub frame_text : Frame → List ℕ
frame_text (frame.Cell f) = cell_text f
frame_text (frame.Done n) = object (member (codes "done") (decimal n) ∷ [])
frame_text frame.BadMessage = refused_text (codes "message")
frame_text frame.BadOrder = refused_text (codes "order")
frame_text (frame.NoElement name) = named_refused_text name (codes "element")
frame_text (frame.NoValue name) = named_refused_text name (codes "value")

-- one frame per line, each behind a label
abbrev pub labelled : List ℕ → List Frame → List ℕ
labelled label = flat_map (λ f. label ++ frame_text f ++ 10 ∷ [])

abbrev pub frame_lines : List Frame → List ℕ
frame_lines = labelled []
