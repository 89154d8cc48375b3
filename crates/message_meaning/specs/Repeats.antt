-- Names that stand several times in an object.
use Rattle.std.specs.Prelude.{ℕ, cond, List, Option, None}
use Rattle.std.specs.Str.{bytes_eq}
use Rattle.json.specs.Json as json
use Rattle.serde_json.specs.Data.{Data}
use Rattle.serde_json.specs.Read.{of_json}

-- the last value of a name among members, as the text has them; where none has this name, what was found before
abbrev pub later_value : List ℕ → Option Data → json.Members → Option Data
later_value k found json.no_members = found
later_value k found (json.member l j js) = later_value k (cond (bytes_eq k l) (of_json j) found) js

abbrev pub last_value : List ℕ → json.Members → Option Data
last_value k js = later_value k None js
