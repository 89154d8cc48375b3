-- Entries by their names.
use Rattle.std.specs.Prelude.{List, map, string_bytes, String}
use Rattle.std.specs.declared.alloc.Global.{Global}
use Rattle.py_value.specs.Maps.{Map}

abbrev pub name_entries : {V : Type 0} → List (String Global × V) → Map V
name_entries {V} entries = map (λ (e : String Global × V). (string_bytes e.0, e.1)) entries
