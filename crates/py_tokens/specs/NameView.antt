-- The names of a file, as the code holds them.
use Rattle.std.specs.Prelude.{ℕ, List, map, Option, position, string_bytes}
use Rattle.std.specs.Str.{bytes_eq}
use Rattle.py_tokens.specs.declared.names.Names.{Names}

abbrev pub met : Names → List (List ℕ)
met names = map string_bytes names.texts.keys

-- where the name stands among them
abbrev pub place_of : List ℕ → Names → Option ℕ
place_of name names = position (λ other. bytes_eq name (string_bytes other)) names.texts.keys
