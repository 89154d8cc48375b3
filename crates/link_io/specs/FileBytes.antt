-- The files in memory.
use Rattle.std.specs.Prelude.{ℕ, if◌then◌else◌, List, [], ◌∷◌, Option, Some, None, string_bytes}
use Rattle.std.specs.Str.{bytes_eq}
use Rattle.link_io.specs.declared.mem_files.MemFile.{MemFile}

-- the bytes of the first file of the name
abbrev pub file_bytes : List MemFile → List ℕ → Option (List ℕ)
file_bytes [] name = None
file_bytes (f ∷ fs) name = if bytes_eq (string_bytes f.name) name then Some f.bytes.items else file_bytes fs name
