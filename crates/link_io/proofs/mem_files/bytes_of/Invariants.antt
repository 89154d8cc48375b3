-- none of the files so far has the name
use Rattle.std.proofs.Common.{◌≡◌, drop}
use Rattle.link_io.specs.FileBytes.{file_bytes}
use Rattle.link_io.proofs.mem_files.bytes_of.Given as goal

abbrev pub invariant-loop-file : goal.invariant-loop-file
invariant-loop-file l = file_bytes (drop l.file-index l.files) l.name ≡ file_bytes l.files l.name
