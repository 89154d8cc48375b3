-- no word gave a value so far
use Rattle.std.proofs.Common.{◌≡◌, length, map, string_bytes}
use Rattle.command_meaning.specs.Services.{values_of}
use Rattle.cli_words.proofs.service.first_value.Given as goal

abbrev pub invariant-loop-rest : goal.invariant-loop-rest
invariant-loop-rest l = values_of l.name (map string_bytes l.rest) ≡ values_of l.name (map string_bytes l.words)

abbrev pub decreases-loop-rest : goal.decreases-loop-rest
decreases-loop-rest l = length l.rest
