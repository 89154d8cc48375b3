-- all words so far gave an option
use Rattle.std.proofs.Common.{◌≡◌, drop, map, string_bytes}
use Rattle.std.specs.List.{list_all}
use Rattle.command_meaning.specs.Services.{is_option}
use Rattle.cli_words.proofs.service.are_options.Given as goal

abbrev pub invariant-loop-word : goal.invariant-loop-word
invariant-loop-word l = list_all is_option (map string_bytes (drop l.word-index l.words)) ≡ list_all is_option (map string_bytes l.words)
