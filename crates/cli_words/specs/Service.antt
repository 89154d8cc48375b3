-- The words' service, as definitions speak of it.
use Rattle.std.specs.Prelude.{ℕ, List, [], ◌∷◌, Option, Some, None}
use Rattle.command_meaning.specs.Services as meaning
use Rattle.cli_words.specs.declared.service.Service.{Service}

abbrev pub asked : Service → meaning.Service
asked s = record { file = s.file.now; port = s.port; workers = s.workers; visitors = s.visitors }

-- a first value and those behind it, or none
abbrev pub values_from : Option (List ℕ × List (List ℕ)) → List (List ℕ)
values_from None = []
values_from (Some p) = p.0 ∷ p.1
