-- What a function that reads has returned.
use Rattle.std.specs.Prelude.{◌≡◌, ℕ, ◌≤◌, Option, Some, None, Result, Ok, Err}
use Rattle.std.specs.declared.alloc.AllocError.{AllocError}
use Rattle.syntax_reading.specs.Readers.{Read}
use Rattle.syntax_words.specs.WordView.{words_of}
use Rattle.syntax_words.specs.declared.word.Words.{Words}

-- what a function that reads something gives
abbrev pub Given : Type 0 → Type 0
Given X = Result (Option (X × Words)) AllocError

-- what reading gives, seen as pure data and words, unless memory ran out
abbrev pub Reads : {X Y : Type 0} → (X → Y) → Given X → Read Y → Type 0
Reads seen (Ok None) given = given ≡ None
Reads seen (Ok (Some p)) given = given ≡ Some (seen p.0, words_of p.1)
Reads seen (Err e) given = Unit {0}

-- what was read is at most so deep
abbrev pub Within : {X : Type 0} → (X → ℕ) → ℕ → Given X → Type 0
Within depth room (Ok None) = Unit {0}
Within depth room (Ok (Some p)) = depth p.0 ≤ room
Within depth room (Err e) = Unit {0}
