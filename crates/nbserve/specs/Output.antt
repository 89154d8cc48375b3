-- What a run of the program comes to.
use Rattle.std.specs.Prelude.{◌≡◌, ℕ, List, [], Option}
use Rattle.link_io.specs.Outside.{Took, TookLess}
use Rattle.program_meaning.specs.Program.{Comes}
use Rattle.nbserve.specs.Execution.{Carried}

-- The text of a status was written; or less than all of it, where a write failed (4); or nothing, where memory was wanting (5).
pub data Ended (status : ℕ) (text : List ℕ) (result : ℕ) (before now : Option (List ℕ)) (unwritten : Type 0) : Type 0 where
  whole : result ≡ status → Took before now text → Ended status text result before now unwritten
  cut : result ≡ 4 → unwritten → TookLess before now text → Ended status text result before now unwritten
  wanting : result ≡ 5 → Took before now [] → Ended status text result before now unwritten

-- What a run answers, writes and counts: the command of the words was carried out; or a test wasn't passed, no step was counted, and the line
-- that says so ended the run; or memory was wanting, nothing was written and no step counted (5). `holds` is what the names of files stand for,
-- where that is told; `unread` says that a read failed, and `unwritten` that a write failed.
pub data RunsTo (holds : List ℕ → Option (Option (List ℕ))) (unread unwritten : Type 0) (words : List (List ℕ)) (status : ℕ) (before now : Option (List ℕ)) (count count_after : ℕ) : Type 0 where
  carried : Carried holds words status before now unwritten count count_after → RunsTo holds unread unwritten words status before now count count_after
  stopped : (come : ℕ) (text : List ℕ) → (come ≡ 0 → ⊥) → Comes holds unread words come text → Ended come text status before now unwritten
      → count_after ≡ count → RunsTo holds unread unwritten words status before now count count_after
  wanting : status ≡ 5 → Took before now [] → count_after ≡ count → RunsTo holds unread unwritten words status before now count count_after
