-- Notebooks that are served.
use Rattle.std.specs.Prelude.{◌≡◌, ℕ, cond, nat_lt, List, [], ◌++◌, All, length, codes, decimal, Option, Some, IfSome}
use Rattle.command_meaning.specs.Services.{Service}
use Rattle.link_io.specs.Doors.{IsUnvisited}
use Rattle.link_io.specs.Outside.{Took}
use Rattle.link_io.specs.Porches.{Seen, Stock, Stays}
use Rattle.program_meaning.specs.Program.{AreRead, FailsFirst, IsLoaded, Refusal, refusal_text, usual_budget}
use Rattle.py_tree.specs.Trees.{Cell}
use Rattle.ws_server.specs.Shares.{AreReported}
use Rattle.ws_server.specs.Visitors.{alone_in}
use Rattle.ws_server.specs.declared.report.Report.{Report}
use Rattle.nbserve.specs.Output.{Ended}

-- the line that is written for a report, and the status
abbrev pub report_line : Report → List ℕ
report_line r = codes "visitors " ++ decimal r.visitors ++ codes " closed " ++ decimal r.closed ++ codes " links " ++ decimal r.links
    ++ codes " memory " ++ decimal r.memory ++ codes " many " ++ decimal r.many ++ codes " doors " ++ decimal r.doors ++ codes "\n"

abbrev pub report_status : Report → ℕ
report_status r = cond (nat_lt 0 r.doors) 7 0

-- a door of which no call failed, and, where it tells that, through which nobody came
abbrev pub IsNewDoor : Seen → Type 0
IsNewDoor d = (d.faults ≡ 0) × IsUnvisited d.queue

-- The porch gave a new door for each worker, for the service's port, and where it tells its doors, the first of those that it had to give. Visitors came
-- through them and were served, as the report says, or memory was wanting first; and the doors were returned. If one of them had failed then, the
-- porch's count rose.
pub record IsServed (nb : List Cell) (service : Service) (before now : Option Stock) (failed : Type 0) (r : Report) : Type 0 where
  pub doors : List Seen
  pub returned : List Seen
  pub count : length doors ≡ service.workers
  pub unused : All IsNewDoor doors
  pub stock : IfSome before (λ b. (rest : List Seen) × (b.ahead ≡ doors ++ rest) × (now ≡ Some (record { ahead = rest; returned = returned; port = Some service.port })))
  pub report : AreReported (alone_in nb usual_budget) service.visitors doors returned r
  pub fault : (All (λ (d : Seen). d.faults ≡ 0) returned → ⊥) → failed

-- The status and the text of a file that isn't loaded: it is refused (1), or it couldn't be read (3).
pub data Misses (holds : List ℕ → Option (Option (List ℕ))) (unread : Type 0) (file : List ℕ) (status : ℕ) (text : List ℕ) : Type 0 where
  refused : (bytes : List ℕ) (why : Refusal) → AreRead holds file bytes → FailsFirst bytes why → status ≡ 1 → text ≡ refusal_text why
      → Misses holds unread file status text
  unread : unread → status ≡ 3 → text ≡ codes "read fault\n" → Misses holds unread file status text

-- What a service comes to, in what it answers and writes. Its visitors were served, and the report was written: 0, or 7 where a door failed. Or
-- the porch failed and gave no doors (7). Or the notebook wasn't loaded, and what the porch tells is as it was. Or memory was wanting, and nothing was
-- written (5). `unread`, `failed` and `unwritten` say that the counts of the files, the porch and the sink rose.
pub data ServesTo (holds : List ℕ → Option (Option (List ℕ))) (unread failed unwritten : Type 0) (service : Service) (status : ℕ) (before now : Option (List ℕ)) (stock stock_now : Option Stock) : Type 0 where
  served : (nb : List Cell) (r : Report) → IsLoaded holds service.file nb → IsServed nb service stock stock_now failed r
      → Ended (report_status r) (report_line r) status before now unwritten
      → ServesTo holds unread failed unwritten service status before now stock stock_now
  no_doors : (nb : List Cell) → IsLoaded holds service.file nb → failed → Stays stock stock_now
      → Ended 7 (codes "door fault\n") status before now unwritten
      → ServesTo holds unread failed unwritten service status before now stock stock_now
  missed : (come : ℕ) (text : List ℕ) → Misses holds unread service.file come text → Ended come text status before now unwritten → stock_now ≡ stock
      → ServesTo holds unread failed unwritten service status before now stock stock_now
  wanting : status ≡ 5 → Took before now [] → Stays stock stock_now
      → ServesTo holds unread failed unwritten service status before now stock stock_now
