-- What a run of the program comes to, a server's among them.
use Rattle.std.specs.Prelude.{◌≡◌, ◌⊎◌, ℕ, ◌<◌, ◌≤◌, All, List, codes, Option, None, Some}
use Rattle.command_meaning.specs.Commands.{command_of}
use Rattle.command_meaning.specs.Services.{Service, service_of}
use Rattle.link_io.specs.Outside.{Took}
use Rattle.link_io.specs.Porches.{Seen, Stays, Stock}
use Rattle.program_meaning.specs.Program.{IsAccepted, IsRefused, read_of, usual_budget}
use Rattle.py_tree.specs.Trees.{Cell}
use Rattle.ws_server.specs.Told.{Tells}
use Rattle.ws_server.specs.Visitors.{alone_in}
use Rattle.ws_server.specs.declared.report.Report.{Report}
use Rattle.nbserve.specs.Output.{RunsTo}
use Rattle.nbserve.specs.Service.{IsServed, ServesTo, report_line}
use Rattle.nbserve.specs.Shows.{Shows}

-- Words that ask for no service are a command's, or no form, and nobody comes through a door. A service counts no steps: its workers count their own.
pub data ComesTo (holds : List ℕ → Option (Option (List ℕ))) (unread failed unwritten : Type 0) (words : List (List ℕ)) (status : ℕ) (before now : Option (List ℕ)) (stock stock_now : Option Stock) (count count_after : ℕ) : Type 0 where
  ran : service_of words ≡ None → RunsTo holds unread unwritten words status before now count count_after → stock_now ≡ stock
      → ComesTo holds unread failed unwritten words status before now stock stock_now count count_after
  served : (service : Service) → service_of words ≡ Some service
      → ServesTo holds unread failed unwritten service status before now stock stock_now → count_after ≡ count
      → ComesTo holds unread failed unwritten words status before now stock stock_now count count_after

-- What follows for a status or the words alone. The names are those of what a run comes to.
--
-- range: a status is one of eight.
-- read, write, door: a fault has its cause.
-- usage: words that are no form are answered so, unless that can't be written.
-- command: of words that ask for no service all holds that is shown of commands.
-- refused: a notebook that isn't accepted isn't served, unless a fault comes or memory is wanting.
-- accepted: one that is, is served, unless a fault comes or memory is wanting;
-- complete: and where no count of faults rises or stands at its end, it is, or memory is wanting.
-- report: at 0 the visitors were served, no door has failed, and the report was written and nothing else;
-- fault: at 7 too, and the report counts a door's fault, or there were no doors, which was written.
-- tells: what the report of a service tells of its doors and their visitors.
pub record TopShows (holds : List ℕ → Option (Option (List ℕ))) (unread failed unwritten : Type 0) (words : List (List ℕ)) (status : ℕ) (before now : Option (List ℕ)) (stock stock_now : Option Stock) (count count_after : ℕ) : Type 0 where
  pub range : status ≤ 7
  pub read : status ≡ 3 → unread
  pub write : status ≡ 4 → unwritten
  pub door : status ≡ 7 → failed
  pub usage : command_of words ≡ None → service_of words ≡ None → (status ≡ 2) ⊎ (status ≡ 4) ⊎ (status ≡ 5)
  pub command : service_of words ≡ None → Shows holds unread unwritten words status before now count count_after
  pub refused : (s : Service) (all : List ℕ) → service_of words ≡ Some s → holds s.file ≡ Some (Some all) → IsRefused (read_of all)
      → (status ≡ 1) ⊎ (status ≡ 3) ⊎ (status ≡ 4) ⊎ (status ≡ 5)
  pub accepted : (s : Service) (all : List ℕ) (nb : List Cell) → service_of words ≡ Some s → holds s.file ≡ Some (Some all) → IsAccepted (read_of all) nb
      → (status ≡ 0) ⊎ (status ≡ 3) ⊎ (status ≡ 4) ⊎ (status ≡ 5) ⊎ (status ≡ 7)
  pub complete : (s : Service) (all : List ℕ) (nb : List Cell) → service_of words ≡ Some s → holds s.file ≡ Some (Some all) → IsAccepted (read_of all) nb
      → (unread → ⊥) → (failed → ⊥) → (unwritten → ⊥) → (status ≡ 0) ⊎ (status ≡ 5)
  pub report : (s : Service) (all : List ℕ) (nb : List Cell) → service_of words ≡ Some s → holds s.file ≡ Some (Some all) → IsAccepted (read_of all) nb
      → status ≡ 0 → (r : Report) × (is : IsServed nb s stock stock_now failed r) × All (λ (d : Seen). d.faults ≡ 0) is.returned × (r.doors ≡ 0) × Took before now (report_line r)
  pub fault : (s : Service) (all : List ℕ) (nb : List Cell) → service_of words ≡ Some s → holds s.file ≡ Some (Some all) → IsAccepted (read_of all) nb
      → status ≡ 7 → ((r : Report) × IsServed nb s stock stock_now failed r × (0 < r.doors) × Took before now (report_line r))
      ⊎ (Stays stock stock_now × Took before now (codes "door fault\n"))
  pub tells : (s : Service) (nb : List Cell) (r : Report) (is : IsServed nb s stock stock_now failed r) → Tells (alone_in nb usual_budget) s.visitors is.doors is.returned r
