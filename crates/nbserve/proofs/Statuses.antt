-- What is claimed of the status follows from what the run comes to.
use Rattle.std.proofs.Common.{◌≡◌, sym, subst, inl, inr, ◌⊎◌, ◌∙◌, ℕ, List, arith}
use Rattle.std.specs.Prelude.{Option, Some, None}
use Rattle.std.proofs.lemmas.Option.{same_Some}
use Rattle.command_meaning.specs.Services.{Service, service_of}
use Rattle.link_io.specs.Porches.{Stock}
use Rattle.program_meaning.specs.Program.{usual_budget}
use Rattle.py_tree.specs.Trees.{Cell}
use Rattle.ws_server.proofs.Reported.{reported}
use Rattle.ws_server.specs.Told.{Tells}
use Rattle.ws_server.specs.Visitors.{alone_in}
use Rattle.ws_server.specs.declared.report.Report.{Report}
use Rattle.nbserve.proofs.Output.{runs_show}
use Rattle.nbserve.proofs.Service.{Cause, cause_accepted, cause_door, cause_of, cause_range, cause_read, cause_refused, cause_write, serves_fault, serves_report}
use Rattle.nbserve.specs.Output.{RunsTo}
use Rattle.nbserve.specs.Service.{IsServed, ServesTo}
use Rattle.nbserve.specs.Top as top
use Rattle.nbserve.specs.Top.{ComesTo, TopShows}

pub other_words : (words : List (List ℕ)) (s : Service) → service_of words ≡ None → service_of words ≡ Some s → ⊥
other_words words s none some = let no : None ≡ Some s = sym none ∙ some in cc

module _ (holds : List ℕ → Option (Option (List ℕ))) (unread failed unwritten : Type 0) (words : List (List ℕ)) (status : ℕ) (before now : Option (List ℕ)) (stock stock_now : Option Stock) (count count_after : ℕ) where
  abbrev Shown : Type 0
  Shown = TopShows holds unread failed unwritten words status before now stock stock_now count count_after

  report_tells : (s : Service) (nb : List Cell) (r : Report) (is : IsServed nb s stock stock_now failed r)
      → Tells (alone_in nb usual_budget) s.visitors is.doors is.returned r
  report_tells s nb r is = reported (alone_in nb usual_budget) s.visitors is.doors is.returned r is.report

  -- words that ask for no service
  ran_shows : service_of words ≡ None → RunsTo holds unread unwritten words status before now count count_after → Shown
  ran_shows none runs =
      let shows = runs_show holds unread unwritten words status before now count count_after runs in
      record {
        range = let six = shows.range in omega (arith, six);
        read = shows.read;
        write = shows.write;
        door = λ seven. let six = shows.range in absurd (omega (arith, six, seven));
        usage = λ no_command no_service. shows.usage no_command;
        command = λ no_service. shows;
        refused = λ s all some. absurd (other_words words s none some);
        accepted = λ s all nb some. absurd (other_words words s none some);
        complete = λ s all nb some. absurd (other_words words s none some);
        report = λ s all nb some. absurd (other_words words s none some);
        fault = λ s all nb some. absurd (other_words words s none some);
        tells = report_tells;
      }

  -- words that ask for a service
  module _ (service : Service) (asked : service_of words ≡ Some service) (serves : ServesTo holds unread failed unwritten service status before now stock stock_now) where
    abbrev Causes : Service → Type 0
    Causes s = Cause holds unread failed unwritten s status before now stock stock_now

    serves_for : (s : Service) → service_of words ≡ Some s → ServesTo holds unread failed unwritten s status before now stock stock_now
    serves_for s some =
        subst (λ t. ServesTo holds unread failed unwritten t status before now stock stock_now) (same_Some service s (sym asked ∙ some)) serves

    cause_for : (s : Service) → service_of words ≡ Some s → Causes s
    cause_for s some = cause_of holds unread failed unwritten s status before now stock stock_now (serves_for s some)

    served_read : status ≡ 3 → unread
    served_read = cause_read holds unread failed unwritten service status before now stock stock_now (cause_for service asked)

    served_write : status ≡ 4 → unwritten
    served_write = cause_write holds unread failed unwritten service status before now stock stock_now (cause_for service asked)

    served_door : status ≡ 7 → failed
    served_door = cause_door holds unread failed unwritten service status before now stock stock_now (cause_for service asked)

    served_complete : (status ≡ 0) ⊎ (status ≡ 3) ⊎ (status ≡ 4) ⊎ (status ≡ 5) ⊎ (status ≡ 7) → (unread → ⊥) → (failed → ⊥) → (unwritten → ⊥)
        → (status ≡ 0) ⊎ (status ≡ 5)
    served_complete (inl zero) read door write = inl zero
    served_complete (inr (inl three)) read door write = absurd (read (served_read three))
    served_complete (inr (inr (inl four))) read door write = absurd (write (served_write four))
    served_complete (inr (inr (inr (inl five)))) read door write = inr five
    served_complete (inr (inr (inr (inr seven)))) read door write = absurd (door (served_door seven))

    served_shows : Shown
    served_shows = record {
      range = cause_range holds unread failed unwritten service status before now stock stock_now (cause_for service asked);
      read = served_read;
      write = served_write;
      door = served_door;
      usage = λ no_command none. absurd (other_words words service none asked);
      command = λ none. absurd (other_words words service none asked);
      refused = λ s all some told never.
          cause_refused holds unread failed unwritten s status before now stock stock_now all told never (cause_for s some);
      accepted = λ s all nb some told ok.
          cause_accepted holds unread failed unwritten s status before now stock stock_now all told nb ok (cause_for s some);
      complete = λ s all nb some told ok. served_complete
          (cause_accepted holds unread failed unwritten s status before now stock stock_now all told nb ok (cause_for s some));
      report = λ s all nb some told ok.
          serves_report holds unread failed unwritten s status before now stock stock_now all told nb ok (serves_for s some);
      fault = λ s all nb some told ok.
          serves_fault holds unread failed unwritten s status before now stock stock_now all told nb ok (serves_for s some);
      tells = report_tells;
    }

  pub comes_shows : ComesTo holds unread failed unwritten words status before now stock stock_now count count_after → Shown
  comes_shows (top.ran none runs same) = ran_shows none runs
  comes_shows (top.served service asked serves still) = served_shows service asked serves
